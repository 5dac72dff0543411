use Rattle.std.proofs.Common.{◌≡◌, List, ap, ◌∙◌}
use Rattle.std.proofs.lemmas.Result.{IfOk-weaker}
use Rattle.relay_text.specs.Lines.{kept_lines}
use Rattle.relay_routes.specs.declared.exchanger_fates.Numbered.{Numbered}
use Rattle.relay_routes.specs.ExchangerLines.{exchanger_lines_of, exchangers_of_domain, exchangers_on, exchangers_or, with_fates}
use Rattle.relay_routes.proofs.FateFacts.{with_fates-same}
use Rattle.relay_routes.proofs.exchanger_fates.exchanger_lines.Goals as goal

pub returns : goal.returns
unfolding exchanger_lines_of
returns c =
    let domain = c.args.domain.now in
    let lines = kept_lines c.args.table.now in
    let found = c.in_ok-found.found in
    let exchangers : c.in_ok-exchangers.exchangers.items ≡ exchangers_of_domain c.args.table.now domain =
    c.in_ok-exchangers.ensures
    ∙ ap (λ (ns : List Numbered). exchangers_or ns found.address domain) c.in_ok-found.ensures.exchangers
    ∙ ap (λ o. exchangers_or (exchangers_on domain lines) o domain) c.in_ok-found.ensures.address in
    let names = with_fates-same c.in_ok-own_names.own_names c.args.own_names.now c.in_ok-own_names.ensures (exchangers_of_domain c.args.table.now domain) in
    IfOk-weaker c.with_fates.result _ _ (λ made is. is ∙ ap (with_fates c.in_ok-own_names.own_names) exchangers ∙ names) c.with_fates.ensures
