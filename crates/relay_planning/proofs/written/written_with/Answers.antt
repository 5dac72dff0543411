use Rattle.std.proofs.Common.{◌∙◌, ℕ, length, sum_by, ap}
use Rattle.relay_planning.specs.declared.summary.Summary.{Summary}
use Rattle.relay_planning.proofs.written.written_with.Goals as goal

pub returns : goal.returns
returns g c =
    let is = c.in_ok-texts.ensures in
    let count = length c.args.transactions.now in
    let summary : ℕ → ℕ → Summary = λ recipients findings. record { transactions = count; recipients = recipients; findings = findings } in
    let recipients = sum_by (λ t. length t.to) c.args.transactions.now in
    (is.0, is.1, is.2, λ hostname. (is.5 hostname, ap (λ n. summary n c.in_ok-texts.field-0.findings) is.3 ∙ ap (λ n. summary recipients n) is.4))
