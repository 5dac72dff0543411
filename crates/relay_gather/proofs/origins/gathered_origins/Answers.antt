use Rattle.std.proofs.Common.{◌≡◌, ℕ, List, ◌∙◌}
use Rattle.std.proofs.lemmas.Result.{err_from_is_err_and}
use Rattle.relay_gather.specs.Source.{Answer}
use Rattle.relay_gather.proofs.Counting.{refused_later}
use Rattle.relay_gather.proofs.origins.gathered_origins.Goals as goal

pub returns-in_err-transport-clause-refused : goal.returns-in_err-transport-clause-refused
returns-in_err-transport-clause-refused g c =
    let answer : List ℕ → Answer = g.D.Source.answer c.args.source.now in
    let p = err_from_is_err_and c.from_residual-in_err-transport.result c.from_residual-in_err-transport.ensures.1 in
    let second : (q : List ℕ) → g.D.Source.answer c.counted_all.new.source q ≡ answer q = λ q. c.in_ok-aliases.ensures.alike q ∙ c.in_ok-settings.ensures.alike q in
    rw (p.1, p.2)
    (refused_later (g.D.Source.answer c.counted_one-2.new.source) answer c.in_err-transport.field-0.0 (λ q. c.in_ok-mailboxes.ensures.alike q ∙ second q) c.in_err-transport.ensures.err)

pub returns-in_err-mx-clause-refused : goal.returns-in_err-mx-clause-refused
returns-in_err-mx-clause-refused g c =
    let answer : List ℕ → Answer = g.D.Source.answer c.args.source.now in
    let p = err_from_is_err_and c.from_residual-in_err-mx.result c.from_residual-in_err-mx.ensures.1 in
    let second : (q : List ℕ) → g.D.Source.answer c.counted_all.new.source q ≡ answer q = λ q. c.in_ok-aliases.ensures.alike q ∙ c.in_ok-settings.ensures.alike q in
    let third : (q : List ℕ) → g.D.Source.answer c.counted_one-2.new.source q ≡ answer q = λ q. c.in_ok-mailboxes.ensures.alike q ∙ second q in
    rw (p.1, p.2)
    (refused_later (g.D.Source.answer c.counted_all-2.new.source) answer c.in_err-mx.field-0.0 (λ q. c.in_ok-transport.ensures.alike q ∙ third q) c.in_err-mx.ensures.err)
