use Rattle.std.proofs.Common.{ℕ, List, [], ◌∷◌, ◌++◌, get_or, ap, sym, ◌∙◌}
use Rattle.relay_claims.specs.Counting.{times}
use Rattle.relay_claims.specs.Settled.{places_of}
use Rattle.relay_claims.proofs.Work.{claims_one}
use Rattle.relay_rounds.specs.Winners.{keys_won}
use Rattle.relay_rounds.proofs.Winners.{wins_key, wins_none}
use Rattle.relay_rounds.proofs.worker.Worker.claim.Goals as goal

pub returns-in-Won-clause-places : goal.returns-in-Won-clause-places
returns-in-Won-clause-places c x = let j : ℕ = c.args.j in
    ap (λ s. times x (places_of s.settled)) c.keep.ensures.seat ∙ ap (λ ps. times x (places_of ps)) c.in-Won.ensures.settled ∙ claims_one x j j c.args.self.now.seat.settled

pub returns-in-Won-clause-kept : goal.returns-in-Won-clause-kept
returns-in-Won-clause-kept c fine =
    let j : ℕ = c.args.j in let keys : List ℕ = c.args.keys.now in let before = c.args.self.now.seat.settled in
    c.keep.ensures.won fine ∙ ap (λ (xs : List ℕ). xs ++ get_or keys j 0 ∷ []) (c.requires.kept (sym c.keep.ensures.refused ∙ fine))
    ∙ sym (wins_key keys before j) ∙ ap (λ ps. keys_won keys ps) (sym c.in-Won.ensures.settled) ∙ ap (λ s. keys_won keys s.settled) (sym c.keep.ensures.seat)

pub returns-in-Held-clause-places : goal.returns-in-Held-clause-places
returns-in-Held-clause-places c x = ap (λ ps. times x (places_of ps)) c.in-Held.ensures.settled ∙ claims_one x c.args.j c.in-Held.field-0 c.args.self.now.seat.settled

pub returns-in-Held-clause-kept : goal.returns-in-Held-clause-kept
returns-in-Held-clause-kept c fine = let keys : List ℕ = c.args.keys.now in
    c.requires.kept fine ∙ sym (wins_none keys c.args.self.now.seat.settled c.args.j c.in-Held.field-0 c.in-Held.ensures.held.1) ∙ ap (λ ps. keys_won keys ps) (sym c.in-Held.ensures.settled)
