use Rattle.std.proofs.Common.{◌≡◌, ℕ, false, List, Contains, sym, subst}
use Rattle.std.proofs.lemmas.List.Elements.{All-contains}
use Rattle.relay_loops.specs.Judging.{IsJudged}
use Rattle.relay_loops.specs.Loops.{AreLoopsOf}
use Rattle.relay_loops.specs.Places.{is_left, place_at}
use Rattle.relay_loops.proofs.Answering.{answers_all, first_judged}
use Rattle.relay_loops.proofs.Closing.{if_ok_then}
use Rattle.relay_loops.proofs.loops_among.Goals as goal

pub returns : goal.returns
returns g c =
    let graph = c.args.graph.now in
    let nodes = c.args.nodes.now in
    let in_order : (n : ℕ) → Contains nodes n → Contains c.deref.result.now n =
    λ n among. subst (λ (l : List ℕ). Contains l n) (sym c.deref.ensures.value) (c.in_ok-order.ensures n among) in
    let answered : (n : ℕ) → Contains nodes n → is_left (place_at c.settle.new.places n) ≡ false =
    λ n among. All-contains (λ (m : ℕ). is_left (place_at c.settle.new.places m) ≡ false) c.deref.result.now n c.in_ok-settle.ensures.answered (in_order n among) in
    if_ok_then c.looped.result _ _ c.looped.ensures (λ v e part closed has.
    let first : IsJudged graph part c.args.places.now = first_judged graph part nodes closed has c.args.places.now c.requires.left in
    let known : IsJudged graph part c.settle.new.places = c.in_ok-settle.ensures.judged part first in
    let loops = answers_all graph part nodes c.settle.new.places has c.in_ok-settle.ensures.resting known answered in
    subst (AreLoopsOf graph part) (sym e) loops)
