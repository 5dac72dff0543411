use Rattle.std.proofs.Common.{◌≡◌, ◌⊎◌, ◌<◌, ℕ, List, ◌∷◌, [], ◌++◌, ◌+◌, length, get_or, take, arith, refl, ap, subst, ◌∙◌, sym, inl, inr}
use Rattle.std.specs.Prelude.{IsTrue, ◌↔◌}
use Rattle.std.proofs.lemmas.List.{take_all, take_more, get_or_default}
use Rattle.relay_text.specs.Bytes.{has_text}
use Rattle.relay_pairs.specs.declared.reached.Reached.{Reached}
use Rattle.relay_planning.specs.Routes.{HaveLine, IsLineOfPair, AreOutgoing}
use Rattle.relay_planning.proofs.OutgoingFacts.{some_more}
use Rattle.relay_planning.proofs.outgoing.Outgoing.add_all.Goals as goal

pub loop-pair-init : goal.loop-pair-init
loop-pair-init g c = record {
  graph = refl;
  routing = c.requires.routing;
  via = c.requires.via;
  known = c.requires.known;
  outgoing = c.requires.outgoing;
  lines = λ q. (λ old. inl old, λ either. elim either [ inl old ↦ old | inr none ↦ absurd (omega (arith, none.1.1)) ]);
  few_recipients = rw (c.requires.empty.0) (omega arith);
  few_deliveries = rw (c.requires.empty.1) (omega arith);
}

pub loop-pair-preserved : goal.loop-pair-preserved
loop-pair-preserved g c =
    let job = c.args.job.now in
    let g = c.args.self.now.graph.now in
    let pairs = c.args.pairs.now in
    let i = c.loop-pair.pair-index in
    let first : Reached = record { sender = 0; node = 0 } in
    let pair = get_or pairs i first in
    let inside : i < length pairs = omega arith in
    let here : get_or pairs i pair ≡ pair = get_or_default pairs i pair first inside in
    let h = c.in_ok-add.ensures in
    let old = c.loop-pair.invariant in
    let pushed : take (i + 1) pairs ≡ take i pairs ++ pair ∷ [] = take_more pairs i pair inside ∙ ap (λ x. take i pairs ++ x ∷ []) here in
    record {
      graph = h.same ∙ old.graph;
      routing = h.kept.routing ∙ old.routing;
      via = h.kept.via ∙ old.via;
      known = rw (sym old.graph, sym h.same) h.known;
      outgoing = rw pushed (subst (λ x. AreOutgoing job x (take i pairs ++ pair ∷ []) c.add.new.self.known.items c.add.new.self.deliveries.items) old.graph (h.outgoing (take i pairs) (rw (old.graph) old.outgoing)));
      lines = λ q.
          some_more (IsLineOfPair job g q) pairs i pair (IsTrue (has_text c.args.lines.now q)) (IsTrue (has_text c.loop-pair.lines q)) (IsTrue (has_text c.add.new.lines q)) inside here
          (old.lines q)
          (subst (λ x. IsTrue (has_text c.add.new.lines q) ↔ (IsTrue (has_text c.loop-pair.lines q) ⊎ IsLineOfPair job x q pair)) old.graph (h.lines q));
      few_recipients = omega (arith, h.few_recipients, old.few_recipients);
      few_deliveries = omega (arith, h.few_deliveries, old.few_deliveries);
    }

pub returns-clause-lines : goal.returns-clause-lines
returns-clause-lines g c =
    let whole : take c.loop-pair.pair-index c.args.pairs.now ≡ c.args.pairs.now = take_all c.loop-pair.pair-index c.args.pairs.now (omega arith) in
    let P : List Reached → Type 0 = λ ps. (q : List ℕ) → IsTrue (has_text c.loop-pair.lines q) ↔ (IsTrue (has_text c.args.lines.now q) ⊎ HaveLine c.args.job.now c.args.self.now.graph.now ps q) in
    subst P whole c.loop-pair.invariant.lines
