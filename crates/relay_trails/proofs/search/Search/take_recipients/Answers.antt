use Rattle.std.proofs.Common.{◌≡◌, ℕ, ◌<◌, List, length, get_or, slice_get, Contains, Some, sym, ap, ◌∙◌, subst, arith}
use Rattle.std.proofs.lemmas.List.Elements.{Contains-get_or}
use Rattle.std.proofs.lemmas.Option.{slice_get-get_or, slice_get_within, get_or_from_slice_get}
use Rattle.relay_trails.specs.declared.step.Link.TheVariants.{Recipient}
use Rattle.relay_trails.specs.Searches.{no_pair}
use Rattle.relay_trails.proofs.Ends.{root_reached}
use Rattle.relay_trails.proofs.Going.{recipient_taken, recipients_end}
use Rattle.relay_trails.proofs.Marking.{marks_long, numbers_after}
use Rattle.relay_trails.proofs.search.Search.take_recipients.Goals as goal

pub place_of-place-requires-clause-listed : goal.place_of-place-requires-clause-listed
place_of-place-requires-clause-listed c =
    let r = c.loop-recipient.recipient in
    let roots = c.roots-node-items.result.now in
    let short : r < length roots = omega arith in
    let n : ℕ = get_or roots r 0 in
    (c.requires.pairs.members (record { sender = 0; node = n })).1 (root_reached c.args.graph.now n (subst (λ (l : List ℕ). Contains l n) c.roots-node-items.ensures (Contains-get_or roots r 0 short)))

pub take-requires : goal.take-requires
take-requires c =
    let inside = slice_get_within c.args.pairs.now c.place_of-place.result _ c.place_of-place.ensures in
    omega (arith, inside, marks_long c.args.graph.now c.args.pairs.now c.loop-recipient.self.marks.items c.loop-recipient.self.steps.items (Recipient c.loop-recipient.recipient) c.loop-recipient.invariant)

pub loop-recipient-preserved : goal.loop-recipient-preserved
loop-recipient-preserved c =
    let r = c.loop-recipient.recipient in
    let roots = c.roots-node-items.result.now in
    let short : r < length roots = omega arith in
    let n : ℕ = get_or roots r 0 in
    let root : slice_get c.args.graph.now.roots r ≡ Some n = ap (λ (l : List ℕ). slice_get l r) (sym c.roots-node-items.ensures) ∙ slice_get-get_or roots r 0 short in
    let steps = c.loop-recipient.self.steps.items in
    let m = c.loop-recipient.invariant in
    let place = c.place_of-place.result in
    let inside = slice_get_within c.args.pairs.now place _ c.place_of-place.ensures in
    let after = numbers_after c.args.graph.now c.args.pairs.now c.loop-recipient.self.marks.items steps (Recipient r) m place (record { sender = 0; node = n }) inside c.take.new.self.marks.items c.take.new.self.steps.items c.in_ok-take.ensures in
    record {
      found = after.0;
      marked = after.1;
      at =
          recipient_taken c.args.graph.now c.args.pairs.now m.found steps r n place m.at root inside (get_or_from_slice_get c.args.pairs.now place _ no_pair c.place_of-place.ensures)
          after.0 c.take.new.self.steps.items after.2;
    }

pub returns : goal.returns
returns c =
    let roots = c.roots-node-items.result.now in
    let e : length roots ≡ length c.args.graph.now.roots = ap length c.roots-node-items.ensures in
    let m = c.loop-recipient.invariant in
    record { found = m.found; marked = m.marked; at = recipients_end c.args.graph.now c.args.pairs.now m.found c.loop-recipient.self.steps.items c.loop-recipient.recipient m.at (omega arith) }
