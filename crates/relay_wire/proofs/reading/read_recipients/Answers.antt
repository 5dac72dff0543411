use Rattle.std.proofs.Common.{◌≡◌, ◌≢◌, ℕ, List, sym, ◌∙◌, false}
use Rattle.std.specs.Str.{bytes_eq}
use Rattle.relay_wire.specs.Script.{data_line}
use Rattle.relay_wire.proofs.ScriptParts.{no_lines, more_behind, next_recipient, IsRecipient, one_more, good_more, all_read, same_bytes, not_bytes}
use Rattle.relay_wire.proofs.reading.read_recipients.Goals as goal

other : (line given : List ℕ) → false ≡ bytes_eq line given → given ≡ data_line → line ≢ data_line
other line given h is same = not_bytes line given h (same ∙ sym is)

pub returns-then-not-is_empty-clause-none : goal.returns-then-not-is_empty-clause-none
returns-then-not-is_empty-clause-none c =
    λ has. more_behind c.loop-line.rest.now c.in-Some.line.now c.in-Some.after.now c.in-Some.ensures.lines c.in-Some.ensures.bytes
    (same_bytes c.in-Some.line.now c.as_slice.result.now c.if-eq.ensures ∙ c.as_slice.ensures)
    (sym c.if-not-is_empty.ensures)
    (c.loop-line.invariant.goes_on has)

pub returns-then-eq-clause-some : goal.returns-then-eq-clause-some
returns-then-eq-clause-some c = (
  c.loop-line.invariant.good,
  all_read c.args.bytes.now c.loop-line.rest.now c.in-Some.line.now c.in-Some.after.now c.loop-line.to.items c.loop-line.invariant.cut c.in-Some.ensures.bytes
      (same_bytes c.in-Some.line.now c.as_slice.result.now c.if-eq.ensures ∙ c.as_slice.ensures)
      (sym c.if-not-is_empty.ensures),
)

pub returns-in_default-2-clause-none : goal.returns-in_default-2-clause-none
returns-in_default-2-clause-none c =
    λ has.
    let next : IsRecipient c.in-Some.line.now c.in-Some.after.now =
    next_recipient c.loop-line.rest.now c.in-Some.line.now c.in-Some.after.now c.in-Some.ensures.lines c.in-Some.ensures.bytes (other c.in-Some.line.now c.as_slice.result.now c.if-eq.ensures c.as_slice.ensures) (c.loop-line.invariant.goes_on has) in
    let none = rw c.in_default-2.is at c.in_ok-address.ensures.none in
    none next.a next.good next.is

pub loop-line-preserved : goal.loop-line-preserved
loop-line-preserved c =
    let found = rw c.in-Some-2.is at c.in_ok-address.ensures.some in
    record {
      good = rw c.in_ok-push.ensures.items (good_more c.loop-line.to.items c.in-Some-2.address c.loop-line.invariant.good found.0);
      cut = rw c.in_ok-push.ensures.items (one_more c.args.bytes.now c.loop-line.rest.now c.in-Some.line.now c.in-Some.after.now c.loop-line.to.items c.in-Some-2.address c.loop-line.invariant.cut c.in-Some.ensures.bytes found.1);
      goes_on = λ has.
          let next : IsRecipient c.in-Some.line.now c.in-Some.after.now =
          next_recipient c.loop-line.rest.now c.in-Some.line.now c.in-Some.after.now c.in-Some.ensures.lines c.in-Some.ensures.bytes (other c.in-Some.line.now c.as_slice.result.now c.if-eq.ensures c.as_slice.ensures) (c.loop-line.invariant.goes_on has) in
          next.more;
    }

pub returns-clause-none : goal.returns-clause-none
returns-clause-none c = λ has. no_lines c.loop-line.rest.now c.in_default.ensures.none (c.loop-line.invariant.goes_on has)
