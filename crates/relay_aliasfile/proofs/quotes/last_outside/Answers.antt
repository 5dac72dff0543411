use Rattle.std.proofs.Common.{arith, ap, ◌∙◌, Some}
use Rattle.std.proofs.lemmas.Option.{slice_get-get_or}
use Rattle.relay_aliasfile.proofs.Outside.{last_here, last_found, places_from-other, places_from-inside}
use Rattle.std.specs.List.{last_or}
use Rattle.std.proofs.Common.{sym}
use Rattle.relay_aliasfile.proofs.quotes.last_outside.Goals as goal
use Rattle.relay_aliasfile.proofs.quotes.last_outside.Goals.{then-byte-wanted+then-state, else-byte-wanted, else-byte-wanted-via-then-byte-wanted+else-state, else-byte-wanted-via-else-byte-wanted}

pub loop-place-preserved : goal.loop-place-preserved
loop-place-preserved c =
    let byte = c.args.wanted in
    let text = c.args.text.now in
    let i = c.loop-place.place in
    let s = c.loop-place.state in
    let kept = c.loop-place.invariant.last in
    elim c.if-byte-wanted.branch [
      | then-byte-wanted+then-state w ↦ rw (w.last-is, c.past-state.ensures) (record {
        last = last_here byte s i text c.loop-place.last _ (omega arith) w.if-byte-wanted.true w.if-state.true kept;
        byte = slice_get-get_or text i 0 (omega arith) ∙ ap (λ b. Some b) w.if-byte-wanted.true;
      })
      | else-byte-wanted w ↦ elim w.else-byte-wanted.branch [
        | else-byte-wanted-via-then-byte-wanted+else-state v ↦ rw (w.last-is, c.past-state.ensures) (record {
          last = ap (last_or c.loop-place.last) (sym (places_from-inside byte s i text (omega arith) v.if-state.false)) ∙ kept;
          byte = c.loop-place.invariant.byte;
        })
        | else-byte-wanted-via-else-byte-wanted v ↦ rw (w.last-is, c.past-state.ensures) (record {
          last = ap (last_or c.loop-place.last) (sym (places_from-other byte s i text (omega arith) v.if-byte-wanted.false)) ∙ kept;
          byte = c.loop-place.invariant.byte;
        })
      ]
    ]

pub returns-clause-place : goal.returns-clause-place
returns-clause-place c = last_found c.args.wanted c.loop-place.state c.loop-place.place c.args.text.now c.loop-place.last (omega arith) c.loop-place.invariant.last
