use Rattle.std.proofs.Common.{◌≡◌, ◌++◌, refl}
use Rattle.std.specs.List.{slice_range}
use Rattle.aliasplan_each.proofs.PieceFacts.{moved, rest_behind}
use Rattle.aliasplan_each.proofs.pending.Pending.give.Goals as goal

pub returns : goal.returns
returns c =
    let cut : slice_range c.self.inside.room.items c.self.inside.used c.self.inside.held ≡ c.in-Some.piece.now ++ c.in-Some.field-0-1.now = rw c.deref.ensures.value at c.in-Some.ensures.bytes in
    let lines = rw c.deref.ensures.value at c.in-Some.ensures.lines in
    moved _ _ _ _ _ c.in-Some.piece.now c.in-Some.field-0-1.now (rw (← c.self.view_is) lines) (rw (← c.self.view_is) cut) refl c.in_ok-extend_from_slice.ensures.items (rest_behind c.self.inside.room.items c.in-Some.piece.now c.in-Some.field-0-1.now c.self.inside.used c.self.inside.held cut)
