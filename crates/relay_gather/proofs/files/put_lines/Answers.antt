use Rattle.std.proofs.Common.{◌≡◌, ℕ, List, ◌++◌, Result, Ok, Err, OnOk, cond, sym, ap, ◌∙◌}
use Rattle.std.specs.Result.{is_ok}
use Rattle.std.proofs.lemmas.Result.{on_ok_weaker}
use Rattle.relay_gather.proofs.JoinedFiles.{apart-rest}
use Rattle.relay_gather.proofs.files.put_lines.Goals as goal

-- what was put at the end, where it was
where_ok : {T E : Type 0} (r : Result T E) (new put old : List ℕ) → new ≡ cond (is_ok r) put old → OnOk r (new ≡ put)
where_ok (Ok value) new put old h = h
where_ok (Err fault) new put old h = tt

pub returns-then-is_beginning : goal.returns-then-is_beginning
returns-then-is_beginning c =
    let rest = c.loop-line.rest.now in
    let text = c.loop-line.text.items in
    let apart_is = apart-rest rest c.in-Some.line.now c.in-Some.after.now c.in-Some.ensures.lines (sym c.is_beginning.ensures ∙ c.if-is_beginning.true) in
    on_ok_weaker c.extend_from_slice.result
    (λ h. h ∙ ap (λ t. text ++ t) (sym apart_is) ∙ c.loop-line.invariant)
    (where_ok c.extend_from_slice.result c.extend_from_slice.new.self.items (text ++ rest) text c.extend_from_slice.ensures.items)
