use Rattle.std.proofs.Common.{arith, ◌≡◌, ℕ, List, ◌++◌, ◌∷◌, [], take, ap, sym, ◌∙◌}
use Rattle.std.proofs.lemmas.List.{take_all}
use Rattle.relay_tables.specs.Adjacency.{lists_of, row_of}
use Rattle.relay_tables.proofs.Cuts.{length-lists}
use Rattle.relay_tables.proofs.RowRecords.{one_row_more}
use Rattle.relay_tables.proofs.adjacency.Adjacency.from_parts.Goals as goal

pub loop-number-preserved : goal.loop-number-preserved
loop-number-preserved c =
    let l = c.loop-number in
    let rows : List (List ℕ) = lists_of c.args.numbers.items c.args.ends.items in
    let more = one_row_more rows l.number (let t = c.loop-number-test.true in omega (arith, c.len-number-end.ensures, length-lists c.args.numbers.items c.args.ends.items, c.args.ends.ok.0)) in
    let row : c.row_at.result.now ≡ row_of rows l.number = rw (c.deref.ensures.value, c.deref-in-loop-number.ensures.value) at c.row_at.ensures in
    c.in_ok-push.ensures.ok ∙ ap (λ (rs : List (List ℕ)). rs ++ c.row_at.result.now ∷ []) l.invariant ∙ ap (λ (r : List ℕ). take l.number rows ++ r ∷ []) row ∙ sym more

pub returns : goal.returns
returns c =
    let l = c.loop-number in
    let rows : List (List ℕ) = lists_of c.args.numbers.items c.args.ends.items in
    l.invariant ∙ take_all l.number rows (let t = c.loop-number-test.false in omega (arith, c.len-number-end.ensures, length-lists c.args.numbers.items c.args.ends.items, c.args.ends.ok.0))
