use Rattle.std.proofs.Common.{ℕ, ◌+◌, ◌∙◌, ◌++◌, List, ap, sym, subst, take, drop}
use Rattle.std.proofs.lemmas.Result.{err_from_is_err_and}
use Rattle.aliasplan.specs.Transfers.{Fronts}
use Rattle.relay_explain.specs.PiecedTexts.{text_of}
use Rattle.aliasplan_explain.proofs.RunFacts.{fronts_behind, pieces_apart}
use Rattle.aliasplan_explain.proofs.running.write_pieces.Goals as goal

pub returns-in_err-write_text-clause-front : goal.returns-in_err-write_text-clause-front
returns-in_err-write_text-clause-front g c =
    let contents = g.S.Sink.contents in
    let p = err_from_is_err_and c.from_residual.result c.from_residual.ensures.1 in
    let pieces = c.args.pieces.now in
    let i = c.loop-piece.piece-index in
    let piece : List ℕ = c.as_bytes.result.now in
    let behind = text_of (drop (i + 1) pieces) in
    let fronts = fronts_behind (contents c.args.writer.now) (contents c.loop-piece.writer) (contents c.write_text.new.writer) (text_of (take i pieces)) piece behind c.loop-piece.invariant.front c.in_err-write_text.ensures.front in
    let apart = pieces_apart pieces i c.piece-item.result c.loop-piece-test.true ∙ ap (λ (l : List ℕ). text_of (take i pieces) ++ (l ++ behind)) (sym c.piece-item.is ∙ sym c.as_bytes.ensures) in
    rw p.1 (subst (λ (l : List ℕ). Fronts (contents c.args.writer.now) (contents c.write_text.new.writer) l) (sym apart) fronts)
