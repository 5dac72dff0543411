use Rattle.std.proofs.Common.{◌≡◌, ℕ, List, sym, subst}
use Rattle.std.specs.Io.KnownBytes.{Appends}
use Rattle.relay_explain.specs.PiecedTexts.{text_of}
use Rattle.aliasplan.specs.Transfers.{Fronts}
use Rattle.aliasplan_explain.specs.Runs.{IsExplained}
use Rattle.aliasplan_explain.proofs.RunFacts.{explains_read, front_read}
use Rattle.aliasplan_explain.proofs.running.run_explain.Goals as goal

pub returns-in-Ok-clause-explains : goal.returns-in-Ok-clause-explains
returns-in-Ok-clause-explains g c =
    let limits = c.args.crew.now.limits in
    let it = c.in_ok-text.field-0 in
    let old = g.S.Sink.contents c.args.writer.now in
    let new = g.S.Sink.contents c.write_pieces.new.writer in
    let due = subst (λ (b : List ℕ). IsExplained limits c.args.asked.now b (text_of it.text) it.in_plan) c.as_bytes.ensures c.in_ok-text.ensures.explained in
    let pieces : c.as_slice.result.now ≡ it.text = search (c.as_slice.ensures, c.in_ok-text.text-is, sym c.in_ok-text.text-is) in
    let written = subst (λ (ps : List (List ℕ)). Appends old new (text_of ps)) pieces c.in-Ok.ensures.ok in
    explains_read limits c.args.asked.now c.in_ok-input.input (text_of it.text) old new it.in_plan due (g.F.Feed.remaining c.args.reader.now) c.in_ok-input.ensures.all written

pub returns-clause-front : goal.returns-clause-front
returns-clause-front g c _ =
    let limits = c.args.crew.now.limits in
    let it = c.in_ok-text.field-0 in
    let old = g.S.Sink.contents c.args.writer.now in
    let new = g.S.Sink.contents c.write_pieces.new.writer in
    let due = subst (λ (b : List ℕ). IsExplained limits c.args.asked.now b (text_of it.text) it.in_plan) c.as_bytes.ensures c.in_ok-text.ensures.explained in
    let pieces : c.as_slice.result.now ≡ it.text = search (c.as_slice.ensures, c.in_ok-text.text-is, sym c.in_ok-text.text-is) in
    let written = subst (λ (ps : List (List ℕ)). Fronts old new (text_of ps)) pieces c.in-Err.ensures.front in
    front_read limits c.args.asked.now c.in_ok-input.input (text_of it.text) old new it.in_plan due (g.F.Feed.remaining c.args.reader.now) c.in_ok-input.ensures.all written
