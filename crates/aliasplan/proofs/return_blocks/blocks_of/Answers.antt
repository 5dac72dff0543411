use Rattle.std.proofs.Common.{◌<◌, ◌∷◌, [], length, get_or, arith, length-append, ◌∙◌}
use Rattle.std.specs.Prelude.{None}
use Rattle.std.proofs.lemmas.Iterator.Adapters.{YieldsList-from_vec}
use Rattle.std.proofs.lemmas.Iterator.Consumers.{YieldsList-turn}
use Rattle.std.proofs.lemmas.List.{get_or_default}
use Rattle.std.proofs.lemmas.List.Elements.{All-push}
use Rattle.std.proofs.lemmas.Option.{slice_get-get_or}
use Rattle.relay_text.specs.TextSets.{IsAscendingBy, text_cmp}
use Rattle.relay_tables.specs.Senders.{Sender}
use Rattle.aliasplan.proofs.BlockFacts.{blocks_more}
use Rattle.aliasplan.proofs.return_blocks.blocks_of.Goals as goal

pub loop-lines-preserved : goal.loop-lines-preserved
loop-lines-preserved c =
    let senders = c.args.graph.now.senders in
    let i = c.loop-lines.number in
    let yielded = c.loop-lines.yielded in
    let lines = c.in-Some.lines in
    let old = c.loop-lines.invariant in
    let given = c.into_iter-lines-iterator.ensures.into_iter_gives in
    let road = YieldsList-from_vec {s = c.into_iter-lines-iterator.result} c.args.lists.items given.0 (given.1 ∙ c.args.lists.ok.0) in
    let turn = YieldsList-turn road yielded c.loop-lines.lines-iterator c.loop-lines.yielded_by c.next.result c.next.new.self lines c.in-Some.is c.next.ensures.steps in
    let inside : i < length senders = omega (arith, old.count, turn.0, c.requires) in
    let sender : Sender = get_or senders i None in
    record {
      count = omega (arith, length-append yielded (lines ∷ []), old.count);
      blocks =
          blocks_more senders yielded i sender lines c.loop-lines.blocks.items c.add_block.new.blocks.items old.count inside (get_or_default senders i sender None inside) old.blocks
          (c.in_ok-add_block.ensures.block sender (slice_get-get_or senders i None inside));
      ascending = All-push (IsAscendingBy text_cmp) yielded lines old.ascending c.in_ok-add_block.ensures.ascending;
    }
