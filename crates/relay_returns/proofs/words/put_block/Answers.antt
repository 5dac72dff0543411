use Rattle.std.proofs.Common.{◌++◌, decimal}
use Rattle.std.proofs.lemmas.Result.{IfOk-equal}
use Rattle.relay_text.specs.Addresses.{path_text_of}
use Rattle.relay_wire.specs.PlanText.{lines_of}
use Rattle.relay_returns.proofs.Blocks.{block_is}
use Rattle.relay_returns.proofs.words.put_block.Goals as goal

pub returns : goal.returns
returns c =
    IfOk-equal c.put_lines.result c.put_lines.new.out.items (c.push.new.self.items ++ lines_of c.as_slice.result.now) _ c.put_lines.ensures
    (rw (c.as_slice.ensures, c.in_ok-push.ensures.items, c.in_ok-write_path.ensures.ok, c.in_ok-extend_from_slice.ensures.items, c.in_ok-put_number_line.ensures, c.as_ref.ensures.value)
    (block_is c.args.out.now.items (decimal c.args.number) (path_text_of c.args.block.now.sender) c.args.block.now.lines))
