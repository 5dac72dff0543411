use Rattle.std.proofs.Common.{arith, List, ◌∷◌, [], ◌++◌, ap, sym, ◌∙◌}
use Rattle.std.proofs.lemmas.List.{take_all}
use Rattle.relay_tables.specs.declared.node.Node.{Node}
use Rattle.relay_tables.specs.Numbering.{entries_of}
use Rattle.relay_tables.proofs.Numbers.{entries_more, length-entries}
use Rattle.relay_tables.proofs.numbering.nodes_in_front.Goals as goal

pub loop-number-preserved : goal.loop-number-preserved
loop-number-preserved c =
    let l = c.loop-number in
    let n : Node = c.node_in_front.result in
    let more = entries_more c.args.aliases c.args.includes l.number n (omega arith) c.node_in_front.ensures.alias c.node_in_front.ensures.include in
    record {
      nodes = c.push_reserved.ensures.items ∙ ap (λ (ns : List Node). ns ++ n ∷ []) l.invariant.nodes ∙ sym more;
      room = omega (arith, l.invariant.room, c.push_reserved.ensures.len, c.push_reserved.ensures.capacity);
    }

pub returns : goal.returns
returns c =
    let l = c.loop-number in
    l.invariant.nodes ∙ take_all l.number (entries_of c.args.aliases c.args.includes) (omega (arith, length-entries c.args.aliases c.args.includes))
