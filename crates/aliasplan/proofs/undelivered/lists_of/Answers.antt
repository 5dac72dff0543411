use Rattle.std.proofs.Common.{◌≡◌, ◌<◌, ℕ, List, [], length, get_or, take, arith, sym, subst, ◌∙◌}
use Rattle.std.specs.Prelude.{Contains}
use Rattle.std.proofs.lemmas.List.{take_all, length-set}
use Rattle.std.proofs.lemmas.List.Elements.{All-set}
use Rattle.aliasplan.specs.ReturnLines.{AreFindings}
use Rattle.relay_planning.proofs.NumberFacts.{slice_get_below}
use Rattle.aliasplan.proofs.ReturnNodes.{lists_more}
use Rattle.aliasplan.proofs.undelivered.lists_of.Goals as goal

pub loop-node-init : goal.loop-node-init
loop-node-init c =
    let lists = c.in_ok-lists.lists.items in
    let h = c.in_ok-lists.ensures in record {
      long = h.long;
      each = λ n node inside at. absurd (omega (arith, inside.1));
      findings = λ k d below.
          let none : get_or lists k d ≡ [] = h.empty k d below in
          λ line has. let no = subst (λ (ls : List (List ℕ)). Contains ls line) none has in absurd (omega (arith, no.1));
      routing = c.requires.routing;
      via = c.requires.via;
    }

pub loop-node-preserved : goal.loop-node-preserved
loop-node-preserved c =
    let job = c.args.job.now in
    let g = c.args.graph.now in
    let nodes = c.args.nodes.now in
    let i = c.loop-node.node-index in
    let m : ℕ = get_or nodes i 0 in
    let lists = c.loop-node.lists.items in
    let lines = c.in_ok-lines.lines in
    let old = c.loop-node.invariant in
    let inside = c.loop-node-test.true in
    let below : m < length g.nodes = c.requires.nodes i 0 inside in
    let at = slice_get_below g.nodes m below in
    record {
      long = length-set lists m lines ∙ old.long;
      each = lists_more job g nodes i lists lines inside (omega (arith, below, old.long)) old.each c.in_ok-lines.ensures.lines;
      findings = All-set AreFindings lists m lines (λ line has. let f = (c.in_ok-lines.ensures.lines at.0 at.1).each line has in (f.0, f.2)) old.findings;
      routing = c.in_ok-lines.ensures.kept.routing ∙ old.routing;
      via = c.in_ok-lines.ensures.kept.via ∙ old.via;
    }

pub returns-clause-lines : goal.returns-clause-lines
returns-clause-lines c =
    let nodes = c.args.nodes.now in
    let i = c.loop-node.node-index in
    let whole : take i nodes ≡ nodes = take_all i nodes c.loop-node-test.false in
    record {
      long = c.loop-node.invariant.long;
      each = λ n node has at. c.loop-node.invariant.each n node (subst (λ (ns : List ℕ). Contains ns n) (sym whole) has) at;
    }
