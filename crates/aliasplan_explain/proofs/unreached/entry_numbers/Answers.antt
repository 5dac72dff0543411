use Rattle.std.proofs.Common.{◌≡◌, ℕ, ◌+◌, ◌<◌, Some, List, Vec, Global, length, set, slice_get, refl, sym, ap, ◌∙◌, subst, arith}
use Rattle.std.specs.Prelude.{IsSome, Contains}
use Rattle.std.proofs.lemmas.Option.{slice_get_within}
use Rattle.relay_tables.specs.Directory.{Directory}
use Rattle.relay_tables.specs.Graphs.{entry_nodes}
use Rattle.relay_planning.specs.Delivery.{directory_of}
use Rattle.aliasplan_explain.specs.Targets.{target_at}
use Rattle.aliasplan_explain.proofs.TargetFacts.{node_has_target}
use Rattle.aliasplan_explain.proofs.UnreachedFacts.{AreSet, none_set, one_passed, one_set, all_set}
use Rattle.aliasplan_explain.proofs.unreached.entry_numbers.Goals as goal
use Rattle.aliasplan_explain.proofs.unreached.entry_numbers.Goals.{in-Some, in_default}

pub loop-number-init : goal.loop-number-init
loop-number-init c =
    let d = directory_of c.args.grounds.now.job.now in
    let aliases : length c.aliases.result.now ≡ length d.aliases = ap length (c.aliases.ensures.entries ∙ ap (λ (x : Directory). x.aliases) c.requires.tables) in
    let includes : length c.includes.result.now ≡ length d.includes = ap length (c.includes.ensures.entries ∙ ap (λ (x : Directory). x.includes) c.requires.tables) in
    none_set d c.args.grounds.now.basis.now.graph.nodes c.in_ok-numbers.numbers.items (omega (arith, aliases, includes, c.in_ok-numbers.ensures.len, c.in_ok-numbers.numbers.ok.0))

pub place_of-requires : goal.place_of-requires
place_of-requires c =
    let job = c.args.grounds.now.job.now in
    let g = c.args.grounds.now.basis.now.graph in
    let n = c.node.result.now in
    subst (λ (x : Directory). IsSome (target_at x n)) (sym c.requires.tables) (node_has_target (directory_of job) job.sender job.recipients g c.requires.graph c.loop-number.number n c.node.ensures)

pub index_mut-requires : goal.index_mut-requires
index_mut-requires c =
    let tables = c.args.grounds.now.basis.now.lookup.tables in
    let within : c.in-Some.place < length (entry_nodes tables) = slice_get_within (entry_nodes tables) c.in-Some.place c.node.result.now c.in-Some.ensures.some in
    omega (arith, within, ap (λ (x : Directory). length (entry_nodes x)) c.requires.tables, c.loop-number.invariant.size, c.loop-number.numbers.ok.0)

pub loop-number-preserved : goal.loop-number-preserved
loop-number-preserved c =
    let d = directory_of c.args.grounds.now.job.now in
    let g = c.args.grounds.now.basis.now.graph in
    let n = c.node.result.now in
    let k = c.loop-number.number in
    let numbers = c.loop-number.numbers.items in
    elim c.match-place_of.branch [
      | in-Some w ↦
          let there : slice_get (entry_nodes d) w.in-Some.place ≡ Some n = subst (λ (x : Directory). slice_get (entry_nodes x) w.in-Some.place ≡ Some n) c.requires.tables w.in-Some.ensures.some in
          let is : c.match-place_of.numbers.items ≡ set numbers w.in-Some.place k = ap (λ (v : Vec ℕ Global). v.items) w.numbers-is in
          subst (λ (ns : List ℕ). AreSet d g.nodes (k + 1) ns) (sym is) (one_set d g.nodes k numbers n w.in-Some.place c.requires.graph.distinct c.node.ensures there c.loop-number.invariant)
      | in_default w ↦
          let none : Contains (entry_nodes d) n → ⊥ = subst (λ (x : Directory). Contains (entry_nodes x) n → ⊥) c.requires.tables (w.in_default.ensures.none refl) in
          let is : c.match-place_of.numbers.items ≡ numbers = ap (λ (v : Vec ℕ Global). v.items) w.numbers-is in
          subst (λ (ns : List ℕ). AreSet d g.nodes (k + 1) ns) (sym is) (one_passed d g.nodes k numbers n c.node.ensures none c.loop-number.invariant)
    ]

pub returns : goal.returns
returns c =
    let job = c.args.grounds.now.job.now in
    let g = c.args.grounds.now.basis.now.graph in
    let all : c.loop-number.number ≡ length g.nodes = omega arith in
    all_set (directory_of job) job.sender job.recipients g c.requires.graph c.loop-number.numbers.items (subst (λ k. AreSet (directory_of job) g.nodes k c.loop-number.numbers.items) all c.loop-number.invariant)
