use Rattle.std.proofs.Common.{arith, ◌≡◌, ℕ, List, ◌+◌, ◌-◌, ◌<◌, Some, length, slice_get, sym, ap, ◌∙◌}
use Rattle.std.specs.Prelude.{option_map}
use Rattle.relay_tables.specs.declared.node.Node.{Node}
use Rattle.relay_tables.specs.Targets.{targets_of}
use Rattle.relay_tables.specs.Graphs.{entry_nodes}
use Rattle.relay_tables.proofs.EntrySteps.{alias_entry, include_entry}
use Rattle.relay_tables.proofs.listed.list_of.Goals as goal

pub returns-then-number-aliases-clause-targets : goal.returns-then-number-aliases-clause-targets
returns-then-number-aliases-clause-targets c =
    let d = c.args.tables.now in
    ap (option_map (targets_of d)) (alias_entry d c.args.number (omega (arith, ap length c.aliases-aliases.ensures.entries))) ∙ ap (λ (ts : List Node). Some ts) c.alias_list.ensures.targets

pub returns-else-number-aliases-clause-targets : goal.returns-else-number-aliases-clause-targets
returns-else-number-aliases-clause-targets c =
    let d = c.args.tables.now in
    let n = c.args.number in
    let k = n - length c.aliases-aliases.result.now in
    let sum : length d.aliases + k ≡ n = omega (arith, ap length c.aliases-aliases.ensures.entries) in
    let below : k < length d.includes = omega (arith, c.requires) in
    ap (λ (m : ℕ). option_map (targets_of d) (slice_get (entry_nodes d) m)) (sym sum)
    ∙ ap (option_map (targets_of d)) (include_entry d k below)
    ∙ ap (λ (ts : List Node). Some ts) c.include_list.ensures.targets
