use Rattle.std.proofs.Common.{◌≢◌, List, AllPairs, IsTrue, sym, subst}
use Rattle.std.specs.List.{list_all}
use Rattle.relay_tables.specs.declared.include_entry.IncludeEntry.{IncludeEntry}
use Rattle.relay_tables.specs.Parts.{is_good_include}
use Rattle.relay_planning.specs.Delivery.{entry_of_include}
use Rattle.relay_planning.proofs.JobFileFacts.{good_includes, pairs_map}
use Rattle.relay_planning.proofs.lookup.tables_of.Goals as goal

pub build-requires-clause-distinct : goal.build-requires-clause-distinct
build-requires-clause-distinct c =
    subst (AllPairs (λ (a b : IncludeEntry). a.path ≢ b.path)) (sym c.requires.includes) (pairs_map (λ (a b : IncludeEntry). a.path ≢ b.path) entry_of_include c.args.job.now.includes c.requires.job.paths)

pub build-requires-clause-items : goal.build-requires-clause-items
build-requires-clause-items c = subst (λ (es : List IncludeEntry). IsTrue (list_all is_good_include es)) (sym c.requires.includes) (good_includes c.parsed_files.ensures.includes c.args.job.now.includes)
