-- What lists targets, and what is reported of it and of its targets.
use Rattle.std.specs.Prelude.{Option, Some, None, option_map, slice_get}
use Rattle.relay_aliasfile.specs.declared.entry.Entry.{Entry}
use Rattle.relay_tables.specs.declared.node.Node.{Node}
use Rattle.relay_tables.specs.declared.node.Node.TheVariants.{Alias, Include, Mailbox, Remote, Missing, NoInclude, Command, File}
use Rattle.relay_tables.specs.declared.include_entry.IncludeEntry.{IncludeEntry}
use Rattle.relay_tables.specs.Directory.{Directory}
use Rattle.relay_wire.specs.declared.finding.Place.{Place}
use Rattle.relay_wire.specs.declared.finding.Place.TheVariants as places
use Rattle.relay_wire.specs.declared.finding.Finding.{Finding}
use Rattle.relay_wire.specs.declared.finding.Finding.TheVariants as findings
use Rattle.relay_planning.specs.declared.listing.Listing.{Listing}
use Rattle.relay_planning.specs.declared.listing.Listing.TheVariants as listings

-- where a listing's targets stand
abbrev pub place_at : Listing → Place
place_at (listings.Alias name) = places.Alias name.now
place_at (listings.Include path) = places.Include path.now
place_at listings.Envelope = places.Envelope

-- where a node's targets stand, if there is such an entry or include file
abbrev pub place_of : Directory → Node → Option Place
place_of d (Alias number) = option_map (λ (e : Entry). places.Alias e.name) (slice_get d.aliases number)
place_of d (Include number) = option_map (λ (e : IncludeEntry). places.Include e.path) (slice_get d.includes number)
place_of d (Mailbox a) = None
place_of d (Remote a) = None
place_of d (Missing name) = None
place_of d (NoInclude path) = None
place_of d (Command text) = None
place_of d (File path) = None

-- what is reported of a place that lists nothing, of one that is on a loop, and of a target there
abbrev pub empty_finding : Place → Option Finding
empty_finding (places.Alias name) = Some (findings.EmptyAlias name)
empty_finding (places.Include path) = Some (findings.EmptyInclude path)
empty_finding places.Envelope = None

abbrev pub loop_finding : Place → Option Finding
loop_finding (places.Alias name) = Some (findings.LoopAlias name)
loop_finding (places.Include path) = Some (findings.LoopInclude path)
loop_finding places.Envelope = None

abbrev pub target_finding : Place → Node → Option Finding
target_finding place (Missing name) = Some (findings.Missing name place)
target_finding place (NoInclude path) = Some (findings.NoInclude path place)
target_finding place (Command text) = Some (findings.Command text place)
target_finding place (File path) = Some (findings.File path place)
target_finding place (Alias number) = None
target_finding place (Include number) = None
target_finding place (Mailbox a) = None
target_finding place (Remote a) = None
