use Rattle.std.proofs.Common.{◌≡◌, ◌≤◌, length, take}
use Rattle.std.specs.List.{list_any}
use Rattle.relay_chains.specs.Links.{last_under}
use Rattle.relay_chains.specs.TextHash.{text_hash}
use Rattle.relay_routes.specs.MxRecords.{is_own_address}
use Rattle.relay_routes.proofs.mx_records.MxRecords.has_address.Given as goal

-- the records up to the word's own have an address of the domain where all records have one
abbrev pub invariant-loop-word : goal.invariant-loop-word
invariant-loop-word l = record {
  within : l.word ≤ length l.self-inside.links;
  under : last_under l.self-inside.links (text_hash l.self-inside.key l.domain) l.word ≡ l.word;
  left : list_any (is_own_address l.domain) (take l.word l.self) ≡ list_any (is_own_address l.domain) l.self;
}

abbrev pub decreases-loop-word : goal.decreases-loop-word
decreases-loop-word l = l.word
