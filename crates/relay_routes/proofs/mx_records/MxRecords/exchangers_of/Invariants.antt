use Rattle.std.proofs.Common.{◌≡◌, ◌≤◌, ◌++◌, length, map, take}
use Rattle.std.specs.Prelude.{filter_map, reverse}
use Rattle.relay_chains.specs.Links.{last_under}
use Rattle.relay_chains.specs.TextHash.{text_hash}
use Rattle.relay_routes.specs.MxRecords.{own_exchange}
use Rattle.relay_routes.proofs.mx_records.MxRecords.exchangers_of.Given as goal

-- the exchangers among the records up to the word's own, and those that were found behind them
abbrev pub invariant-loop-word : goal.invariant-loop-word
invariant-loop-word l = record {
  within : l.word ≤ length l.self-inside.links;
  under : last_under l.self-inside.links (text_hash l.self-inside.key l.domain) l.word ≡ l.word;
  found : filter_map (own_exchange l.domain) (take l.word l.self) ++ reverse (map (λ e. e.now) l.exchangers.items) ≡ filter_map (own_exchange l.domain) l.self;
}

abbrev pub decreases-loop-word : goal.decreases-loop-word
decreases-loop-word l = l.word
