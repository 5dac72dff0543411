-- Whether nothing is to be said of many envelopes and their tables.
use Rattle.std.specs.Prelude.{Bool, ◌&&◌, ◌==◌}
use Rattle.aliasplan_each.specs.declared.summary.EachSummary.{EachSummary}

abbrev pub is_clean : EachSummary → Bool
is_clean s = (s.findings == 0) && ((s.counts.findings == 0) && (s.counts.refused == 0))
