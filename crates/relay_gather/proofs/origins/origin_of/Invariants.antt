use Rattle.std.proofs.Common.{◌≡◌, drop}
use Rattle.relay_gather.specs.Origins.{origin_in}
use Rattle.relay_gather.proofs.origins.origin_of.Given as goal

-- it stands in a file that is left
abbrev pub invariant-loop-file : goal.invariant-loop-file
invariant-loop-file l = origin_in (drop l.file-index l.files) l.left ≡ origin_in l.fn.files l.fn.before
