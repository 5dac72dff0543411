use Rattle.std.proofs.Common.{◌≡◌, ◌+◌, Some, length, sum_by, take}
use Rattle.relay_text.specs.Addresses.{path_text_of}
use Rattle.relay_wire.specs.Lengths.{saturated}
use Rattle.relay_wire.proofs.lengths.paths_len.Given as goal

abbrev pub invariant-loop-address : goal.invariant-loop-address
invariant-loop-address l = l.len ≡ saturated (sum_by (λ a. l.each + length (path_text_of (Some a))) (take l.address-index l.addresses))
