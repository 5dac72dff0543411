use Rattle.std.proofs.Common.{ap, ◌∙◌}
use Rattle.relay_wire.specs.Fronts.{front_number}
use Rattle.relay_delivery.proofs.sort_key.SortKey.new.Goals as goal

pub invariant_of-result : goal.invariant_of-result
invariant_of-result c = record {
  first_of_text = c.split_front-first.ensures.number;
  second_of_text = c.split_front-second.ensures.number ∙ ap (front_number 8) c.split_front-first.ensures.rest;
  bytes = c.split_front-first.ensures.bytes;
}
