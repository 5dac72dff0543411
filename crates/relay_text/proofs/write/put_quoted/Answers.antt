use Rattle.std.proofs.Common.{ℕ, List, ◌++◌, get_or, take, flat_map, ap, sym, ◌∙◌, append_assoc, arith}
use Rattle.relay_text.specs.Addresses.{quoted_byte}
use Rattle.relay_text.proofs.Writing.{quoted_from, quoted_up_to}
use Rattle.relay_text.proofs.write.put_quoted.Goals as goal

pub put_quoted_byte-requires : goal.put_quoted_byte-requires
put_quoted_byte-requires c =
    omega (arith, quoted_from c.args.local.now c.loop-byte.byte-index c.loop-byte-test.true, c.loop-byte.invariant.counted, c.loop-byte.invariant.room, c.push_reserved.ensures.len, c.push_reserved.ensures.capacity, c.requires)

pub loop-byte-preserved : goal.loop-byte-preserved
loop-byte-preserved c = record {
  written =
      c.put_quoted_byte.ensures.items ∙ ap (λ (t : List ℕ). t ++ quoted_byte (get_or c.args.local.now c.loop-byte.byte-index 0)) c.loop-byte.invariant.written
      ∙ append_assoc c.push_reserved.new.self.items (flat_map quoted_byte (take c.loop-byte.byte-index c.args.local.now)) (quoted_byte (get_or c.args.local.now c.loop-byte.byte-index 0))
      ∙ ap (λ (t : List ℕ). c.push_reserved.new.self.items ++ t) (sym (quoted_up_to c.args.local.now c.loop-byte.byte-index c.loop-byte-test.true));
  counted = omega (arith, quoted_from c.args.local.now c.loop-byte.byte-index c.loop-byte-test.true, c.loop-byte.invariant.counted, c.put_quoted_byte.ensures.len);
  room = omega (arith, c.loop-byte.invariant.room, c.put_quoted_byte.ensures.capacity);
}
