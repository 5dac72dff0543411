use Rattle.std.proofs.Common.{◌++◌, ◌∷◌, [], ap, length, arith, sym, flat_map, ◌∙◌}
use Rattle.relay_text.specs.Addresses.{quoted_byte}
use Rattle.relay_text.proofs.JoinedAddresses.{address_text_quoted, quoted_text_length, four_pieces}
use Rattle.relay_text.proofs.write.put_address.Goals as goal

pub put_quoted-requires : goal.put_quoted-requires
put_quoted-requires c =
    omega (arith, c.requires, quoted_text_length c.args.address.now (sym c.is_plain.ensures ∙ c.if-is_plain.false), ap (λ l. length (flat_map quoted_byte l)) c.local.ensures.value)

pub push_reserved-requires : goal.push_reserved-requires
push_reserved-requires c =
    omega (arith, c.requires, c.put_quoted.ensures.len, c.put_quoted.ensures.capacity, quoted_text_length c.args.address.now (sym c.is_plain.ensures ∙ c.if-is_plain.false), ap (λ l. length (flat_map quoted_byte l)) c.local.ensures.value)

pub put_bytes-requires-2 : goal.put_bytes-requires-2
put_bytes-requires-2 c =
    omega (arith, c.requires, c.put_quoted.ensures.len, c.put_quoted.ensures.capacity, c.push_reserved.ensures.len, c.push_reserved.ensures.capacity, quoted_text_length c.args.address.now (sym c.is_plain.ensures ∙ c.if-is_plain.false), ap (λ l. length (flat_map quoted_byte l)) c.local.ensures.value, ap length c.domain.ensures)

pub returns-clause-items : goal.returns-clause-items
returns-clause-items c =
    let text = address_text_quoted c.args.address.now (sym c.is_plain.ensures ∙ c.if-is_plain.false) in
    four_pieces c.args.address.now (c.args.out.now.items) _ _ _ (sym c.is_plain.ensures ∙ c.if-is_plain.false)
    (c.put_quoted.ensures.items ∙ ap (λ l. c.args.out.now.items ++ (34 ∷ flat_map quoted_byte l ++ 34 ∷ [])) c.local.ensures.value)
    c.push_reserved.ensures.items (c.put_bytes-2.ensures.items ∙ ap (λ d. c.push_reserved.new.self.items ++ d) c.domain.ensures)

pub returns-clause-len : goal.returns-clause-len
returns-clause-len c =
    omega (arith, c.put_quoted.ensures.len, c.push_reserved.ensures.len, c.put_bytes-2.ensures.len, quoted_text_length c.args.address.now (sym c.is_plain.ensures ∙ c.if-is_plain.false), ap (λ l. length (flat_map quoted_byte l)) c.local.ensures.value, ap length c.domain.ensures)
