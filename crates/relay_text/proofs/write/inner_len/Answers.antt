use Rattle.std.proofs.Common.{ap, length, arith, sym, ◌∙◌}
use Rattle.relay_text.specs.Addresses.{local_text_of}
use Rattle.relay_text.proofs.JoinedAddresses.{address_text_plain, address_text_length}
use Rattle.relay_text.proofs.Writing.{Limits, limits}
use Rattle.relay_text.proofs.write.inner_len.Goals as goal

pub returns-then-is_plain-clause-fits : goal.returns-then-is_plain-clause-fits
returns-then-is_plain-clause-fits c =
    let at : Limits c.args.address.now = limits c.args.address.now c.joined.ensures.valid in
    omega (arith, at.path, at.path_is, ap length c.joined.ensures.value, ap length (address_text_plain c.args.address.now (sym c.is_plain.ensures ∙ c.if-is_plain.true)), address_text_length c.args.address.now)

pub local_text_len-requires : goal.local_text_len-requires
local_text_len-requires c =
    let at : Limits c.args.address.now = limits c.args.address.now c.local.ensures.valid in
    omega (arith, at.local, ap length c.local.ensures.value)

pub overflow_add-result : goal.overflow_add-result
overflow_add-result c =
    let at : Limits c.args.address.now = limits c.args.address.now c.local.ensures.valid in
    omega (arith, at.local_text, at.domain, c.local_text_len.ensures, ap (λ l. length (local_text_of l)) c.local.ensures.value, ap length c.domain.ensures)

pub overflow_add-result-2 : goal.overflow_add-result-2
overflow_add-result-2 c =
    let at : Limits c.args.address.now = limits c.args.address.now c.local.ensures.valid in
    omega (arith, at.local_text, at.domain, c.local_text_len.ensures, ap (λ l. length (local_text_of l)) c.local.ensures.value, ap length c.domain.ensures)

pub returns-clause-fits : goal.returns-clause-fits
returns-clause-fits c =
    let at : Limits c.args.address.now = limits c.args.address.now c.local.ensures.valid in
    omega (arith, at.path, at.path_is, c.local_text_len.ensures, ap (λ l. length (local_text_of l)) c.local.ensures.value, ap length c.domain.ensures)
