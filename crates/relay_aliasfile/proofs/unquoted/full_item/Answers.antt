use Rattle.std.proofs.Common.{refl, sym}
use Rattle.relay_text.specs.Addresses.{is_origin, is_domain}
use Rattle.relay_aliasfile.proofs.AddressItems.{address_item-address}
use Rattle.relay_aliasfile.proofs.unquoted.full_item.Goals as goal

pub address-requires : goal.address-requires
unfolding is_origin is_domain
address-requires c = refl

pub returns-in-Ok : goal.returns-in-Ok
returns-in-Ok c = sym (address_item-address _ c.args.text.now c.in-Ok.address c.requires c.in-Ok.ensures.spelled)
