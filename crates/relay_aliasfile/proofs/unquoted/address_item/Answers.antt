use Rattle.std.proofs.Common.{sym, refl, rules}
use Rattle.relay_aliasfile.proofs.AddressItems.{address_item-name, address_item-no_name}
use Rattle.relay_aliasfile.proofs.unquoted.address_item.Goals as goal

pub returns-in-Ok : goal.returns-in-Ok
returns-in-Ok c = sym (address_item-name c.args.text.now c.in-Ok.local c.in-Ok.ensures)

pub returns-in-Err : goal.returns-in-Err
returns-in-Err c = let none = address_item-no_name c.args.text.now c.in-Err.field-0 (c.if-has_domain.ensures.no refl) in search (rules, none)
