use Rattle.std.proofs.Common.{refl}
use Rattle.relay_text.specs.Addresses.{is_origin, is_domain}
use Rattle.relay_aliasfile.proofs.reasons.spelling_fault.Goals as goal

pub parse_address-requires : goal.parse_address-requires
unfolding is_origin is_domain
parse_address-requires c = refl
