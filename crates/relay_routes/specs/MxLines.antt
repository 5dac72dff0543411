-- What an `MxTable` is to its callers: the mail exchangers in table order, the domains that have an address, and the faults.
use Rattle.std.specs.Prelude.{ℕ, List}
use Rattle.relay_routes.specs.declared.exchange.Exchange.{Exchange}
use Rattle.relay_routes.specs.declared.fault.LineFault.{LineFault}

pub record MxLines : Type 0 where
  pub exchanges : List Exchange
  pub addresses : List (List ℕ)
  pub faults : List LineFault
