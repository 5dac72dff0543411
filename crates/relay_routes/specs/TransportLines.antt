-- What a `TransportTable` is to its callers: each pattern's first result, and the faults of its lines.
use Rattle.std.specs.Prelude.{List}
use Rattle.relay_routes.specs.declared.transport_line.TransportLine.{TransportLine}
use Rattle.relay_routes.specs.declared.fault.LineFault.{LineFault}

pub record TransportLines : Type 0 where
  pub entries : List TransportLine
  pub faults : List LineFault
