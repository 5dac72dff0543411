use Rattle.relay_wire.proofs.ScriptParts.{script_determined}
use Rattle.relay_wire.proofs.scripts.one_script.Goals as goal

pub returns : goal.returns
returns c = script_determined
