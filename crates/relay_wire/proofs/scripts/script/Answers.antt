use Rattle.relay_wire.specs.Script.{script_of}
use Rattle.relay_wire.proofs.ScriptText.{short_script, valid_script}
use Rattle.relay_wire.proofs.scripts.script.Goals as goal

pub returns-clause-lines : goal.returns-clause-lines
returns-clause-lines c = short_script (script_of c.args.planned.now c.args.hostname.now) c.requires c.in_ok-put_script.ensures.valid

pub returns-clause-valid : goal.returns-clause-valid
returns-clause-valid c = valid_script (script_of c.args.planned.now c.args.hostname.now) c.requires c.in_ok-put_script.ensures.valid
