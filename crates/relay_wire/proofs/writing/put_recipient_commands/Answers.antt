use Rattle.std.proofs.Common.{arith}
use Rattle.relay_wire.proofs.ScriptText.{commands_step, valid_step}
use Rattle.relay_wire.proofs.writing.put_recipient_commands.Goals as goal

pub loop-address-preserved : goal.loop-address-preserved
loop-address-preserved c = record {
  text = commands_step c.args.out.now.items c.loop-address.out.items c.put_command.new.out.items c.args.to.now c.loop-address.address-index c.address-item.result (omega arith) c.address-item.is c.loop-address.invariant.text c.in_ok-put_command.ensures.text;
  valid = valid_step c.args.to.now c.loop-address.address-index c.address-item.result (omega arith) c.address-item.is c.loop-address.invariant.valid c.in_ok-put_command.ensures.valid;
}
