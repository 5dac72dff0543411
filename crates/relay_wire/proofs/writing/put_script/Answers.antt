use Rattle.relay_wire.specs.Script.{greeting_line, greeting_of, sender_line, data_line, script_of, script_text}
use Rattle.std.proofs.Common.{◌++◌}
use Rattle.relay_wire.proofs.ScriptText.{script_is, on_written}
use Rattle.relay_wire.proofs.writing.put_script.Goals as goal

pub returns-clause-text : goal.returns-clause-text
returns-clause-text c =
    on_written c.extend_from_slice.result c.extend_from_slice.new.self.items c.put_recipient_commands.new.out.items data_line
    (c.args.out.now.items ++ script_text (script_of c.args.planned.now c.args.hostname.now))
    c.extend_from_slice.ensures.items
    (rw (c.in_ok-put_recipient_commands.ensures.text, c.in_ok-put_command.ensures.text, c.in_ok-put_greeting.ensures, c.as_slice.ensures, c.as_ref.ensures.value, c.of.ensures)
    (script_is c.args.out.now.items (greeting_line (greeting_of c.args.planned.now.transport) c.args.hostname.now) (sender_line c.args.planned.now.from) c.args.planned.now.to))
