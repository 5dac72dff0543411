use Rattle.relay_explain.proofs.AskedFacts.{asked-name, asked-no_name}
use Rattle.relay_explain.proofs.asked.asked_with.Goals as goal

pub returns-in-Ok : goal.returns-in-Ok
returns-in-Ok c = asked-name c.args.text.now _ c.args.address c.requires c.in-Ok.ensures.spelled

pub returns-in_default : goal.returns-in_default
returns-in_default c = asked-no_name c.args.text.now c.in-Err.fault c.args.address c.requires c.in_default.not-Memory c.in-Err.ensures.spelled
