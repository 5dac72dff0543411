use Rattle.relay_rounds.proofs.Keys.{next_pushed}
use Rattle.relay_rounds.proofs.steps.Steps.append.Goals as goal

pub loop-i-preserved : goal.loop-i-preserved
loop-i-preserved g c =
    next_pushed c.args.next.now.items (g.Self.Steps.next_keys c.args.self.now c.args.key) c.loop-i.next.items c.push.new.self.items c.loop-i.i c.at.result
    c.in_ok-push.ensures.items c.loop-i.invariant c.at.ensures
