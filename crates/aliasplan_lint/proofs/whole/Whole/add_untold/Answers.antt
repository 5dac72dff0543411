use Rattle.std.proofs.Common.{◌<◌, arith}
use Rattle.std.proofs.lemmas.Result.{on_ok_weaker}
use Rattle.aliasplan_lint.proofs.MarkFacts.{covers}
use Rattle.aliasplan_lint.proofs.whole.Whole.add_untold.Goals as goal

pub returns : goal.returns
returns c = on_ok_weaker c.add.result (λ h. covers c.args.findings.now c.args.place c.args.self.now c.add.new.self c.requires.marked h c.requires.place) c.add.ensures
