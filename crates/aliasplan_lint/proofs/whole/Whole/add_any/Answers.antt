use Rattle.std.proofs.Common.{◌<◌, arith}
use Rattle.std.proofs.lemmas.Result.{on_ok_weaker}
use Rattle.aliasplan_lint.proofs.MarkFacts.{marks_more}
use Rattle.aliasplan_lint.proofs.whole.Whole.add_any.Goals as goal

pub returns : goal.returns
returns c = on_ok_weaker c.add.result (λ h. marks_more c.args.findings.now _ c.args.self.now c.add.new.self c.requires h) c.add.ensures
