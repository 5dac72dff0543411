use Rattle.std.proofs.Common.{codes}
use Rattle.relay_text.proofs.Splits.{end_is}
use Rattle.relay_text.proofs.split.is_request.Goals as goal

pub returns-then-local-ge8 : goal.returns-then-local-ge8
returns-then-local-ge8 c = end_is (codes "-request") c.args.local.now c.eq_ignore_ascii_case.result c.eq_ignore_ascii_case.ensures.test.0 c.eq_ignore_ascii_case.ensures.test.1
