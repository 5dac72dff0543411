use Rattle.std.proofs.Common.{◌||◌, ◌∙◌, ap}
use Rattle.std.proofs.lemmas.Result.{on_ok_weaker}
use Rattle.relay_text.specs.Bytes.{has_text}
use Rattle.relay_planning.proofs.texts.report_file_by.Goals as goal

pub returns : goal.returns
returns g c = on_ok_weaker c.append.result (λ added q. added q ∙ ap (λ b. has_text c.args.lines.now q || b) (c.in_ok-lines_by.ensures q)) c.append.ensures.ok
