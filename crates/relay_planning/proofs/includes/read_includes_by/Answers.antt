use Rattle.std.proofs.Common.{◌||◌, ◌∙◌, List, ap, map}
use Rattle.std.specs.List.{list_any}
use Rattle.std.proofs.lemmas.Result.{IfOk-weaker, on_ok_weaker}
use Rattle.relay_text.specs.Bytes.{has_text}
use Rattle.relay_job.specs.declared.job.JobInclude.{JobInclude}
use Rattle.relay_planning.specs.Delivery.{entry_of_include}
use Rattle.relay_planning.specs.Texts.{has_include_line}
use Rattle.relay_planning.proofs.IncludeFacts.{includes_of, readings_sound}
use Rattle.relay_planning.proofs.includes.read_includes_by.Goals as goal

pub entries_of-requires : goal.entries_of-requires
entries_of-requires g c = readings_sound c.args.includes.now c.in_ok-readings.readings.items c.in_ok-readings.ensures

pub returns-clause-entries : goal.returns-clause-entries
returns-clause-entries g c =
    let same = includes_of c.args.includes.now c.in_ok-readings.readings.items c.in_ok-readings.ensures in
    IfOk-weaker c.entries_of.result _ _ (λ entries is. is ∙ ap (λ (includes : List JobInclude). map entry_of_include includes) same) c.entries_of.ensures.entries

pub returns-clause-lines : goal.returns-clause-lines
returns-clause-lines g c =
    let same = includes_of c.args.includes.now c.in_ok-readings.readings.items c.in_ok-readings.ensures in
    on_ok_weaker c.entries_of.result (λ added q. added q ∙ ap (λ (includes : List JobInclude). has_text c.args.lines.now q || list_any (has_include_line q) includes) same) c.entries_of.ensures.lines
