use Rattle.std.proofs.Common.{◌||◌, ◌∙◌, ℕ, List, ap}
use Rattle.std.specs.List.{list_any}
use Rattle.std.specs.Str.{bytes_eq}
use Rattle.relay_text.specs.Bytes.{has_text}
use Rattle.relay_aliasfile.specs.declared.fault.LineFault.{LineFault}
use Rattle.relay_planning.specs.Texts.{include_line}
use Rattle.relay_planning.proofs.ReportFacts.{on_ok_given}
use Rattle.relay_planning.proofs.includes.reported_path.Goals as goal

pub returns-clause-lines : goal.returns-clause-lines
returns-clause-lines g c =
    let old = c.args.lines.now in
    let faults = c.as_slice.result.now in
    on_ok_given c.copy_of.result (λ q.
    c.in_ok-report_file.ensures q
    ∙ ap (λ (path : List ℕ). has_text old q || list_any (λ fault. bytes_eq q (include_line path fault)) faults) c.as_bytes.ensures
    ∙ ap (λ (fs : List LineFault). has_text old q || list_any (λ fault. bytes_eq q (include_line c.args.include.now.path fault)) fs) c.as_slice.ensures
    ∙ ap (λ file. has_text old q || list_any (λ fault. bytes_eq q (include_line c.args.include.now.path fault)) file.faults) c.requires.file)
