use Rattle.std.proofs.Common.{◌≡◌, ◌∙◌, ◌||◌, List, ℕ, ap}
use Rattle.relay_text.specs.Bytes.{has_text}
use Rattle.relay_planning.specs.Texts.{has_fault_line}
use Rattle.relay_wire.proofs.Results.{if_ok_both}
use Rattle.aliasplan.proofs.CheckFacts.{texts_are}
use Rattle.aliasplan.proofs.checking.check_texts.Goals as goal

pub read-requires : goal.read-requires
read-requires c = record { job = c.parsed_is_readable.ensures.tables c.args.limits.bytes c.args.tables.now c.requires.limits.bytes c.requires.tables }

pub returns-in-Ok : goal.returns-in-Ok
returns-in-Ok c =
    let reported : (q : List ℕ) → has_text c.read.new.lines q ≡ has_fault_line c.args.tables.now q =
    λ q. c.in-Ok.ensures.lines q ∙ ap (λ (old : List (List ℕ)). has_text old q || has_fault_line c.args.tables.now q) c.new-lines.ensures in
    if_ok_both c.into_seq.result c.into_seq.ensures.all c.into_seq.ensures.ascending (λ lines same sorted. texts_are c.args.tables.now lines c.read.new.lines same sorted reported)
