use Rattle.std.proofs.Common.{◌≡◌, false, sym, ◌∙◌}
use Rattle.std.specs.Str.{bytes_eq}
use Rattle.relay_text.specs.Addresses.{path_text_of}
use Rattle.relay_wire.proofs.ScriptParts.{no_path, other_spelling, not_bytes}
use Rattle.relay_wire.proofs.reading.path_in.Goals as goal

pub returns-in_default-clause-none : goal.returns-in_default-clause-none
returns-in_default-clause-none c = no_path c.in-Err.fault _ c.args.text.now c.in_default.not-Memory c.in-Err.ensures.spelled

pub returns-then-not-is_same-clause-none : goal.returns-then-not-is_same-clause-none
returns-then-not-is_same-clause-none c =
    let other : false ≡ bytes_eq (path_text_of c.in-Ok.path) c.args.text.now = sym c.if-not-is_same.true ∙ rw c.as_ref.ensures.value at c.in_ok-is_same.ensures in
    other_spelling _ c.args.text.now _ c.in-Ok.ensures.spelled (λ is. not_bytes (path_text_of c.in-Ok.path) c.args.text.now other (sym is))
