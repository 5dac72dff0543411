use Rattle.std.proofs.Common.{◌≡◌, false, ap, sym, map, ◌∙◌}
use Rattle.relay_aliasfile.specs.Repeats.{entry_name, repeats_in}
use Rattle.relay_aliasfile.proofs.AliasLines.{has_repeat, read_once}
use Rattle.relay_aliasfile.proofs.aliases.with_duplicates.Goals as goal

pub returns-then-not-contains : goal.returns-then-not-contains
returns-then-not-contains c =
    let repeats = c.in_ok-repeats.repeats.items in
    let found : repeats ≡ repeats_in (map entry_name c.args.file.entries) = c.in_ok-repeats.ensures ∙ ap (λ es. repeats_in (map entry_name es)) c.as_slice.ensures in
    let none : has_repeat repeats ≡ false = ap has_repeat (sym c.deref.ensures.value) ∙ sym c.contains.ensures.value ∙ c.if-not-contains.true in
    read_once c.args.bytes.now c.args.file repeats c.requires found none
