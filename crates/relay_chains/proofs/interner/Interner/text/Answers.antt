use Rattle.std.proofs.Common.{◌≤◌, length, sym, arith}
use Rattle.std.proofs.lemmas.Option.{slice_get_past}
use Rattle.relay_chains.specs.Interner.{texts_from}
use Rattle.relay_chains.proofs.Texts.{length-texts}
use Rattle.relay_chains.proofs.interner.Interner.text.Goals as goal

pub returns-else-number-len : goal.returns-else-number-len
returns-else-number-len c =
    let past : length (texts_from c.self.inside.bytes.items 0 c.self.inside.ends.items) ≤ c.args.number = omega (arith, c.len.ensures, c.if-number-len.false, length-texts c.self.inside.bytes.items 0 c.self.inside.ends.items) in
    rw (← c.self.view_is) (sym (slice_get_past _ _ past))
