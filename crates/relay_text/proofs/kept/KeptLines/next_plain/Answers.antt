use Rattle.std.proofs.Common.{◌+◌, length, sym, ap, ◌∙◌, arith}
use Rattle.std.proofs.lemmas.List.{take_rest}
use Rattle.relay_text.proofs.PlainTexts.{front_length}
use Rattle.relay_text.proofs.KeptWalks.{kept_from-plain}
use Rattle.relay_text.proofs.kept.KeptLines.next_plain.Goals as goal

pub bounds-self-len : goal.bounds-self-len
bounds-self-len c = omega (arith, ap length c.text-len.ensures.value, front_length c.args.self.now.rest.now c.in_ok-text.text (sym c.in_ok-text.was ∙ c.at_front.ensures), c.if-len-self.false)

pub returns-clause-some : goal.returns-clause-some
returns-clause-some c =
    kept_from-plain (c.args.self.now.passed + 1) c.args.self.now.rest.now c.in_ok-text.text c.text-len.result.now _ c.text-len.ensures.value c.text-len.ensures.open (sym c.in_ok-text.was ∙ c.at_front.ensures)
    c.if-len-self.false c.if-self-len-ne10.false c.if-self-eq35.false (take_rest c.args.self.now.rest.now (length c.text-len.result.now + 1))
