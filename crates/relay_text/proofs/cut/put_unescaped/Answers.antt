use Rattle.std.proofs.Common.{◌++◌, ap, length, refl, sym, ◌∙◌, arith}
use Rattle.std.proofs.lemmas.List.{at_drop_all, append-nil}
use Rattle.relay_text.proofs.QuoteMarks.{kept_from, without_escapes-kept}
use Rattle.relay_text.proofs.cut.put_unescaped.Goals as goal

pub loop-byte-init : goal.loop-byte-init
loop-byte-init c = record { kept = refl; room = omega (arith, c.requires, ap length (without_escapes-kept c.args.content.now)) }

pub returns : goal.returns
returns c =
    sym (append-nil c.loop-byte.text.items)
    ∙ ap (λ xs. c.loop-byte.text.items ++ xs) (sym (at_drop_all (λ xs. kept_from c.loop-byte.escaped xs) c.args.content.now c.loop-byte.byte-index (omega arith)))
    ∙ c.loop-byte.invariant.kept
    ∙ ap (λ xs. c.args.text.now.items ++ xs) (sym (without_escapes-kept c.args.content.now))
