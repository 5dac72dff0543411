use Rattle.std.proofs.Common.{◌≤◌, arith, ap, sym, refl, length, ◌∙◌, Ok}
use Rattle.relay_text.specs.Addresses.{local_text_of, name_of}
use Rattle.relay_text.proofs.Writing.{local_text_longer}
use Rattle.relay_text.proofs.PlainTexts.{plain_name-domain, plain_name-long, plain_name-ok}
use Rattle.relay_text.proofs.plain.PlainText.name.Goals as goal
use Rattle.relay_text.proofs.plain.PlainText.name.Goals.{then-self-gt-MAX_LOCAL-via-then-self-gt-MAX_LOCAL, then-self-gt-MAX_LOCAL-via-else-self-gt-MAX_LOCAL+then-written_len-gt-MAX_LOCAL}

pub returns-then-self : goal.returns-then-self
returns-then-self c = ap name_of (sym c.self.view_is) ∙ plain_name-domain c.self.inside.local_len c.self.inside.text.now c.self.invariant.1 c.if-self.true

pub returns-then-self-gt-MAX_LOCAL : goal.returns-then-self-gt-MAX_LOCAL
returns-then-self-gt-MAX_LOCAL c =
    let text = c.self.inside.text.now in
    let all : length c.self.inside.text.now ≤ c.self.inside.local_len = omega (arith, c.if-self.false) in
    ap name_of (sym c.self.view_is) ∙ elim c.then-self-gt-MAX_LOCAL.branch [
      | then-self-gt-MAX_LOCAL-via-then-self-gt-MAX_LOCAL w ↦
          plain_name-long c.self.inside.local_len (length (local_text_of text)) text c.self.invariant.1 all refl (omega (arith, local_text_longer text, w.if-self-gt-MAX_LOCAL.true))
      | then-self-gt-MAX_LOCAL-via-else-self-gt-MAX_LOCAL+then-written_len-gt-MAX_LOCAL w ↦
          plain_name-long c.self.inside.local_len w.written_len.result text c.self.invariant.1 all w.written_len.ensures w.if-written_len-gt-MAX_LOCAL.true
    ]

pub returns : goal.returns
returns c =
    let all : length c.self.inside.text.now ≤ c.self.inside.local_len = omega (arith, c.if-self.false) in
    ap name_of (sym c.self.view_is)
    ∙ plain_name-ok c.self.inside.local_len c.written_len.result c.self.inside.text.now c.self.invariant.1 all c.written_len.ensures (omega (arith, c.if-written_len-gt-MAX_LOCAL.false))
    ∙ ap (λ x. Ok x) (sym c.in-Ok.ensures)
