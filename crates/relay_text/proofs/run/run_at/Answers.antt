use Rattle.std.proofs.Common.{rules, ◌≡◌, ◌&&◌, ◌==◌, ◌≤◌, ℕ, false, not, nat_lt, get_or, length, sym, ap, ◌∙◌, arith}
use Rattle.std.proofs.lemmas.Bool.Decides.{nat_tests}
use Rattle.relay_text.specs.Addresses.{is_dot}
use Rattle.relay_text.specs.Runs.{part_byte}
use Rattle.relay_text.proofs.Runs.{stopped, ended}
use Rattle.relay_text.proofs.run.run_at.Goals as goal
use Rattle.relay_text.proofs.run.run_at.Goals.{then-is_sound, else-is_sound}

-- whether bytes stand behind the last dot
some_behind : (m n : ℕ) → m ≤ n → nat_lt m n ≡ not (m == n)
some_behind m n h = grind (arith, nat_tests)

pub returns-then-byte-ne46-clause-joined : goal.returns-then-byte-ne46-clause-joined
returns-then-byte-ne46-clause-joined c =
    let text = c.args.text.now in
    let len = c.loop-len.len in
    let start = c.loop-len.start in
    let other : is_dot (get_or c.args.text.now c.loop-len.len 0) ≡ false = search rules in
    let bad : part_byte c.args.part (get_or c.args.text.now c.loop-len.len 0) ≡ false = search rules in
    let found = stopped c.args.part c.loop-len.is_sound (start == len) text len (omega arith) other bad c.loop-len.invariant.sound in
    elim c.if-is_sound.branch [
      | then-is_sound w ↦ w.is_sound-is ∙ some_behind start len c.loop-len.invariant.behind ∙ ap (λ s. s && not (start == len)) (sym w.if-is_sound.true) ∙ found
      | else-is_sound w ↦ w.is_sound-is ∙ w.if-is_sound.false ∙ ap (λ s. s && not (start == len)) (sym w.if-is_sound.false) ∙ found
    ]

pub returns-then-is_sound-2-clause-joined : goal.returns-then-is_sound-2-clause-joined
returns-then-is_sound-2-clause-joined c =
    let start = c.loop-len.start in
    let len = c.loop-len.len in
    let whole : c.loop-len.len ≡ length c.args.text.now = omega arith in
    ap (nat_lt start) (sym whole) ∙ some_behind start len c.loop-len.invariant.behind
    ∙ ap (λ s. s && not (start == len)) (sym c.if-is_sound-2.true)
    ∙ ended c.args.part c.loop-len.is_sound (start == len) c.args.text.now len (omega arith) c.loop-len.invariant.sound

pub returns-else-is_sound-2-clause-joined : goal.returns-else-is_sound-2-clause-joined
returns-else-is_sound-2-clause-joined c =
    let start = c.loop-len.start in
    let len = c.loop-len.len in
    c.if-is_sound-2.false ∙ ap (λ s. s && not (start == len)) (sym c.if-is_sound-2.false)
    ∙ ended c.args.part c.loop-len.is_sound (start == len) c.args.text.now len (omega arith) c.loop-len.invariant.sound
