use Rattle.std.proofs.Common.{◌≡◌, ℕ, List, Bor, false, sym, ap, ◌∙◌}
use Rattle.relay_wire.specs.declared.commands.Greeting.{Greeting}
use Rattle.relay_wire.specs.declared.commands.Greeting.TheVariants.{Ehlo, Lhlo}
use Rattle.relay_wire.specs.Script.{is_hostname}
use Rattle.relay_wire.proofs.ScriptParts.{no_greeting}
use Rattle.relay_wire.proofs.reading.greeting_in.Goals as goal
use Rattle.relay_wire.proofs.reading.greeting_in.Goals.{in-Some, in-None+in_ok-behind_word-in-None}

not_named : (found : Greeting × Bor (List ℕ)) (greeting : Greeting) (hostname : Bor (List ℕ)) → is_hostname found.1.now ≡ false → found ≡ (greeting, hostname) → is_hostname hostname.now ≡ false
not_named found greeting hostname bad is = ap (λ (p : Greeting × Bor (List ℕ)). is_hostname p.1.now) (sym is) ∙ bad

pub returns-then-not-is_hostname-clause-none : goal.returns-then-not-is_hostname-clause-none
returns-then-not-is_hostname-clause-none c =
    let bad : is_hostname c.match-behind_word.greeting.1.now ≡ false = sym c.is_hostname.ensures ∙ c.if-not-is_hostname.true in
    λ greeting hostname good is.
    elim c.match-behind_word.branch [
      | in-Some w ↦ no_greeting Ehlo greeting c.args.line.now w.in-Some.hostname.now hostname (not_named _ Ehlo w.in-Some.hostname bad w.greeting-is) good w.in-Some.ensures.some is
      | in-None+in_ok-behind_word-in-None w ↦ no_greeting Lhlo greeting c.args.line.now w.in_ok-behind_word-in-None.field-0.now hostname (not_named _ Lhlo w.in_ok-behind_word-in-None.field-0 bad w.greeting-is) good w.in_ok-behind_word-in-None.ensures.some is
    ]
