use Rattle.std.proofs.Common.{◌≡◌, ℕ, false, eqb, List, length, sym, ◌∙◌}
use Rattle.std.specs.List.{slice_split}
use Rattle.std.proofs.lemmas.Bool.{false_from_ne_true}
use Rattle.std.proofs.lemmas.Bool.Decides.{Decides-eqb}
use Rattle.relay_text.specs.Addresses.{is_dot}
use Rattle.relay_text.specs.Runs.{part_byte, run_byte, run_len, is_joined}
use Rattle.relay_text.specs.declared.run.Part.TheVariants.{Domain}
use Rattle.relay_text.proofs.Paths.{runs_bytes, split_bytes}
use Rattle.relay_text.proofs.Runs.{whole_front}
use Rattle.relay_text.proofs.domain.is_domain_name.Goals as goal

-- a text with another byte isn't labels joined by dots
not_by_run : (text : List ℕ) → (run_len Domain text ≡ length text → ⊥) → is_joined Domain text ≡ false
not_by_run text other = false_from_ne_true _ (λ good. other (whole_front (run_byte Domain) text (split_bytes (part_byte Domain) is_dot text (runs_bytes (part_byte Domain) (slice_split is_dot text) good))))

pub returns-else-run-text : goal.returns-else-run-text
returns-else-run-text c =
    let text = c.args.text.now in
    let is_not : eqb c.run_at-run.result.len (length text) ≡ false = false_from_ne_true _ (λ h. c.if-run-text.false ((Decides-eqb c.run_at-run.result.len (length text)).0 h)) in
    is_not ∙ sym (not_by_run text (λ e. c.if-run-text.false (c.run_at-run.ensures.len ∙ e)))
