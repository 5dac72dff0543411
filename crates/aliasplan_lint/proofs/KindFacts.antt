-- The kinds of words that begin with none of some.
use Rattle.std.proofs.Common.{◌≡◌, ℕ, Bool, false, cond, List, codes, sym, ap, ◌∙◌}
use Rattle.relay_text.specs.Bytes.{begins_with}
use Rattle.aliasplan_lint.specs.declared.kind.Kind.TheVariants.{Command, Empty, File, Loop, Missing, NoInclude, Unrouted}
use Rattle.aliasplan_lint.specs.Kinds.{fault_kind, last_kind, later_kind, words_kind}

module _ (w : List ℕ) where
  pub of_last : begins_with (codes "noinclude ") w ≡ false → begins_with (codes "unrouted ") w ≡ false → fault_kind w ≡ last_kind w
  of_last a b =
      sym (ap (λ (t : Bool). cond t NoInclude (cond (begins_with (codes "unrouted ") w) Unrouted (fault_kind w))) a
      ∙ ap (λ (t : Bool). cond t Unrouted (fault_kind w)) b)

  pub of_later : begins_with (codes "loop ") w ≡ false → begins_with (codes "missing ") w ≡ false → last_kind w ≡ later_kind w
  of_later a b =
      sym (ap (λ (t : Bool). cond t Loop (cond (begins_with (codes "missing ") w) Missing (last_kind w))) a
      ∙ ap (λ (t : Bool). cond t Missing (last_kind w)) b)

  pub of_words : begins_with (codes "command ") w ≡ false → begins_with (codes "empty ") w ≡ false → begins_with (codes "file ") w ≡ false → later_kind w ≡ words_kind w
  of_words a b d =
      sym (ap (λ (t : Bool). cond t Command (cond (begins_with (codes "empty ") w) Empty (cond (begins_with (codes "file ") w) File (later_kind w)))) a
      ∙ ap (λ (t : Bool). cond t Empty (cond (begins_with (codes "file ") w) File (later_kind w))) b
      ∙ ap (λ (t : Bool). cond t File (later_kind w)) d)
