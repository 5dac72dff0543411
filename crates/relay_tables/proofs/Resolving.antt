-- What a name stands for, step by step.
use Rattle.std.proofs.Common.{◌≡◌, ℕ, zero, suc, ◌+◌, ◌<◌, get_or, map, slice_get, arith, not, Bool, true, false, cond, ◌||◌, ltb, Option, Some, None, is_some, List, [], ◌∷◌, length, position, refl, sym, ap, ◌∙◌}
use Rattle.std.specs.Prelude.{option_map, option_and_then, option_to_list}
use Rattle.std.specs.List.{list_any, position_or_len}
use Rattle.std.proofs.lemmas.Bool.{lt-ltb}
use Rattle.std.proofs.lemmas.Bool.Decides.{nat_tests}
use Rattle.relay_text.specs.Bytes.{first_of}
use Rattle.relay_tables.specs.Directory.{Directory}
use Rattle.relay_tables.specs.Targets.{resolved, target_from, alias_beside, base_name, has_mailbox, mailbox_of}
use Rattle.relay_tables.specs.declared.target.Target.{Target}
use Rattle.relay_tables.specs.declared.target.Target.TheVariants.{Alias, Mailbox, Missing}

first_below : {X : Type 0} (p : X → Bool) (xs : List X) → ltb (position_or_len p xs) (length xs) ≡ list_any p xs
first_below p [] = refl
first_below p (x ∷ xs) = at (p x) (first_below p xs) where
  at : (b : Bool) → ltb (position_or_len p xs) (length xs) ≡ list_any p xs → ltb (cond (not b) (1 + position_or_len p xs) 0) (suc (length xs)) ≡ (b || list_any p xs)
  at true h = lt-ltb 0 (suc (length xs)) (omega arith)
  at false h = let same : ltb (1 + position_or_len p xs) (suc (length xs)) ≡ ltb (position_or_len p xs) (length xs) = grind (arith, nat_tests) in same ∙ h

-- an element of a list passes where there is a place
pub is_some-position : {X : Type 0} (p : X → Bool) (xs : List X) → is_some (position p xs) ≡ list_any p xs
is_some-position p xs = at (ltb (position_or_len p xs) (length xs)) (position_or_len p xs) ∙ first_below p xs where
  at : (b : Bool) (first : ℕ) → is_some (cond b (Some first) None) ≡ b
  at true first = refl
  at false first = refl

-- what is kept of an element of a list, by its place
pub mapped_at : {X : Type 0} (f : X → Option ℕ) (xs : List X) (k : ℕ) (d : Option ℕ) → k < length xs → get_or (map f xs) k d ≡ option_and_then f (slice_get xs k)
mapped_at f [] k d below = absurd (omega arith)
mapped_at f (x ∷ xs) zero d below = refl
mapped_at f (x ∷ xs) (suc k) d below = mapped_at f xs k d (omega arith)

module _ (d : Directory) (name : List ℕ) (parent : Option ℕ) where
  -- the alias of the name or of a base, and whether one of them has a mailbox
  abbrev alias_with : Option (List ℕ) → Option ℕ
  alias_with base = first_of (alias_beside d parent name ∷ option_and_then (alias_beside d parent) base ∷ [])

  abbrev mailbox_with : Option (List ℕ) → Bool
  mailbox_with base = has_mailbox d name || list_any (has_mailbox d) (option_to_list base)

  alias_first : (a b : Option ℕ) (more : List (Option Target)) (number : ℕ) → first_of (a ∷ b ∷ []) ≡ Some number
      → Alias number ≡ target_from d (first_of (option_map Alias a ∷ option_map Alias b ∷ more))
  alias_first (Some n) b more number e = cc
  alias_first None (Some n) more number e = cc
  alias_first None None more number e = cc

  no_alias : (a b : Option ℕ) (more : List (Option Target)) → first_of (a ∷ b ∷ []) ≡ None
      → first_of (option_map Alias a ∷ option_map Alias b ∷ more) ≡ first_of more
  no_alias (Some n) b more e = cc
  no_alias None (Some n) more e = cc
  no_alias None None more e = refl

  mailbox_first : (base : Option (List ℕ)) → (has_mailbox d name || list_any (has_mailbox d) (option_to_list base)) ≡ true
      → target_from d (first_of (mailbox_of d name ∷ option_and_then (mailbox_of d) base ∷ [])) ≡ Mailbox
  mailbox_first None h = one (has_mailbox d name) h where
    one : (b : Bool) → (b || false) ≡ true → target_from d (first_of (cond b (Some Mailbox) None ∷ None ∷ [])) ≡ Mailbox
    one true e = refl
    one false e = cc
  mailbox_first (Some base) h = two (has_mailbox d name) (has_mailbox d base) h where
    two : (a b : Bool) → (a || (b || false)) ≡ true → target_from d (first_of (cond a (Some Mailbox) None ∷ cond b (Some Mailbox) None ∷ [])) ≡ Mailbox
    two true b e = refl
    two false true e = refl
    two false false e = cc

  no_mailbox : (base : Option (List ℕ)) → (has_mailbox d name || list_any (has_mailbox d) (option_to_list base)) ≡ false
      → target_from d (first_of (mailbox_of d name ∷ option_and_then (mailbox_of d) base ∷ [])) ≡ Missing
  no_mailbox None h = one (has_mailbox d name) h where
    one : (b : Bool) → (b || false) ≡ false → target_from d (first_of (cond b (Some Mailbox) None ∷ None ∷ [])) ≡ Missing
    one true e = cc
    one false e = refl
  no_mailbox (Some base) h = two (has_mailbox d name) (has_mailbox d base) h where
    two : (a b : Bool) → (a || (b || false)) ≡ false → target_from d (first_of (cond a (Some Mailbox) None ∷ cond b (Some Mailbox) None ∷ [])) ≡ Missing
    two true b e = cc
    two false true e = cc
    two false false e = refl

  pub resolved_alias : (base : Option (List ℕ)) → base ≡ base_name d name → (number : ℕ) → Some number ≡ alias_with base → Alias number ≡ resolved d name parent
  unfolding resolved
  resolved_alias base is number e = alias_first _ _ _ number (sym (e ∙ ap alias_with is))

  pub resolved_mailbox : (base : Option (List ℕ)) → base ≡ base_name d name → None ≡ alias_with base → true ≡ mailbox_with base → Mailbox ≡ resolved d name parent
  unfolding resolved
  resolved_mailbox base is e h = sym (ap (target_from d) (no_alias _ _ _ (sym (e ∙ ap alias_with is))) ∙ mailbox_first (base_name d name) (sym (h ∙ ap mailbox_with is)))

  pub resolved_missing : (base : Option (List ℕ)) → base ≡ base_name d name → None ≡ alias_with base → false ≡ mailbox_with base → Missing ≡ resolved d name parent
  unfolding resolved
  resolved_missing base is e h = sym (ap (target_from d) (no_alias _ _ _ (sym (e ∙ ap alias_with is))) ∙ no_mailbox (base_name d name) (sym (h ∙ ap mailbox_with is)))

  first_some : (a b : Option ℕ) (number : ℕ) → Some number ≡ a → Some number ≡ first_of (a ∷ b ∷ [])
  first_some (Some n) b number e = e
  first_some None b number e = cc

  first_none : (a b : Option ℕ) → None ≡ a → b ≡ first_of (a ∷ b ∷ [])
  first_none (Some n) b e = cc
  first_none None (Some n) e = refl
  first_none None None e = refl

  -- an alias of the whole name, or else of its base
  pub resolved_named : (number : ℕ) → Some number ≡ alias_beside d parent name → Alias number ≡ resolved d name parent
  resolved_named number e = resolved_alias (base_name d name) refl number (first_some (alias_beside d parent name) (option_and_then (alias_beside d parent) (base_name d name)) number e)

  pub resolved_based : (base : Option (List ℕ)) → base ≡ base_name d name → None ≡ alias_beside d parent name → (number : ℕ) → Some number ≡ option_and_then (alias_beside d parent) base → Alias number ≡ resolved d name parent
  resolved_based base is gone number e = resolved_alias base is number (e ∙ first_none (alias_beside d parent name) (option_and_then (alias_beside d parent) base) gone)

  pub no_alias_with : (base : Option (List ℕ)) → None ≡ alias_beside d parent name → None ≡ option_and_then (alias_beside d parent) base → None ≡ alias_with base
  no_alias_with base gone e = e ∙ first_none (alias_beside d parent name) (option_and_then (alias_beside d parent) base) gone
