-- Which alias a name can stand for.
use Rattle.std.proofs.Common.{◌≡◌, ℕ, ◌<◌, ◌⊎◌, Bool, true, false, cond, eqb, Option, Some, None, List, [], ◌∷◌, length, ap, ◌∙◌, inl, inr}
use Rattle.std.specs.Prelude.{option_map, option_and_then}
use Rattle.std.specs.Str.{bytes_eq}
use Rattle.std.proofs.lemmas.List.Quantifiers.{position-Some}
use Rattle.std.proofs.lemmas.Option.{none-some, same_Some, option_and_then_some}
use Rattle.relay_text.specs.Bytes.{first_of}
use Rattle.relay_aliasfile.specs.declared.entry.Entry.{Entry}
use Rattle.relay_tables.specs.Directory.{Directory}
use Rattle.relay_tables.specs.declared.include_entry.IncludeEntry.{IncludeEntry}
use Rattle.relay_tables.specs.Targets.{resolved, target_from, alias_number, include_number, alias_beside, other_than, base_name, has_mailbox, mailbox_of}
use Rattle.relay_tables.specs.declared.target.Target.{Target}
use Rattle.relay_tables.specs.declared.target.Target.TheVariants.{Alias, Mailbox}

module _ (d : Directory) where
  picked : (a b : Option ℕ) (m1 m2 : Option Target) (k : ℕ) → ((j : ℕ) → m1 ≡ Some (Alias j) → ⊥) → ((j : ℕ) → m2 ≡ Some (Alias j) → ⊥)
      → target_from d (first_of (option_map Alias a ∷ option_map Alias b ∷ m1 ∷ m2 ∷ [])) ≡ Alias k → (a ≡ Some k) ⊎ (b ≡ Some k)
  picked (Some x) b m1 m2 k h1 h2 e = let same : x ≡ k = cc in inl (ap (λ (y : ℕ). Some y) same)
  picked None (Some y) m1 m2 k h1 h2 e = let same : y ≡ k = cc in inr (ap (λ (x : ℕ). Some x) same)
  picked None None (Some t) m2 k h1 h2 e = absurd (h1 k (ap (λ (x : Target). Some x) e))
  picked None None None (Some t) k h1 h2 e = absurd (h2 k (ap (λ (x : Target). Some x) e))
  picked None None None None k h1 h2 e = cc

  no_alias : (name : List ℕ) (j : ℕ) → mailbox_of d name ≡ Some (Alias j) → ⊥
  no_alias name j e = at (has_mailbox d name) e where
    at : (b : Bool) → cond b (Some Mailbox) None ≡ Some (Alias j) → ⊥
    at true f = cc
    at false f = cc

  no_base_alias : (base : Option (List ℕ)) (j : ℕ) → option_and_then (mailbox_of d) base ≡ Some (Alias j) → ⊥
  no_base_alias None j e = none-some (Alias j) e
  no_base_alias (Some name) j e = no_alias name j e

  other_is : (parent : Option ℕ) (number k : ℕ) → other_than d parent number ≡ Some k → number ≡ k
  other_is None number k e = same_Some number k e
  other_is (Some p) number k e = at (eqb number p) e where
    at : (b : Bool) → cond b None (Some number) ≡ Some k → number ≡ k
    at true f = absurd (none-some k f)
    at false f = same_Some number k f

  beside_below : (parent : Option ℕ) (name : List ℕ) (k : ℕ) → alias_beside d parent name ≡ Some k → k < length d.aliases
  beside_below parent name k e =
      option_and_then_some (other_than d parent) (alias_number d name) k e
      (λ number at same.
      let is : alias_number d name ≡ Some k = at ∙ ap (λ (x : ℕ). Some x) (other_is parent number k same) in
      (position-Some (λ (x : Entry). bytes_eq name x.name) d.aliases k (record { name = []; line = 0; items = [] }) is).0)

  -- the alias that a name stands for is one of the table
  pub resolved_below : (name : List ℕ) (parent : Option ℕ) (k : ℕ) → resolved d name parent ≡ Alias k → k < length d.aliases
  unfolding resolved
  resolved_below name parent k e =
      elim (picked (alias_beside d parent name) (option_and_then (alias_beside d parent) (base_name d name)) (mailbox_of d name) (option_and_then (mailbox_of d) (base_name d name)) k (no_alias name) (no_base_alias (base_name d name)) e) [
        | inl own ↦ beside_below parent name k own
        | inr base ↦ option_and_then_some (alias_beside d parent) (base_name d name) k base (λ other at same. beside_below parent other k same)
      ]

  pub include_below : (path : List ℕ) (k : ℕ) → include_number d path ≡ Some k → k < length d.includes
  include_below path k e = (position-Some (λ (x : IncludeEntry). bytes_eq path x.path) d.includes k (record { path = []; items = [] }) e).0
