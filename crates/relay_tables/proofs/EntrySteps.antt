-- Lemmas on entries that are numbered one after another.
use Rattle.std.proofs.Common.{◌≡◌, ℕ, ◌+◌, ◌<◌, Option, Some, None, List, [], ◌∷◌, ◌++◌, length, map, take, drop, slice_get, refl, sym, ap, ◌∙◌, arith}
use Rattle.std.specs.Prelude.{option_map}
use Rattle.std.specs.List.{flat_map}
use Rattle.std.proofs.lemmas.List.{append-nil, map_push, take-append-drop, take_more}
use Rattle.std.proofs.lemmas.List.Concat.{flat_map-append}
use Rattle.std.proofs.lemmas.Option.{none-some, same_Some, slice_get_within, slice_get-get_or, get_or_from_slice_get}
use Rattle.relay_tables.specs.declared.node.Node.{Node}
use Rattle.relay_tables.specs.declared.node.Node.TheVariants.{Alias, Include}
use Rattle.relay_tables.specs.Directory.{Directory}
use Rattle.relay_tables.specs.Targets.{targets_of}
use Rattle.relay_tables.specs.Graphs.{entry_nodes}
use Rattle.relay_tables.proofs.Numbers.{length-entries, entry_alias, entry_include}

module _ (d : Directory) (k : ℕ) (ts : List Node) (at : option_map (targets_of d) (slice_get (entry_nodes d) k) ≡ Some ts) where
  -- the entry, and its targets
  entry_at : (n : Node) × (slice_get (entry_nodes d) k ≡ Some n) × (targets_of d n ≡ ts)
  entry_at = pick (slice_get (entry_nodes d) k) at where
    pick : (o : Option Node) → option_map (targets_of d) o ≡ Some ts → (n : Node) × (o ≡ Some n) × (targets_of d n ≡ ts)
    pick None is = absurd (none-some ts is)
    pick (Some n) is = (n, refl, same_Some (targets_of d n) ts is)

  -- the entries so far and this one
  entries_more : take (k + 1) (entry_nodes d) ≡ take k (entry_nodes d) ++ entry_at.0 ∷ []
  entries_more =
      let n = entry_at.0 in
      take_more (entry_nodes d) k n (slice_get_within (entry_nodes d) k n entry_at.1)
      ∙ ap (λ (m : Node). take k (entry_nodes d) ++ m ∷ []) (get_or_from_slice_get (entry_nodes d) k n n entry_at.1)

  pub rows_more : map (targets_of d) (take (k + 1) (entry_nodes d)) ≡ map (targets_of d) (take k (entry_nodes d)) ++ ts ∷ []
  rows_more =
      ap (map (targets_of d)) entries_more
      ∙ map_push (targets_of d) (take k (entry_nodes d)) entry_at.0
      ∙ ap (λ (xs : List Node). map (targets_of d) (take k (entry_nodes d)) ++ xs ∷ []) entry_at.2

  pub targets_more : flat_map (targets_of d) (take (k + 1) (entry_nodes d)) ≡ flat_map (targets_of d) (take k (entry_nodes d)) ++ ts
  targets_more =
      ap (flat_map (targets_of d)) entries_more
      ∙ flat_map-append (targets_of d) (take k (entry_nodes d)) (entry_at.0 ∷ [])
      ∙ ap (λ (xs : List Node). flat_map (targets_of d) (take k (entry_nodes d)) ++ xs) (append-nil (targets_of d entry_at.0) ∙ entry_at.2)

  -- those so far and this one, among all
  pub targets_split : flat_map (targets_of d) (entry_nodes d) ≡ flat_map (targets_of d) (take k (entry_nodes d)) ++ ts ++ flat_map (targets_of d) (drop (k + 1) (entry_nodes d))
  targets_split =
      ap (flat_map (targets_of d)) (sym (take-append-drop (k + 1) (entry_nodes d)))
      ∙ flat_map-append (targets_of d) (take (k + 1) (entry_nodes d)) (drop (k + 1) (entry_nodes d))
      ∙ ap (λ (xs : List Node). xs ++ flat_map (targets_of d) (drop (k + 1) (entry_nodes d))) targets_more

-- the entries by their numbers
pub alias_entry : (d : Directory) (k : ℕ) → k < length d.aliases → slice_get (entry_nodes d) k ≡ Some (Alias k)
alias_entry d k below =
    slice_get-get_or (entry_nodes d) k (Alias k) (omega (arith, length-entries (length d.aliases) (length d.includes)))
    ∙ ap (λ (n : Node). Some n) (entry_alias (length d.aliases) (length d.includes) k below)

pub include_entry : (d : Directory) (k : ℕ) → k < length d.includes → slice_get (entry_nodes d) (length d.aliases + k) ≡ Some (Include k)
include_entry d k below =
    slice_get-get_or (entry_nodes d) (length d.aliases + k) (Include k) (omega (arith, length-entries (length d.aliases) (length d.includes)))
    ∙ ap (λ (n : Node). Some n) (entry_include (length d.aliases) (length d.includes) k below)
