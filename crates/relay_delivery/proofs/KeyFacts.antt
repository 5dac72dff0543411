-- Keys as a walk makes them.
use Rattle.std.proofs.Common.{◌≡◌, ℕ, ◌+◌, ◌^◌, ◌<◌, ◌≤◌, List, [], ◌∷◌, ◌++◌, length, get_or, map, take, refl, sym, ap, subst, ◌∙◌, arith, inl, inr}
use Rattle.std.specs.Prelude.{All}
use Rattle.std.proofs.lemmas.Bool.{cases_lt}
use Rattle.std.proofs.lemmas.List.{get_or_push, get_or_append_left, length_push, map_more, map-append, take_more, take_all}
use Rattle.std.proofs.lemmas.List.Elements.{All-push}
use Rattle.relay_delivery.specs.declared.sort_key.SortKey.{SortKey}
use Rattle.relay_delivery.specs.Ranks.{KeyParts, key_parts, AreKeysOf, AreKeysSoFar}

pub parts_are : (k : SortKey) (g : ℕ) (t : List ℕ) → k.group ≡ g → k.text.now ≡ t → key_parts k ≡ record { group = g; text = t }
parts_are k g t e f = cc

module _ {X : Type 0} (key_of : X → KeyParts) (P : X → Type 0) (values : List X) where
  pub so_far_none : AreKeysSoFar key_of P values [] 0
  so_far_none = record {
    keys_are = record { parts_are = refl; numbered = λ k d inside. absurd (omega arith) };
    count = refl;
    few = omega arith;
    valid = λ k d inside. absurd (omega arith);
  }

  pub so_far_more : (keys : List SortKey) (i : ℕ) (k : SortKey) (x : X) → AreKeysSoFar key_of P values keys i → i < length values → x ≡ get_or values i x → key_parts k ≡ key_of x → k.number ≡ i → i < 2 ^ 32 → P x → AreKeysSoFar key_of P values (keys ++ k ∷ []) (i + 1)
  so_far_more keys i k x s inside is parts number small good = record {
    keys_are = record {
      parts_are = map-append key_parts keys (k ∷ []) ∙ ap (λ ps. ps ++ key_parts k ∷ []) s.keys_are.parts_are
          ∙ ap (λ p. map key_of (take i values) ++ p ∷ []) (parts ∙ ap key_of is) ∙ sym (map_more key_of values i x inside);
      numbered = λ j d within. elim (cases_lt j (length keys)) [
        | inl old ↦ ap (λ (h : SortKey). h.number) (get_or_append_left keys (k ∷ []) d j old) ∙ s.keys_are.numbered j d old
        | inr late ↦ (let e : length keys ≡ j = omega (arith, late, within, length_push keys k) in ap (λ (h : SortKey). h.number) (get_or_push keys k d j e) ∙ number ∙ sym s.count ∙ e)
      ];
    };
    count = omega (arith, length_push keys k, s.count);
    few = omega (arith, small);
    valid = subst (λ xs. All P xs) (sym (take_more values i x inside)) (All-push P (take i values) (get_or values i x) s.valid (subst P is good));
  }

  pub so_far_all : (keys : List SortKey) (i : ℕ) → AreKeysSoFar key_of P values keys i → length values ≤ i → AreKeysOf (map key_of values) keys × (length keys ≤ 2 ^ 32) × All P values
  so_far_all keys i s past =
      let whole : take i values ≡ values = take_all i values past in (
        subst (λ xs. AreKeysOf (map key_of xs) keys) whole s.keys_are,
        omega (arith, s.count, s.few),
        subst (λ xs. All P xs) whole s.valid,
      )
