-- Which names are repeats, found by the places where each stands first.
use Rattle.std.proofs.Common.{◌≡◌, ℕ, ◌+◌, ◌<◌, Bool, true, false, not, eqb, List, [], ◌∷◌, ◌++◌, length, take, drop, get_or, map, refl, sym, ap, ◌∙◌, append_assoc, arith}
use Rattle.std.proofs.lemmas.List.{at_drop_more, take_more, get_or-map, get_or_default, length-map}
use Rattle.relay_text.specs.Bytes.{each_after, has_text}
use Rattle.relay_text.specs.FirstPlaces.{first_place}
use Rattle.relay_aliasfile.specs.Repeats.{is_among, repeats_in}
use Rattle.relay_aliasfile.proofs.FirstTexts.{is_first-is}

-- what was said up to a name, with what the names from there on are, is what all are
abbrev pub AreSaid : List Bool → List (List ℕ) → ℕ → Type 0
AreSaid said names i = said ++ each_after is_among (take i names) (drop i names) ≡ repeats_in names

not_not : (b : Bool) → not (not b) ≡ b
not_not true = refl
not_not false = refl

pub said_more : (names : List (List ℕ)) (places : List ℕ) (said more : List Bool) (i : ℕ) → i < length places → places ≡ map (first_place names) names → AreSaid said names i
    → more ≡ said ++ not (eqb (get_or places i 0) i) ∷ [] → AreSaid more names (i + 1)
said_more names places said more i within at_first so_far is =
    let inside : i < length names = omega (arith, within, ap length at_first, length-map names (first_place names)) in
    let name = get_or names i [] in
    let here : get_or places i 0 ≡ first_place names name = ap (λ ps. get_or ps i 0) at_first ∙ get_or-map (first_place names) names i [] 0 inside in
    let again : not (eqb (get_or places i 0) i) ≡ has_text (take i names) name =
    ap (λ n. not (eqb n i)) here ∙ ap (λ b. not b) (is_first-is names name i inside (get_or_default names i [] name inside)) ∙ not_not (has_text (take i names) name) in
    ap (λ bs. bs ++ each_after is_among (take (i + 1) names) (drop (i + 1) names)) (is ∙ ap (λ b. said ++ b ∷ []) again)
    ∙ append_assoc said (has_text (take i names) name ∷ []) (each_after is_among (take (i + 1) names) (drop (i + 1) names))
    ∙ ap (λ before. said ++ has_text (take i names) name ∷ each_after is_among before (drop (i + 1) names)) (take_more names i [] inside)
    ∙ ap (λ bs. said ++ bs) (sym (at_drop_more (λ rest. each_after is_among (take i names) rest) names i [] inside))
    ∙ so_far
