-- Lemmas on the texts of an `Interner`.
use Rattle.std.proofs.Common.{◌≡◌, ℕ, None, List, [], ◌∷◌, ◌++◌, length, ap, ◌∙◌, arith}
use Rattle.std.specs.Str.{bytes_eq}
use Rattle.std.proofs.lemmas.List.{length_push, map_push}
use Rattle.std.proofs.lemmas.Slice.Eq.{bytes_eq-Decides}
use Rattle.relay_chains.specs.Interner.{texts_from, AreInterned}
use Rattle.relay_chains.specs.Keys.{number_of}
use Rattle.relay_chains.specs.TextHash.{text_hash}
use Rattle.relay_chains.proofs.Places.{distinct-push}
use Rattle.relay_chains.proofs.Texts.{texts-push, cut-push}

-- what a new text adds to the list of texts
pub texts-pushed : (hashes bytes ends : List ℕ) (key limit end : ℕ) (text : List ℕ) → AreInterned hashes bytes ends key limit → end ≡ length (bytes ++ text)
    → texts_from (bytes ++ text) 0 (ends ++ end ∷ []) ≡ texts_from bytes 0 ends ++ text ∷ []
texts-pushed hashes bytes ends key limit end text interned end_is =
    ap (λ (e : ℕ). texts_from (bytes ++ text) 0 (ends ++ e ∷ [])) end_is ∙ texts-push bytes text 0 ends interned.cut.within interned.cut.whole

-- a new text, put behind the others
pub interned-push : (hashes bytes ends : List ℕ) (key limit end : ℕ) (text : List ℕ) → AreInterned hashes bytes ends key limit → end ≡ length (bytes ++ text)
    → number_of bytes_eq (texts_from bytes 0 ends) text ≡ None → (length ends ≡ limit → ⊥)
    → AreInterned (hashes ++ text_hash key text ∷ []) (bytes ++ text) (ends ++ end ∷ []) key limit
interned-push hashes bytes ends key limit end text interned end_is new room =
    let all = texts-pushed hashes bytes ends key limit end text interned end_is in
    record {
      cut = rw end_is (cut-push bytes text ends interned.cut);
      hashed = rw (all, map_push (text_hash key) (texts_from bytes 0 ends) text) (ap (λ (hs : List ℕ). hs ++ text_hash key text ∷ []) interned.hashed);
      distinct = rw all (distinct-push bytes_eq bytes_eq-Decides (texts_from bytes 0 ends) text interned.distinct new);
      within = omega (arith, length_push ends end, interned.within);
      small = interned.small;
    }
