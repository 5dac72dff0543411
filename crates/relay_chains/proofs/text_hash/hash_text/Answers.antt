use Rattle.std.proofs.Common.{◌≡◌, ◌<◌, ℕ, suc, ◌-◌, ◌/◌, List, [], ◌∷◌, ◌++◌, length, take, drop, sym, refl, ap, ◌∙◌, arith}
use Rattle.std.proofs.lemmas.Bool.Decides.{nat_tests}
use Rattle.std.specs.Int.{from_le_bytes, w64}
use Rattle.std.specs.List.{fold}
use Rattle.relay_chains.specs.TextHash.{joined, words, last_word, multiplier_of, hash_of, text_hash}
use Rattle.relay_chains.proofs.text_hash.hash_text.Goals as goal
use Rattle.relay_chains.proofs.text_hash.hash_text.Goals.{in-Some+then-is_empty, in_default}

module _ (multiplier : ℕ) where
  -- what joining so many words and then a last one makes of a state
  abbrev state_after : ℕ → ℕ → List ℕ → ℕ → ℕ
  state_after count state text last = fold (joined multiplier) state (words count text ++ last ∷ [])

  -- a word less
  word_less : (count state next : ℕ) (text rest : List ℕ) (last : ℕ) → next ≡ joined multiplier state (from_le_bytes w64 (take 8 text)) → rest ≡ drop 8 text
      → state_after count next rest last ≡ state_after (suc count) state text last
  unfolding words
  word_less count state next text rest last next_is rest_is = rw (next_is, rest_is) refl

  -- no word is left
  none_left : (count state : ℕ) (text : List ℕ) (last : ℕ) → count ≡ 0 → state_after count state text last ≡ joined multiplier state last
  unfolding words
  none_left count state text last none = rw none refl

pub words-init : goal.words-init
unfolding text_hash
words-init c = refl

pub words-preserved : goal.words-preserved
words-preserved c =
    let text = c.words.rest.now in
    let behind = c.in-Some.behind.now in
    let m = multiplier_of c.args.key in
    let last = last_word c.args.text.now in
    let some : 0 < length behind = grind (arith, nat_tests) in
    let more : (length text - 1) / 8 ≡ suc ((length behind - 1) / 8) = omega (arith, some, c.in-Some.ensures.cases.2) in
    let word : c.mixed-state.result ≡ joined m c.words.state (from_le_bytes w64 (take 8 text)) = search (c.mixed-state.ensures, c.from_le_bytes.ensures, c.in-Some.ensures.cases.0) in
    ap hash_of
    (word_less m ((length behind - 1) / 8) c.words.state c.mixed-state.result text behind last word c.in-Some.ensures.cases.1
    ∙ ap (λ (n : ℕ). state_after m n c.words.state text last) (sym more))
    ∙ c.words.invariant

pub returns : goal.returns
returns c =
    let text = c.words.rest.now in
    let m = multiplier_of c.args.key in
    let last = last_word c.args.text.now in
    let none : (length text - 1) / 8 ≡ 0 = elim c.match-split_first_chunk.branch [
      | in-Some+then-is_empty w ↦ let all : length w.in-Some.behind.now ≡ 0 = grind (arith, nat_tests) in omega (arith, all, w.in-Some.ensures.cases.2)
      | in_default w ↦ omega (arith, w.in_default.ensures.cases)
    ] in
    let hash : c.mixed-last.result ≡ joined m c.words.state last = search (c.mixed-last.ensures, c.last_word.ensures) in
    search (c.mixed.ensures, ap hash_of (hash ∙ sym (none_left m ((length text - 1) / 8) c.words.state text last none)) ∙ c.words.invariant)
