use Rattle.std.proofs.Common.{◌≡◌, ◌≤◌, ◌-◌, ◌+◌, ℕ, List, Some, refl, ap, sym, ◌∙◌, arith, length, map, slice_get, get_or}
use Rattle.std.proofs.lemmas.Option.{slice_get_read}
use Rattle.std.proofs.lemmas.List.{length-map}
use Rattle.relay_chains.specs.TextHash.{text_hash}
use Rattle.relay_chains.specs.Links.{last_under}
use Rattle.relay_chains.proofs.Under.{last_under_le, last_under-last_under}
use Rattle.relay_routes.specs.TableSteps.{pattern_hash}
use Rattle.relay_routes.proofs.PatternRepeats.{hash_here, repeat_told, told_here, none_told}
use Rattle.relay_routes.proofs.transport_table.is_repeat.Goals as goal

-- the last number under the hash of the entry before it
module _ (links hashes : List ℕ) (n word : ℕ) (linked : links ≡ hashes) (found : word ≡ last_under links (get_or links (n + 1 - 1) 0) (n + 1 - 1)) where
  last_before : word ≡ last_under hashes (get_or hashes n 0) n
  last_before =
      let same : n + 1 - 1 ≡ n = omega arith in
      found ∙ ap (λ (i : ℕ). last_under links (get_or links i 0) i) same ∙ ap (λ (hs : List ℕ). last_under hs (get_or hs n 0) n) linked

  low_before : word ≤ n
  low_before = omega (arith, last_before, last_under_le hashes (get_or hashes n 0) n)

pub returns-then-word-eq0 : goal.returns-then-word-eq0
returns-then-word-eq0 c =
    let hashes = map (pattern_hash c.args.key) c.args.entries.now in
    none_told c.args.key c.args.entries.now c.args.number c.requires.within
    (sym c.if-word-eq0.true ∙ last_before c.args.links.now hashes c.args.number c.before-word.result c.requires.linked c.before-word.ensures)

pub find_from-found-requires-clause-callable : goal.find_from-found-requires-clause-callable
find_from-found-requires-clause-callable c =
    let hashes = map (pattern_hash c.args.key) c.args.entries.now in
    let low = low_before c.args.links.now hashes c.args.number c.before-word.result c.requires.linked c.before-word.ensures in
    λ k below. omega (arith, below, low, c.requires.within)

pub find_from-found-requires-clause-within : goal.find_from-found-requires-clause-within
find_from-found-requires-clause-within c =
    let hashes = map (pattern_hash c.args.key) c.args.entries.now in
    let low = low_before c.args.links.now hashes c.args.number c.before-word.result c.requires.linked c.before-word.ensures in
    let count : length c.args.links.now ≡ length c.args.entries.now = ap length c.requires.linked ∙ length-map c.args.entries.now (pattern_hash c.args.key) in
    omega (arith, low, count, c.requires.within)

pub find_from-found-requires-clause-under : goal.find_from-found-requires-clause-under
find_from-found-requires-clause-under c =
    let es = c.args.entries.now in
    let n = c.args.number in
    let e = c.index-entries-number.result in
    let links = c.args.links.now in
    let hashes = map (pattern_hash c.args.key) es in
    let here : slice_get es n ≡ Some e = slice_get_read es (length es) n e refl c.requires.within c.index-entries-number.is in
    let hash : c.hash_text.result ≡ get_or hashes n 0 =
    c.hash_text.ensures ∙ ap (text_hash c.args.key) (c.as_bytes-pattern.ensures ∙ ap (λ e. e.pattern) (sym c.index-entries-number.is)) ∙ sym (hash_here c.args.key es e n here) in
    let last = last_before links hashes n c.before-word.result c.requires.linked c.before-word.ensures in
    ap (λ (hs : List ℕ). last_under hs c.hash_text.result c.before-word.result) c.requires.linked
    ∙ ap (λ (h : ℕ). last_under hashes h c.before-word.result) hash
    ∙ ap (λ (w : ℕ). last_under hashes (get_or hashes n 0) w) last
    ∙ last_under-last_under hashes (get_or hashes n 0) n
    ∙ sym last

pub returns : goal.returns
returns c =
    let es = c.args.entries.now in
    let n = c.args.number in
    let key = c.args.key in
    let e = c.index-entries-number.result in
    let links = c.args.links.now in
    let hashes = map (pattern_hash key) es in
    let here : slice_get es n ≡ Some e = slice_get_read es (length es) n e refl c.requires.within c.index-entries-number.is in
    let pattern : c.as_bytes-pattern.result.now ≡ e.pattern = c.as_bytes-pattern.ensures ∙ ap (λ e. e.pattern) (sym c.index-entries-number.is) in
    let hash : c.hash_text.result ≡ text_hash key e.pattern = c.hash_text.ensures ∙ ap (text_hash key) pattern in
    let last : c.before-word.result ≡ last_under hashes (text_hash key e.pattern) n =
    last_before links hashes n c.before-word.result c.requires.linked c.before-word.ensures ∙ ap (λ (h : ℕ). last_under hashes h n) (hash_here key es e n here) in
    told_here key es e n here c.is_some.result
    (repeat_told key es e n here c.before-word.result last c.find_from-found.result
    (rw (c.requires.linked, hash, pattern) at c.find_from-found.ensures.found) (rw (c.requires.linked, hash, pattern) at c.find_from-found.ensures.before)
    ∙ sym c.is_some.ensures)
