-- The chains of a closed round, one after another.
use Rattle.std.proofs.Common.{◌≡◌, ◌≢◌, ℕ, zero, suc, ◌+◌, ◌-◌, ◌*◌, ◌%◌, ◌<◌, ◌≤◌, Bool, true, false, cond, eqb, min, List, [], ◌∷◌, ◌++◌, length, get_or, slice_index, sym, refl, ap, ◌∙◌, subst, arith, append_assoc, append-nil, length-append, count_by, filter, ltb, inl, inr}
use Rattle.std.proofs.lemmas.Bool.Decides.{nat_tests}
use Rattle.std.proofs.lemmas.List.Recursion.{is_count_by}
use Rattle.std.proofs.lemmas.Bool.{cases_Bool}
use Rattle.std.proofs.lemmas.List.Kept.{IsStrictlyIncreasing-filter}
use Rattle.std.proofs.lemmas.List.Sorted.{sum_by-IsPermutation}
use Rattle.std.specs.List.Sorted.{IsPermutation, IsNonDecreasing, IsStrictlyIncreasing}
use mathlib.Core.Option.{some, some-injective, some-ne-none}
use mathlib.Core.Logic.{dite}
use native.Mathlib.Decide.{ℕ_discrete, dec_lt}
use lib.ListN.{get_elem?}
use Rattle.atomic_table.specs.Table.{State}
use Rattle.atomic_table.specs.Seated.{TableId}
use Rattle.relay_claims.specs.declared.view.View.{View}
use Rattle.relay_claims.specs.declared.view.Settled.{Settled}
use Rattle.relay_claims.specs.Counting.{times, IsIn, span, once_below}
use Rattle.relay_claims.specs.Settled.{won_of, places_of}
use Rattle.relay_claims.specs.Round.{Terms, pieces_of, bucket_of, head_word, link_word, ticket_of, link_of}
use Rattle.relay_claims.specs.View.{won}
use Rattle.relay_claims.specs.Lawful.{Leads, AreHeld, Lawful}
use Rattle.relay_claims.specs.Seat.{Progress, shown}
use Rattle.relay_claims.specs.Closing.{IsChainWithRoom, AddsChain, HasHolders, Closes, HasClosing}
use Rattle.relay_claims.proofs.Counts.{total_at, total_only, times_append, times_head, times_else, times_span, few}
use Rattle.relay_claims.proofs.Chains.{leads_word, word_none}
use Rattle.relay_claims.proofs.Looks.{bucket_small}
use Rattle.relay_claims.proofs.Pieces.{pieces_end}

once_below_small : (x m : ℕ) → once_below x m ≤ 1
once_below_small x m = grind (arith, nat_tests)

pub get_of : (l : List ℕ) (i a : ℕ) → get_elem? l i ≡ some a → a ≡ get_or l i 0
get_of [] i a e = absurd (some-ne-none a (sym e))
get_of (x ∷ xs) zero a e = sym (some-injective x a e)
get_of (x ∷ xs) (suc i) a e = get_of xs i a e

-- the chains of the first buckets
abbrev pub gather : (ℕ → List ℕ) → ℕ → List ℕ
gather chain zero = []
gather chain (suc b) = gather chain b ++ chain b

-- on the way down the chain from `first`, `next` leads through the rest of it, for which there is room
pub record Rests (heads : ℕ) (words : List ℕ) (first next : ℕ) (items now : List ℕ) (room : ℕ) : Type 0 where
  pub rest : List ℕ
  pub leads : Leads (link_of heads words) next rest
  pub inside : (i : ℕ) → IsIn i rest → link_word heads i < length words
  pub fits : length now + length rest ≤ room
  pub whole : (chain : List ℕ) → Leads (link_of heads words) first chain → now ++ rest ≡ items ++ chain

-- one word leads through one chain
leads_one : (link : ℕ → ℕ) (w : ℕ) (xs ys : List ℕ) → Leads link w xs → Leads link w ys → xs ≡ ys
leads_one link w [] [] a b = refl
leads_one link w [] (y ∷ ys) a b = absurd (let h = b.0 in omega arith)
leads_one link w (x ∷ xs) [] a b = absurd (let h = a.0 in omega arith)
leads_one link w (x ∷ xs) (y ∷ ys) a b = let e : x ≡ y = let h = a.0 in let g = b.0 in omega arith in
    (let t = leads_one link (link x) xs ys a.1 (subst (λ (n : ℕ). Leads link (link n) ys) (sym e) b.1) in λ i. e i ∷ t i)

pub rests_first : (heads : ℕ) (words : List ℕ) (first : ℕ) (items : List ℕ) (room : ℕ) → IsChainWithRoom heads words first (length items) room → Rests heads words first first items items room
rests_first heads words first items room c = record {
  rest = c.0;
  leads = c.1;
  inside = c.2;
  fits = c.3;
  whole = λ chain l. ap (λ (xs : List ℕ). items ++ xs) (leads_one (link_of heads words) first c.0 chain c.1 l);
}

pub rests_last : (heads : ℕ) (words : List ℕ) (first : ℕ) (items now : List ℕ) (room next : ℕ) → next ≡ 0 → Rests heads words first next items now room → AddsChain heads words first items now
rests_last heads words first items now room next is r chain l = sym (append-nil now) ∙ ap (λ (xs : List ℕ). now ++ xs) (sym (word_none r.rest (sym (leads_word (link_of heads words) next r.rest r.leads) ∙ is))) ∙ r.whole chain l

-- the next place has a link, and there is room for it
pub rests_room : (heads : ℕ) (words : List ℕ) (first : ℕ) (items now : List ℕ) (room next : ℕ) → next ≢ 0 → Rests heads words first next items now room → (link_word heads (next - 1) < length words) × (length now < room) × (0 < next)
rests_room heads words first items now room next some_next r = elim r.rest as (λ rest. Leads (link_of heads words) next rest → ((i : ℕ) → IsIn i rest → link_word heads i < length words) → length now + length rest ≤ room → (link_word heads (next - 1) < length words) × (length now < room) × (0 < next)) [
  | [] ↦ λ l b f. absurd (some_next l)
  | ◌∷◌ i ys ↦ λ l b f. let e = l.0 in let t = times_head i ys in let h = b i (omega arith) in (omega arith, omega arith, omega arith)
] r.leads r.inside r.fits

pub rests_next : (heads : ℕ) (words : List ℕ) (first : ℕ) (items now : List ℕ) (room next r : ℕ) → next ≢ 0 → r ≡ slice_index words (1 + heads + (next - 1)) → Rests heads words first next items now room → Rests heads words first r items (now ++ (next - 1) ∷ []) room
rests_next heads words first items now room next r some_next is c = elim c.rest as (λ rest. Leads (link_of heads words) next rest → ((i : ℕ) → IsIn i rest → link_word heads i < length words) → length now + length rest ≤ room
    → ((chain : List ℕ) → Leads (link_of heads words) first chain → now ++ rest ≡ items ++ chain) → Rests heads words first r items (now ++ (next - 1) ∷ []) room) [
      | [] ↦ λ l b f w. absurd (some_next l)
      | ◌∷◌ i ys ↦ λ l b f w. let e : next - 1 ≡ i = let h = l.0 in omega arith in record {
        rest = ys;
        leads = subst (λ (n : ℕ). Leads (link_of heads words) n ys) (sym (is ∙ ap (λ (n : ℕ). slice_index words (1 + heads + n)) e)) l.1;
        inside = λ k on. b k (omega arith);
        fits = let h = length-append now ((next - 1) ∷ []) in omega arith;
        whole = λ chain lead. append_assoc now ((next - 1) ∷ []) ys ∙ ap (λ (n : ℕ). now ++ n ∷ ys) e ∙ w chain lead;
      }
    ] c.leads c.inside c.fits c.whole

one : (b : Bool) (n : ℕ) → cond b 1 0 + n ≡ cond b (1 + n) n
one true n = refl
one false n = omega arith

which : (b : Bool) → (b ≡ false → b ≡ true) → b ≡ true
which true h = refl
which false h = h refl

ended : (u : View) → (u.spent ≡ false → u.spent ≡ true) → u.spent ≡ true
ended u h = which u.spent h

front : (xs : List ℕ) → 0 < length xs → 0 < times (get_or xs 0 0) xs
front [] h = absurd (omega arith)
front (x ∷ xs) h = let t = times_head x xs in omega arith

twice : (xs : List ℕ) (k : ℕ) → k + 1 < length xs → get_or xs k 0 ≡ get_or xs (k + 1) 0 → 1 < times (get_or xs k 0) xs
twice [] k small e = absurd (omega arith)
twice (x ∷ xs) zero small e = let q : x ≡ get_or xs 0 0 = e ∙ ap (λ (n : ℕ). get_or (x ∷ xs) n 0) (let z : 0 + 1 ≡ suc 0 = omega arith in z) in
    let f = front xs (omega arith) in let h = times_head x xs in let g : times x xs ≡ times (get_or xs 0 0) xs = ap (λ (n : ℕ). times n xs) q in omega arith
twice (x ∷ xs) (suc k) small e = let h = twice xs k (omega arith) (e ∙ ap (λ (n : ℕ). get_or (x ∷ xs) n 0) (let z : suc k + 1 ≡ suc (k + 1) = omega arith in z)) in omega arith

module _ (keys : List ℕ) (heads cut id : ℕ) (v : View) (words : List ℕ) where
  abbrev St : Type 0
  St = State Unit View

  abbrev Law : St → Type 0
  Law = Lawful keys heads cut

  pub record Gathered (b : ℕ) (items : List ℕ) : Type 0 where
    pub s : State Unit View
    pub law : Lawful keys heads cut s
    pub at : get_elem? s.views id ≡ some v
    pub same : s.words ≡ words
    pub are : items ≡ gather law.chain b

  -- where the place x stands among the gathered ones
  gather_later : (s : St) (r : Law s) (b x : ℕ) → b ≤ heads → b ≤ bucket_of keys heads x → times x (gather r.chain b) ≡ 0
  gather_later s r zero x low late = refl
  gather_later s r (suc b) x low late = let h = gather_later s r b x (omega arith) (omega arith) in let a = times_append x (gather r.chain b) (r.chain b) in
      dite (ℕ_discrete (times x (r.chain b)) 0) (λ e. omega arith) (λ n. absurd (let q = (r.inside b x (omega arith) (omega arith)).1 in omega arith))

  gather_earlier : (s : St) (r : Law s) (b x : ℕ) → b ≤ heads → bucket_of keys heads x < b → times x (gather r.chain b) ≡ times x (r.chain (bucket_of keys heads x))
  gather_earlier s r zero x low early = absurd (omega arith)
  gather_earlier s r (suc b) x low early = let a = times_append x (gather r.chain b) (r.chain b) in dite (ℕ_discrete (bucket_of keys heads x) b)
      (λ e. let h = gather_later s r b x (omega arith) (omega arith) in let q : times x (r.chain (bucket_of keys heads x)) ≡ times x (r.chain b) = ap (λ (c : ℕ). times x (r.chain c)) e in omega arith)
      (λ n. let h = gather_earlier s r b x (omega arith) (omega arith) in dite (ℕ_discrete (times x (r.chain b)) 0) (λ z. omega arith) (λ z. absurd (n (r.inside b x (omega arith) (omega arith)).1)))

  gather_few : (s : St) (r : Law s) (b : ℕ) → b ≤ heads → length (gather r.chain b) ≤ length keys
  gather_few s r b low = few (length keys) (gather r.chain b)
      (λ x. dite (dec_lt (bucket_of keys heads x) b)
      (λ h. let e = gather_earlier s r b x low h in let o = r.once (bucket_of keys heads x) x (bucket_small keys heads cut s r x) in omega arith)
      (λ h. let e = gather_later s r b x low (omega arith) in omega arith))
      (λ x on. dite (dec_lt (bucket_of keys heads x) b)
      (λ h. let e = gather_earlier s r b x low h in (r.inside (bucket_of keys heads x) x (bucket_small keys heads cut s r x) (omega arith)).0)
      (λ h. absurd (let e = gather_later s r b x low (omega arith) in omega arith)))

  pub begins : (s : St) → Law s → get_elem? s.views id ≡ some v → s.words ≡ words → Gathered 0 []
  begins s r at same = record { s = s; law = r; at = at; same = same; are = refl }

  -- the chain of the bucket b has places, and there is room for them
  pub next_chain : (b count : ℕ) (items : List ℕ) → b < heads → length keys ≤ count → Gathered b items → IsChainWithRoom heads words (slice_index words (head_word b)) (length items) count
  next_chain b count items low big g = let r = g.law in (
    r.chain b,
    (let t = g.same in subst (λ (ws : List ℕ). Leads (link_of heads ws) (slice_index ws (head_word b)) (r.chain b)) t (r.leads b low)),
    (λ i on. let h = (r.inside b i low on).0 in let w = r.wide in let l = ap length g.same in omega arith),
    (let few = gather_few g.s r (suc b) low in let l = length-append (gather r.chain b) (r.chain b) in let k : length items ≡ length (gather r.chain b) = ap length g.are in omega arith),
  )

  pub one_more : (b : ℕ) (items more : List ℕ) → b < heads → Gathered b items → AddsChain heads words (slice_index words (head_word b)) items more → Gathered (b + 1) more
  one_more b items more low g adds = let r = g.law in record {
    s = g.s;
    law = r;
    at = g.at;
    same = g.same;
    are = adds (r.chain b) (let t = g.same in subst (λ (ws : List ℕ). Leads (link_of heads ws) (slice_index ws (head_word b)) (r.chain b)) t (r.leads b low))
        ∙ ap (λ (l : List ℕ). l ++ r.chain b) g.are ∙ ap (λ (n : ℕ). gather r.chain n) (let z : suc b ≡ b + 1 = omega arith in z);
  }

  counts : (x : ℕ) (xs : List ℕ) → times x xs ≡ count_by (eqb x) xs
  counts x xs = is_count_by (times x) (eqb x) refl (λ y ys. one (eqb x y) (times x ys)) xs

  pub moved : (x : ℕ) (xs ys : List ℕ) → IsPermutation xs ys → times x ys ≡ times x xs
  moved x xs ys p = counts x ys ∙ sum_by-IsPermutation (λ (y : ℕ). cond (eqb x y) 1 0) xs ys p ∙ sym (counts x xs)

  holders : (chain : ℕ → List ℕ) (items : List ℕ) → ((x : ℕ) → times x items ≡ times x (chain (bucket_of keys heads x))) → (ps : List Settled) → AreHeld keys heads cut chain ps → HasHolders ps items
  holders chain items same [] h = tt
  holders chain items same (p ∷ ps) h = ((let e = same p.holder in let o = h.0.0 in omega arith), holders chain items same ps h.1)

  finds : (chain : ℕ → List ℕ) (items : List ℕ) → ((x : ℕ) → times x items ≡ times x (chain (bucket_of keys heads x))) → (ps : List Settled) → AreHeld keys heads cut chain ps → (j : ℕ) → IsIn j (places_of ps)
      → (i : ℕ) × IsIn i items × (slice_index keys i ≡ slice_index keys j)
  finds chain items same [] h j on = absurd (omega arith)
  finds chain items same (p ∷ ps) h j on = dite (ℕ_discrete j p.place)
      (λ e. (p.holder, (let q = same p.holder in let o = h.0.0 in omega arith), h.0.1 ∙ ap (λ (n : ℕ). slice_index keys n) (sym e)))
      (λ n. finds chain items same ps h.1 j (let q = times_else j p.place (places_of ps) n in omega arith))

  -- a list that does not fall, in which no number stands twice, rises
  rises : (xs : List ℕ) → ((x : ℕ) → times x xs ≤ 1) → IsNonDecreasing xs → IsStrictlyIncreasing xs
  rises xs once le k small = let h = le k (k + 1) 0 (omega arith) small in dite (ℕ_discrete (get_or xs k 0) (get_or xs (k + 1) 0))
      (λ e. absurd (let t = twice xs k small e in let o = once (get_or xs k 0) in omega arith)) (λ n. omega arith)

  -- a list without repeats, in which each number stands as often as among the gathered ones
  pub gathered_once : (items sorted : List ℕ) → Gathered heads items → ((x : ℕ) → times x sorted ≡ times x items) → (x : ℕ) → times x sorted ≤ 1
  gathered_once items sorted g as_often x = let r = g.law in let s = as_often x in let a : times x items ≡ times x (gather r.chain heads) = ap (λ (l : List ℕ). times x l) g.are in
      let e = gather_earlier g.s r heads x (omega arith) (bucket_small keys heads cut g.s r x) in let o = r.once (bucket_of keys heads x) x (bucket_small keys heads cut g.s r x) in omega arith

  -- the gathered ones are places
  pub gathered_within : (items : List ℕ) → Gathered heads items → (x : ℕ) → IsIn x items → x < length keys
  gathered_within items g x on = let r = g.law in let a : times x items ≡ times x (gather r.chain heads) = ap (λ (l : List ℕ). times x l) g.are in
      let e = gather_earlier g.s r heads x (omega arith) (bucket_small keys heads cut g.s r x) in (r.inside (bucket_of keys heads x) x (bucket_small keys heads cut g.s r x) (omega arith)).0

  pub closes : (name of : TableId) (p : Progress) (items sorted : List ℕ) → record (shown of v) { round = record { name = name; keys = keys; heads = heads; cut = cut } } ≡ p → v.spent ≡ false → Gathered heads items → ((x : ℕ) → times x sorted ≡ times x items) → IsStrictlyIncreasing sorted → Closes p sorted
  closes name of p items sorted is live g as_often rising = subst (λ (q : Progress). Closes q sorted) is (
      let r = g.law in let so = r.each id v g.at live in
      let same : (x : ℕ) → times x sorted ≡ times x (r.chain (bucket_of keys heads x)) = λ x. as_often x ∙ ap (λ (l : List ℕ). times x l) g.are ∙ gather_earlier g.s r heads x (omega arith) (bucket_small keys heads cut g.s r x) in
      let once : (x : ℕ) → times x sorted ≤ 1 = gathered_once items sorted g as_often in
      let on : (x : ℕ) → IsIn x sorted → IsIn x (r.chain (bucket_of keys heads x)) = λ x i. let e = same x in omega arith in
      -- at the root the other seats are spent
      let others : v.position ≡ [] → (k : ℕ) (u : View) → k ≢ id → get_elem? g.s.views k ≡ some u → u.spent ≡ true = λ root k u n at. ended u (λ lu. absurd (n (sym (r.apart id k v u g.at at live lu (u.position, sym (append-nil u.position) ∙ ap (λ (q : List Bool). u.position ++ q) (sym root)))))) in
      let all_won : v.position ≡ [] → (x : ℕ) → times x sorted ≡ times x (won v) = λ root x. same x ∙ sym (r.wins x) ∙ total_only (λ (z : View). times x (won z)) g.s.views id v g.at (λ k u n at. ap (λ (l : List Settled). times x (won_of l)) (r.empty k u at (others root k u n at)).1) in
      record {
        rising = rising;
        places = λ x i. (r.inside (bucket_of keys heads x) x (bucket_small keys heads cut g.s r x) (on x i)).0;
        apart = λ i k oi ok key. r.distinct (bucket_of keys heads i) i k (bucket_small keys heads cut g.s r i) (on i oi) (subst (λ (n : ℕ). IsIn k (r.chain (n % heads))) (sym key) (on k ok)) key;
        holders = holders r.chain sorted same v.settled so.held;
        drawn_once = λ x. let t = total_at (λ (z : View). times x z.drawn) g.s.views id v g.at in let d = r.draws x in let o = once_below_small x (min (ticket_of g.s.words * cut) (length keys)) in omega arith;
        claimed_once = so.within;
        all = λ each j small. finds r.chain sorted same v.settled so.held j (each j small);
        won_all = all_won;
        one_winner = λ root j claimed. let f = finds r.chain sorted same v.settled so.held j claimed in let a = all_won root f.0 in let o = once f.0 in let i = f.1 in (f.0, omega arith, f.2);
        drew_all = λ root last x small.
            let d = r.draws x in let t = total_only (λ (z : View). times x z.drawn) g.s.views id v g.at (λ k u n at. ap (λ (l : List ℕ). times x l) (r.empty k u at (others root k u n at)).0) in
            let low = so.seen in let high = r.ticket in let e : ticket_of g.s.words ≡ pieces_of (length keys) cut = omega arith in
            let end = pieces_end (length keys) cut r.some_cut in
            let c : once_below x (min (ticket_of g.s.words * cut) (length keys)) ≡ once_below x (length keys) = ap (λ (m : ℕ). once_below x m) (ap (λ (m : ℕ). min (m * cut) (length keys)) e ∙ (let z : ℕ = pieces_of (length keys) cut * cut in let h : length keys ≤ z = end in let q : min z (length keys) ≡ length keys = omega arith in q)) in
            let o : once_below x (length keys) ≡ 1 = grind (arith, nat_tests) in omega arith;
      })

-- the chains of the first b buckets were gathered, where p closes the round r, whose words these are
pub record Ended (r : Terms) (p : Progress) (words : List ℕ) (b : ℕ) (items : List ℕ) : Type 0 where
  pub id : ℕ
  pub v : View
  pub of : TableId
  pub is : record (shown of v) { round = r } ≡ p
  pub live : v.spent ≡ false
  pub gathered : Gathered r.keys r.heads r.cut id v words b items

pub ended_first : (r : Terms) (p : Progress) (words : List ℕ) (keys : List ℕ) (heads cut id : ℕ) (v : View) (of : TableId) (s : State Unit View)
    → keys ≡ r.keys → heads ≡ r.heads → cut ≡ r.cut → record (shown of v) { round = r } ≡ p → v.spent ≡ false
    → Lawful keys heads cut s → get_elem? s.views id ≡ some v → s.words ≡ words → Ended r p words 0 []
ended_first r p words keys heads cut id v of s a b c is live law at same = record {
  id = id;
  v = v;
  of = of;
  is = is;
  live = live;
  gathered = begins r.keys r.heads r.cut id v words s (subst (λ (t : ℕ). Lawful r.keys r.heads t s) c (subst (λ (h : ℕ). Lawful r.keys h cut s) b (subst (λ (ks : List ℕ). Lawful ks heads cut s) a law))) at same;
}

pub ended_room : (r : Terms) (p : Progress) (words : List ℕ) (b count : ℕ) (items : List ℕ) → b < r.heads → length r.keys ≤ count → Ended r p words b items → IsChainWithRoom r.heads words (slice_index words (head_word b)) (length items) count
ended_room r p words b count items low big e = next_chain r.keys r.heads r.cut e.id e.v words b count items low big e.gathered

pub ended_next : (r : Terms) (p : Progress) (words : List ℕ) (b : ℕ) (items more : List ℕ) → b < r.heads → Ended r p words b items → AddsChain r.heads words (slice_index words (head_word b)) items more → Ended r p words (b + 1) more
ended_next r p words b items more low e adds = record {
  id = e.id;
  v = e.v;
  of = e.of;
  is = e.is;
  live = e.live;
  gathered = one_more r.keys r.heads r.cut e.id e.v words b items more low e.gathered adds;
}

pub ended_last : (r : Terms) (p : Progress) (words : List ℕ) (b : ℕ) (items sorted : List ℕ) → b ≡ r.heads → Ended r p words b items → IsPermutation items sorted → IsNonDecreasing sorted → Closes p sorted
ended_last r p words b items sorted all e moves le =
    let g = subst (λ (n : ℕ). Gathered r.keys r.heads r.cut e.id e.v words n items) all e.gathered in
    let as_often : (x : ℕ) → times x sorted ≡ times x items = λ x. moved r.keys r.heads r.cut e.id e.v words x items sorted moves in
    closes r.keys r.heads r.cut e.id e.v words r.name e.of p items sorted e.is e.live g as_often (rises r.keys r.heads r.cut e.id e.v words sorted (gathered_once r.keys r.heads r.cut e.id e.v words items sorted g as_often) le)

-- the numbers from a on rise
span_at : (a n k : ℕ) → k < n → slice_index (span a n) k ≡ a + k
span_at a zero k h = absurd (omega arith)
span_at a (suc n) zero h = omega arith
span_at a (suc n) (suc k) h = let e = span_at (a + 1) n k (omega arith) in omega arith

length-span : (a n : ℕ) → length (span a n) ≡ n
length-span a zero = refl
length-span a (suc n) = let h = length-span (a + 1) n in omega arith

span_rises : (a n : ℕ) → IsStrictlyIncreasing (span a n)
span_rises a n k h = let l = length-span a n in let e = span_at a n k (omega arith) in let f = span_at a n (k + 1) (omega arith) in omega arith

-- how often a number stands among those that a test keeps
times_filter : (p : ℕ → Bool) (x : ℕ) (xs : List ℕ) → times x (filter p xs) ≡ cond (p x) (times x xs) 0
times_filter p x [] = grind (arith, nat_tests)
times_filter p x (y ∷ ys) = let h = times_filter p x ys in dite (ℕ_discrete x y)
    (λ e. elim (cases_Bool (p y)) [
      | inl kept ↦ let q : p x ≡ true = ap p e ∙ kept in rw (kept, q) (let g : times x (filter p ys) ≡ times x ys = h ∙ ap (λ (b : Bool). cond b (times x ys) 0) q in omega arith)
      | inr left ↦ let q : p x ≡ false = ap p e ∙ left in rw (left, q) (h ∙ ap (λ (b : Bool). cond b (times x ys) 0) q)
    ])
    (λ n. let z = times_else x y ys n in elim (cases_Bool (p y)) [
      | inl kept ↦ rw kept (times_else x y (filter p ys) n ∙ h ∙ ap (λ (m : ℕ). cond (p x) m 0) (sym z))
      | inr left ↦ rw left (h ∙ ap (λ (m : ℕ). cond (p x) m 0) (sym z))
    ])

-- the places that stand in a list, rising
abbrev placed : List ℕ → ℕ → List ℕ
placed items n = filter (λ x. ltb 0 (times x items)) (span 0 n)

placed_times : (items : List ℕ) (n x : ℕ) → times x items ≤ 1 → (IsIn x items → x < n) → times x (placed items n) ≡ times x items
placed_times items n x once within = times_filter (λ y. ltb 0 (times y items)) x (span 0 n) ∙ (let s = times_span x 0 n in grind (arith, nat_tests))

-- A closed round has places to give, also where nobody walks along its chains.
pub ended_any : (r : Terms) (p : Progress) (words : List ℕ) → Ended r p words 0 [] → HasClosing p
ended_any r p words e =
    let g = e.gathered in let law = g.law in
    let all : List ℕ = gather law.chain r.heads in
    let whole : Gathered r.keys r.heads r.cut e.id e.v words r.heads all = record { s = g.s; law = law; at = g.at; same = g.same; are = refl } in
    let once = gathered_once r.keys r.heads r.cut e.id e.v words all all whole (λ x. refl) in
    let within = gathered_within r.keys r.heads r.cut e.id e.v words all whole in
    let as_often : (x : ℕ) → times x (placed all (length r.keys)) ≡ times x all = λ x. placed_times all (length r.keys) x (once x) (within x) in
    (placed all (length r.keys), closes r.keys r.heads r.cut e.id e.v words r.name e.of p all (placed all (length r.keys)) e.is e.live whole as_often (IsStrictlyIncreasing-filter (λ x. ltb 0 (times x all)) (span 0 (length r.keys)) (span_rises 0 (length r.keys))))
