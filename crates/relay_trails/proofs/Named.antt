-- Trails lead to the pairs whose numbers they end in.
use Rattle.std.proofs.Common.{◌≡◌, ◌≢◌, ℕ, ◌<◌, List, [], ◌∷◌, length, get_or, map, slice_get, All, AllPairs, Contains, Option, Some, None, refl, sym, ap, ◌∙◌, subst, inl, inr, arith}
use Rattle.std.specs.Option.{option_map, option_and_then}
use Rattle.std.proofs.lemmas.Bool.{cases_lt}
use Rattle.std.proofs.lemmas.List.{length-map, get_or-map}
use Rattle.std.proofs.lemmas.List.Kept.{AllPairs-from_increasing}
use Rattle.std.proofs.lemmas.Option.{none-some, same_Some, slice_get-map, slice_get-get_or, slice_get_within, get_or_from_slice_get}
use Rattle.relay_text.specs.AddressParts.{AddressParts}
use Rattle.relay_tables.specs.declared.node.Node.{Node}
use Rattle.relay_tables.specs.Directory.{Directory}
use Rattle.relay_tables.specs.GraphParts.{GraphParts}
use Rattle.relay_tables.specs.Targets.{recipient_target, targets_of}
use Rattle.relay_tables.specs.Senders.{Sender, Pair, sender_past}
use Rattle.relay_tables.specs.Graphs.{child_numbers, nodes_at, sender_number_after, IsGraphFrom}
use Rattle.relay_pairs.specs.declared.reached.Reached.{Reached}
use Rattle.relay_pairs.specs.Pairs.{IsReachedPair}
use Rattle.relay_pairs.specs.Chains.{HasNumbers, IsReachedBy}
use Rattle.relay_pairs.proofs.Members.{Contains-map, Contains-from_map}
use Rattle.relay_pairs.proofs.Numbered.{leads, to_numbers, from_numbers}
use Rattle.relay_trails.specs.declared.found.Found.{Found}
use Rattle.relay_trails.specs.Trails.{Trail, AreBestTrails, IsBest, ends_in, pair_after, pair_along, pair_of_recipient, trail_of}
use Rattle.relay_trails.specs.Chains.{AreBestBy, AreNumbersOf, IsBestAnswer, IsBestBy, first_pair, leads_to, next_pair, pair_past, senders_of}
use Rattle.relay_trails.proofs.Ends.{pair_is}

-- an element stands once among distinct ones
place_once : {X : Type 0} (xs : List X) → AllPairs (λ x y. x ≢ y) xs → (i j : ℕ) (x : X) → slice_get xs i ≡ Some x → slice_get xs j ≡ Some x → i ≡ j
place_once xs distinct i j x at_i at_j =
    let i_short = slice_get_within xs i x at_i in
    let j_short = slice_get_within xs j x at_j in
    let same : get_or xs i x ≡ get_or xs j x = get_or_from_slice_get xs i x x at_i ∙ sym (get_or_from_slice_get xs j x x at_j) in
    elim (cases_lt i j) [
      | inl less ↦ absurd (distinct i j x less j_short same)
      | inr no_less ↦
          elim (cases_lt j i) [
            | inl less ↦ absurd (distinct j i x less i_short (sym same))
            | inr no_more ↦ omega arith
          ]
    ]

same_names : (p q : Pair) → p.sender ≡ q.sender → p.node ≡ q.node → p ≡ q
same_names p q s n =
    let half : p ≡ record { sender = q.sender; node = p.node } = ap (λ (x : Sender). record { sender = x; node = p.node }) s in
    half ∙ ap (λ (x : Node). record { sender = q.sender; node = x }) n

some_get : {X : Type 0} (xs : List X) (i : ℕ) → i < length xs → (x : X) × (slice_get xs i ≡ Some x)
some_get [] i h = absurd (omega arith)
some_get (x ∷ xs) i h = (get_or (x ∷ xs) i x, slice_get-get_or (x ∷ xs) i x h)

module _ (d : Directory) (sender : Sender) (recipients : List AddressParts) (g : GraphParts) (is : IsGraphFrom d sender recipients g) where
  -- numbers and their pair, or neither
  abbrev IsSameEnd : Option Reached → Option Pair → Type 0
  IsSameEnd None None = Unit {0}
  IsSameEnd None (Some pair) = ⊥
  IsSameEnd (Some numbers) None = ⊥
  IsSameEnd (Some numbers) (Some pair) = AreNumbersOf g pair numbers

  module _ (X : Type 0) (target : X → Node) where
    same_get : (numbers : List ℕ) (xs : List X) → nodes_at g numbers ≡ map (λ x. Some (target x)) xs → (i : ℕ) → option_map (slice_get g.nodes) (slice_get numbers i) ≡ option_map (λ x. Some (target x)) (slice_get xs i)
    same_get numbers xs e i =
        sym (slice_get-map (slice_get g.nodes) numbers i) ∙ ap (λ (ns : List (Option Node)). slice_get ns i) e ∙ slice_get-map (λ (x : X). Some (target x)) xs i

    same_target : (s : ℕ) (a : Sender) → slice_get g.senders s ≡ Some a → (n : Option ℕ) (x : Option X) → option_map (slice_get g.nodes) n ≡ option_map (λ x. Some (target x)) x → IsSameEnd (option_map (λ n. record { sender = s; node = n }) n) (option_map (λ x. record { sender = a; node = target x }) x)
    same_target s a at None None e = tt
    same_target s a at None (Some x) e = absurd (none-some (Some (target x)) e)
    same_target s a at (Some n) None e = absurd (none-some (slice_get g.nodes n) (sym e))
    same_target s a at (Some n) (Some x) e = record { sender = at; node = same_Some (slice_get g.nodes n) (Some (target x)) e }

  same_first : (r : ℕ) → IsSameEnd (pair_of_recipient g r) (first_pair d sender recipients r)
  same_first r =
      same_target AddressParts (recipient_target d) 0 sender is.envelope_first (slice_get g.roots r) (slice_get recipients r)
      (same_get AddressParts (recipient_target d) g.roots recipients is.roots r)

  same_next : (i : ℕ) (numbers : Reached) (pair : Pair) → AreNumbersOf g pair numbers → IsSameEnd (pair_after g i numbers) (next_pair d sender recipients i pair)
  same_next i numbers pair h =
      same_target Node (λ t. t) (sender_number_after g numbers.sender numbers.node) (sender_past d pair.sender pair.node)
      (is.after numbers.sender numbers.node pair.sender pair.node h.sender h.node) (slice_get (child_numbers g numbers.node) i) (slice_get (targets_of d pair.node) i)
      (same_get Node (λ t. t) (child_numbers g numbers.node) (targets_of d pair.node) (is.children numbers.node pair.node h.node) i)

  same_past : (i : ℕ) (numbers : Option Reached) (pair : Option Pair) → IsSameEnd numbers pair → IsSameEnd (option_and_then (pair_after g i) numbers) (option_and_then (next_pair d sender recipients i) pair)
  same_past i None None h = tt
  same_past i None (Some pair) h = absurd h
  same_past i (Some numbers) None h = absurd h
  same_past i (Some numbers) (Some pair) h = same_next i numbers pair h

  same_along : (items : List ℕ) (numbers : Option Reached) (pair : Option Pair) → IsSameEnd numbers pair → IsSameEnd (pair_along g numbers items) (pair_past d sender recipients pair items)
  same_along [] numbers pair h = h
  same_along (i ∷ items) numbers pair h =
      same_along items (option_and_then (pair_after g i) numbers) (option_and_then (next_pair d sender recipients i) pair) (same_past i numbers pair h)

  same_end : (t : Trail) → IsSameEnd (ends_in g t) (leads_to d sender recipients t)
  same_end t = same_along t.items (pair_of_recipient g t.recipient) (first_pair d sender recipients t.recipient) (same_first t.recipient)

  some_pair : (numbers : Reached) (pair : Option Pair) → IsSameEnd (Some numbers) pair → (p : Pair) × AreNumbersOf g p numbers × (pair ≡ Some p)
  some_pair numbers None h = absurd h
  some_pair numbers (Some pair) h = (pair, h, refl)

  some_numbers : (pair : Pair) (numbers : Option Reached) → IsSameEnd numbers (Some pair) → (n : Reached) × AreNumbersOf g pair n × (numbers ≡ Some n)
  some_numbers pair None h = absurd h
  some_numbers pair (Some numbers) h = (numbers, h, refl)

  pub to_leads : (t : Trail) (numbers : Reached) → ends_in g t ≡ Some numbers → (pair : Pair) × AreNumbersOf g pair numbers × (leads_to d sender recipients t ≡ Some pair)
  to_leads t numbers e = some_pair numbers (leads_to d sender recipients t) (subst (λ (n : Option Reached). IsSameEnd n (leads_to d sender recipients t)) e (same_end t))

  pub to_ends : (t : Trail) (pair : Pair) → leads_to d sender recipients t ≡ Some pair → (numbers : Reached) × AreNumbersOf g pair numbers × (ends_in g t ≡ Some numbers)
  to_ends t pair e = some_numbers pair (ends_in g t) (subst (IsSameEnd (ends_in g t)) e (same_end t))

  one_pair : (p q : Pair) (numbers : Reached) → AreNumbersOf g p numbers → AreNumbersOf g q numbers → p ≡ q
  one_pair p q numbers h k = same_names p q (same_Some p.sender q.sender (sym h.sender ∙ k.sender)) (same_Some p.node q.node (sym h.node ∙ k.node))

  -- nodes and senders are distinct
  one_numbers : (pair : Pair) (m n : Reached) → AreNumbersOf g pair m → AreNumbersOf g pair n → m ≡ n
  one_numbers pair m n h k =
      pair_is m n (place_once g.senders is.senders_distinct m.sender n.sender pair.sender h.sender k.sender)
      (place_once g.nodes is.distinct m.node n.node pair.node h.node k.node)

  pub best_by : (pair : Pair) (numbers : Reached) → AreNumbersOf g pair numbers → (t : Trail) → IsBest g numbers t → IsBestBy d sender recipients pair t
  best_by pair numbers h t best =
      let to = to_leads t numbers best.ends in
      record {
        leads = to.2 ∙ ap Some (one_pair to.0 pair numbers to.1 h);
        least = λ u e less.
            let from = to_ends u pair e in
            best.least u (from.2 ∙ ap Some (one_numbers pair from.0 numbers from.1 h)) less;
      }

  module _ (n : ℕ) (node : Node) (at : slice_get g.nodes n ≡ Some node) where
    answer_by : (f : Found) → IsBest g (record { sender = f.sender; node = n }) (trail_of f) → IsBestAnswer d sender recipients g node f
    answer_by f best =
        let numbers : Reached = record { sender = f.sender; node = n } in
        let to = to_leads (trail_of f) numbers best.ends in
        let s : Sender = to.0.sender in
        let h : AreNumbersOf g (record { sender = s; node = node }) numbers = record { sender = to.1.sender; node = at } in
        record { sender_is = s; at = to.1.sender; best = best_by (record { sender = s; node = node }) numbers h (trail_of f) best }

    module _ (found : List Found) (all : AreBestTrails g n found) where
      each_best : All (IsBestAnswer d sender recipients g node) found
      each_best k f short = answer_by (get_or found k f) (all.best k f short)

      senders_apart : AllPairs (λ s t. s ≢ t) (senders_of g found)
      senders_apart i j o before short same =
          let long : length (senders_of g found) ≡ length found = length-map found (λ (f : Found). slice_get g.senders f.sender) in
          let j_short : j < length found = omega (arith, short, long) in
          let i_short : i < length found = omega (arith, j_short, before) in
          let f : Found = (some_get found j j_short).0 in
          let a : Found = get_or found i f in
          let b : Found = get_or found j f in
          let numbers_long : length (map (λ (f : Found). f.sender) found) ≡ length found = length-map found (λ (f : Found). f.sender) in
          let numbers_short : j < length (map (λ (f : Found). f.sender) found) = omega (arith, j_short, numbers_long) in
          let less : get_or (map (λ (f : Found). f.sender) found) i 0 < get_or (map (λ (f : Found). f.sender) found) j 0 = AllPairs-from_increasing (map (λ (f : Found). f.sender) found) all.ascending i j 0 before numbers_short in
          let number_a : get_or (map (λ (f : Found). f.sender) found) i 0 ≡ a.sender = get_or-map (λ (f : Found). f.sender) found i f 0 i_short in
          let number_b : get_or (map (λ (f : Found). f.sender) found) j 0 ≡ b.sender = get_or-map (λ (f : Found). f.sender) found j f 0 j_short in
          let equal : slice_get g.senders a.sender ≡ slice_get g.senders b.sender =
          sym (get_or-map (λ (f : Found). slice_get g.senders f.sender) found i f o i_short) ∙ same ∙ get_or-map (λ (f : Found). slice_get g.senders f.sender) found j f o j_short in
          let best = each_best j f j_short in
          let once : a.sender ≡ b.sender = place_once g.senders is.senders_distinct a.sender b.sender best.sender_is (equal ∙ best.at) best.at in
          omega (arith, less, number_a, number_b, once)

      to_reached : (s : Sender) → Contains (senders_of g found) (Some s) → IsReachedBy d sender recipients (record { sender = s; node = node })
      to_reached s c =
          let f = Contains-from_map (λ (f : Found). slice_get g.senders f.sender) found (Some s) c in
          let numbers : Reached = record { sender = f.0.sender; node = n } in
          let pair : Pair = record { sender = s; node = node } in
          let has : HasNumbers g pair numbers = record {
            reached = (all.senders f.0.sender).0 (Contains-map (λ (f : Found). f.sender) found f.0 f.1);
            sender = f.2;
            node = at;
          } in
          from_numbers d sender recipients g (leads d sender recipients g is) pair (numbers, has)

      to_listed : (s : Sender) → IsReachedBy d sender recipients (record { sender = s; node = node }) → Contains (senders_of g found) (Some s)
      to_listed s r =
          let pair : Pair = record { sender = s; node = node } in
          let has = to_numbers d sender recipients g (leads d sender recipients g is) pair r in
          let numbers : Reached = has.0 in
          let here : numbers.node ≡ n = place_once g.nodes is.distinct numbers.node n node has.1.node at in
          let same : numbers ≡ record { sender = numbers.sender; node = n } = pair_is numbers (record { sender = numbers.sender; node = n }) refl here in
          let f = Contains-from_map (λ (f : Found). f.sender) found numbers.sender ((all.senders numbers.sender).1 (subst (IsReachedPair g) same has.1.reached)) in
          let of_f : slice_get g.senders f.0.sender ≡ Some s = ap (slice_get g.senders) f.2 ∙ has.1.sender in
          subst (Contains (senders_of g found)) of_f (Contains-map (λ (f : Found). slice_get g.senders f.sender) found f.0 f.1)

      pub answers_by : AreBestBy d sender recipients g node found
      answers_by = record { distinct = senders_apart; listed = λ s. (to_reached s, to_listed s); best = each_best }
