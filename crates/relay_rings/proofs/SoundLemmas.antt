-- The batches are sound, and no sound list of transactions is shorter.
use Rattle.std.proofs.Common.{◌≡◌, ℕ, ◌*◌, ◌<◌, ◌≤◌, eqb, List, length, get_or, map, refl, ap, ◌∙◌, subst, arith, slice_index}
use Rattle.std.specs.List.{All, Contains, count_by, filter, flat_map, range_with_len}
use Rattle.std.proofs.lemmas.Bool.{eqb-true, eq-eqb}
use Rattle.std.proofs.lemmas.List.FromFn.{length-range_with_len}
use Rattle.std.proofs.lemmas.List.{length-map}
use Rattle.std.proofs.lemmas.List.Concat.{length-flat_map}
use Rattle.std.proofs.lemmas.List.Elements.{All-contains, All-contains_itself}
use Rattle.std.proofs.lemmas.List.Kept.{Contains-dedup_nat}
use Rattle.std.proofs.lemmas.List.Sums.{sum_by-le, length-filter}
use Rattle.relay_rings.specs.Batches.{part_count, parts_of, keys_of, items_at, batches_at, batches_of, IsAscendingPlaced}
use Rattle.relay_rings.specs.Sound.{IsSoundFor}
use Rattle.relay_rings.specs.declared.batching.Placed.{Placed}
use Rattle.relay_rings.specs.declared.batching.Transaction.{Transaction}
use Rattle.relay_rings.proofs.Counting.{sum_by-all_le, counts_le, covered_le, parts_le}
use Rattle.relay_rings.proofs.GroupLemmas.{keys_ascending, keys_within, items_ascending}
use Rattle.relay_rings.proofs.Members.{Contains-map, Contains-from_map, Contains-filter, Contains-from_filter, Contains-flat_map, Contains-from_flat_map}
use Rattle.relay_rings.proofs.Parts.{part_at, part_within, part_from, part_of_each}

abbrev of_key : ℕ → List ℕ → Transaction
of_key key part = record { key = key; items = part }

item_placed : (placed : List Placed) (key item : ℕ) → Contains (items_at placed key) item → Contains placed (record { key = key; item = item })
item_placed placed key item c =
    let test = λ (p : Placed). eqb p.key key in
    let r = Contains-from_map (λ (p : Placed). p.item) (filter test placed) item c in
    let f = Contains-from_filter test placed r.0 r.1 in
    let to : ℕ → ℕ → Placed = λ k i. record { key = k; item = i } in
    let is : r.0 ≡ to key item = ap (λ k. to k r.0.item) (eqb-true r.0.key key f.1) ∙ ap (to key) r.2 in
    subst (λ (p : Placed). Contains placed p) is f.0

placed_item : (placed : List Placed) (key item : ℕ) → Contains placed (record { key = key; item = item }) → Contains (items_at placed key) item
placed_item placed key item c =
    let test = λ (p : Placed). eqb p.key key in
    let p : Placed = record { key = key; item = item } in
    Contains-map (λ (q : Placed). q.item) (filter test placed) p (Contains-filter test placed p c (eq-eqb key key refl))

-- the part that a batch has
batch_from : (limits : List ℕ) (placed : List Placed) (t : Transaction) → Contains (batches_of limits placed) t → Contains (parts_of (slice_index limits t.key) (items_at placed t.key)) t.items
batch_from limits placed t c =
    let r = Contains-from_flat_map (batches_at limits placed) (keys_of placed) t c in
    let m = Contains-from_map (of_key r.0) (parts_of (slice_index limits r.0) (items_at placed r.0)) t r.2 in
    subst (λ (u : Transaction). Contains (parts_of (slice_index limits u.key) (items_at placed u.key)) u.items) m.2 m.1

pub batches_sound : (limits : List ℕ) (placed : List Placed) → All (λ (p : Placed). p.key < length limits) placed → All (λ l. 0 < l) limits → IsSoundFor limits placed (batches_of limits placed)
batches_sound limits placed keys pos = record {
  within = λ t c. part_within (slice_index limits t.key) (items_at placed t.key) t.items (batch_from limits placed t c);
  placed = λ t x c has. item_placed placed t.key x (part_from (slice_index limits t.key) (items_at placed t.key) t.items x (batch_from limits placed t c) has);
  complete = λ k x c.
      let p : Placed = record { key = k; item = x } in
      let in_keys : Contains (keys_of placed) k = Contains-dedup_nat (map (λ (q : Placed). q.key) placed) k (Contains-map (λ (q : Placed). q.key) placed p c) in
      let small : k < length limits = All-contains (λ (q : Placed). q.key < length limits) placed p keys c in
      let part = part_of_each (slice_index limits k) (items_at placed k) x (pos k 0 small) (placed_item placed k x c) in
      let t : Transaction = of_key k part.0 in
      let here = Contains-flat_map (batches_at limits placed) (keys_of placed) k t in_keys (Contains-map (of_key k) (parts_of (slice_index limits k) (items_at placed k)) part.0 part.1) in
      (t, here, refl, part.2);
}

-- ---- any sound list
module _ (limits : List ℕ) (placed : List Placed) (up : IsAscendingPlaced placed) (other : List Transaction) (sound : IsSoundFor limits placed other) where
  -- a key's items are covered by its transactions
  covers : (k : ℕ) → length (items_at placed k) ≤ length (flat_map (λ (t : Transaction). t.items) (filter (λ (t : Transaction). eqb t.key k) other))
  covers k =
      let group = filter (λ (t : Transaction). eqb t.key k) other in
      let all : All (λ x. Contains (flat_map (λ (t : Transaction). t.items) group) x) (items_at placed k) = λ i d b.
      let x = get_or (items_at placed k) i d in
      let c = sound.complete k x (item_placed placed k x (All-contains_itself (items_at placed k) i d b)) in
      Contains-flat_map (λ (t : Transaction). t.items) group c.0 x (Contains-filter (λ (t : Transaction). eqb t.key k) other c.0 c.1 (eq-eqb c.0.key k c.2)) c.3 in
      covered_le (items_at placed k) (flat_map (λ (t : Transaction). t.items) group) (items_ascending placed k up) all

  -- so a key has at least as many transactions as parts
  enough : (k : ℕ) → 0 < slice_index limits k → part_count (length (items_at placed k)) (slice_index limits k) ≤ count_by (λ (t : Transaction). eqb t.key k) other
  enough k pos =
      let test = λ (t : Transaction). eqb t.key k in
      let group = filter test other in
      let limit = slice_index limits k in
      let short : All (λ (t : Transaction). length t.items ≤ limit) group = λ i d b.
      let t = get_or group i d in
      let f = Contains-from_filter test other t (All-contains_itself group i d b) in
      let w : length t.items ≤ slice_index limits t.key = sound.within t f.0 in
      subst (λ j. length t.items ≤ slice_index limits j) (eqb-true t.key k f.1) w in
      let total = sum_by-le (λ (t : Transaction). length t.items) limit group short in
      let spread = length-flat_map (λ (t : Transaction). t.items) group in
      let counted : length group ≡ count_by test other = length-filter test other in
      let few : length (items_at placed k) ≤ length group * limit = omega (arith, covers k) in
      parts_le (length (items_at placed k)) limit (count_by test other) pos (subst (λ n. length (items_at placed k) ≤ n * limit) counted few)

  pub batches_fewest : All (λ (p : Placed). p.key < length limits) placed → All (λ l. 0 < l) limits → length (batches_of limits placed) ≤ length other
  batches_fewest keys pos =
      let ks = keys_of placed in
      let in_limits = keys_within placed (length limits) keys in
      let each : All (λ k. length (batches_at limits placed k) ≤ count_by (λ (t : Transaction). eqb t.key k) other) ks = λ i d b.
      let k = get_or ks i d in
      let parts = parts_of (slice_index limits k) (items_at placed k) in
      let n = part_count (length (items_at placed k)) (slice_index limits k) in
      let long : length (batches_at limits placed k) ≡ n =
      length-map parts (of_key k) ∙ length-map (range_with_len 0 n) (part_at (slice_index limits k) (items_at placed k)) ∙ length-range_with_len 0 n in
      omega (arith, long, enough k (pos k 0 (in_limits i d b))) in
      omega (arith, length-flat_map (batches_at limits placed) ks, sum_by-all_le (λ k. length (batches_at limits placed k)) (λ k. count_by (λ (t : Transaction). eqb t.key k) other) ks each, counts_le (λ (t : Transaction). t.key) ks (keys_ascending placed up) other)
