-- Recipients whose paths are written by shares.
use Rattle.std.proofs.Common.{◌≡◌, ℕ, ◌+◌, ◌-◌, ◌*◌, ◌/◌, ◌%◌, ◌<◌, ◌≤◌, min, List, length, get_or, map, take, drop, Result, Ok, Vec, Global, sym, ap, subst, ◌∙◌, arith, inl, inr, length-drop}
use Rattle.std.specs.Prelude.{IfOk}
use Rattle.std.proofs.lemmas.Bool.{cases_lt}
use Rattle.std.proofs.lemmas.List.{length-map, length-take-le, get_or-map, get_or-take, take-map, drop-map, drop-take, drop_all, take_all}
use Rattle.std.proofs.lemmas.Result.{IfOk-at_ok}
use Rattle.std.specs.declared.alloc.AllocError.{AllocError}
use Rattle.relay_delivery.specs.declared.routed.Routed.{Routed}
use Rattle.relay_delivery.specs.Groups.{Sender}
use Rattle.relay_delivery.specs.Orders.{sender_of}
use Rattle.relay_delivery.specs.WrittenPaths.{paths_of, AreSharedPaths}

-- the sender that a recipient is seen as, among those up to an end
pub sender_here : (given : List Routed) (end i : ℕ) (r : Routed) → i < end → end ≤ length given → r ≡ get_or given i r
    → (i < length (take end (map sender_of given))) × (sender_of r ≡ get_or (take end (map sender_of given)) i (sender_of r))
sender_here given end i r before within is =
    let senders = map sender_of given in
    let many : length senders ≡ length given = length-map given sender_of in
    let long = length-take-le end senders (omega (arith, many, within)) in (
      omega (arith, long, before),
      ap sender_of is ∙ sym (get_or-map sender_of given i r (sender_of r) (omega (arith, before, within))) ∙ sym (get_or-take end senders i (sender_of r) before),
    )

-- so many shares hold all
pub enough : (long size : ℕ) → 0 < size → long ≤ (long / size + min 1 (long % size)) * size
enough long size some =
    elim (cases_lt 0 (long % size)) [
      | inl left ↦ (let one : min 1 (long % size) ≡ 1 = omega (arith, left) in subst (λ n. long ≤ (long / size + n) * size) (sym one) (omega (arith, some)))
      | inr none ↦ (let nothing : min 1 (long % size) ≡ 0 = omega (arith, none) in subst (λ n. long ≤ (long / size + n) * size) (sym nothing) (omega (arith, some, none)))
    ]

-- the texts that shares have given
pub shared_paths_are : (recipients : List Routed) (size : ℕ) (shares : List (Result (Vec ℕ Global) AllocError)) (texts : List (Vec ℕ Global)) → 0 < size → length shares ≡ length recipients / size + min 1 (length recipients % size)
    → ((n : ℕ) (d : Result (Vec ℕ Global) AllocError) → n < length shares → (share : List Routed) × (share ≡ take size (drop (n * size) recipients)) × IfOk (get_or shares n d) (λ text. text.items ≡ paths_of (map sender_of share)))
    → map (λ (text : Vec ℕ Global). Ok text) texts ≡ shares → AreSharedPaths (map sender_of recipients) size texts
shared_paths_are recipients size shares texts some many given is = record {
  whole = subst (λ n. length (map sender_of recipients) ≤ n * size) (sym (long ∙ many)) (subst (λ n. n ≤ (length recipients / size + min 1 (length recipients % size)) * size) (sym (length-map recipients sender_of)) (enough (length recipients) size some));
  each = λ n text inside.
      let at = given n (Ok text) (omega (arith, inside, long)) in
      let here : get_or shares n (Ok text) ≡ Ok (get_or texts n text) = ap (λ (rs : List (Result (Vec ℕ Global) AllocError)). get_or rs n (Ok text)) (sym is) ∙ get_or-map (λ (t : Vec ℕ Global). Ok t) texts n text (Ok text) inside in
      IfOk-at_ok (λ (t : Vec ℕ Global). t.items ≡ paths_of (map sender_of at.0)) here at.2
      ∙ ap (λ (share : List Routed). paths_of (map sender_of share)) at.1
      ∙ ap paths_of (sym (ap (take size) (drop-map sender_of (n * size) recipients) ∙ take-map sender_of size (drop (n * size) recipients)));
} where
  long : length texts ≡ length shares
  long = sym (length-map texts (λ (text : Vec ℕ Global). Ok text)) ∙ ap length is

-- a share, by where it begins and how many it has
pub share_here : (senders : List Sender) (size n start count : ℕ) → start ≡ min (n * size) (length senders) → count ≡ min size (length senders - start) → drop start (take (start + count) senders) ≡ take size (drop (n * size) senders)
share_here senders size n start count reached counted = drop-take start count senders ∙ elim (cases_lt (n * size) (length senders)) [
  | inl inside ↦
      (let at : start ≡ n * size = omega (arith, reached, inside) in
      let rest : length (drop start senders) ≡ length senders - start = length-drop start senders in
      let same : take count (drop start senders) ≡ take size (drop start senders) = elim (cases_lt size (length senders - start)) [
        | inl short ↦ (let e : count ≡ size = omega (arith, counted, short) in ap (λ k. take k (drop start senders)) e)
        | inr all ↦ take_all count (drop start senders) (omega (arith, counted, rest, all)) ∙ sym (take_all size (drop start senders) (omega (arith, rest, all)))
      ] in
      same ∙ ap (λ k. take size (drop k senders)) at)
  | inr past ↦
      (let at : start ≡ length senders = omega (arith, reached, past) in
      let left : drop start senders ≡ drop (n * size) senders = drop_all start senders (omega arith) ∙ sym (drop_all (n * size) senders past) in
      let none : count ≡ 0 = omega (arith, counted, at) in
      take_all count (drop start senders) (omega (arith, length-drop start senders, at)) ∙ left ∙ sym (take_all size (drop (n * size) senders) (omega (arith, length-drop (n * size) senders, past))))
]
