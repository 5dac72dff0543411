-- A host in brackets where its text is cut at the first `]`.
use Rattle.std.proofs.Common.{◌≡◌, ℕ, suc, ◌+◌, ◌-◌, ◌≤◌, Bool, true, false, ◌&&◌, ◌==◌, List, [], ◌∷◌, length, take, drop, get_or, sym, ap, ◌∙◌, arith, eq-eqb}
use Rattle.std.specs.Prelude.{Option, Some, None}
use Rattle.std.specs.List.{list_any, position_or_len, before_first}
use Rattle.std.specs.Str.{bytes_eq}
use Rattle.std.proofs.lemmas.List.{take_all}
use Rattle.std.proofs.lemmas.Bool.{and_from}
use Rattle.relay_text.specs.Bytes.{folded}
use Rattle.relay_text.specs.Addresses.{is_literal_content}
use Rattle.relay_routes.specs.Nexthops.{Nexthop, bracketed_host, is_port}
use Rattle.relay_routes.proofs.Readings.{any_left, left_over, length-before_first}
use Rattle.relay_routes.proofs.NexthopFacts.{is_close, brackets, is_bracketed, nexthop_if}

abbrev read : Bool → List ℕ → List ℕ → List ℕ → Option Nexthop
read whole text host port = nexthop_if (whole && is_literal_content host && is_port port) false text host port

opened : (b : ℕ) (bs : List ℕ) → b ≡ 91 → (let left = drop (position_or_len is_close bs) bs in 1 ≤ length left → read true (b ∷ bs) (before_first is_close bs) (take (length left - 1) (drop 1 left)) ≡ bracketed_host (b ∷ bs))
opened b bs first h =
    let host = before_first is_close bs in
    let whole : bytes_eq (b ∷ bs) (brackets (b ∷ bs)) ≡ true = is_bracketed b bs ∙ and_from (b == 91) (list_any is_close bs) (eq-eqb b 91 first) (any_left is_close bs h) in
    let place : suc (position_or_len is_close bs + 1) ≡ length host + 2 = omega (arith, length-before_first is_close bs) in
    let port : drop (position_or_len is_close bs + 1) bs ≡ drop (length host + 2) (b ∷ bs) = ap (λ n. drop n (b ∷ bs)) place in
    ap (λ t. read true (b ∷ bs) host t) (left_over is_close bs ∙ port)
    ∙ sym (ap (λ t. read t (b ∷ bs) host (drop (length host + 2) (b ∷ bs))) whole)

pub bracketed_is : (text inner host left : List ℕ) (place : ℕ) → 1 ≤ length text → get_or text 0 0 ≡ 91 → inner ≡ take (length text - 1) (drop 1 text) → place ≡ position_or_len is_close inner → host ≡ take place inner → left ≡ drop place inner → 1 ≤ length left
    → (let port = take (length left - 1) (drop 1 left) in nexthop_if (is_literal_content host && is_port port) false text host port ≡ bracketed_host text)
bracketed_is [] inner host left place long first part at front back h = absurd (omega arith)
bracketed_is (b ∷ bs) inner host left place long first part at front back h =
    let inner_is : inner ≡ bs = part ∙ take_all _ bs (omega arith) in
    let place_is : place ≡ position_or_len is_close bs = at ∙ ap (λ t. position_or_len is_close t) inner_is in
    let host_is : host ≡ before_first is_close bs = front ∙ ap (λ t. take place t) inner_is ∙ ap (λ n. take n bs) place_is in
    let left_is : left ≡ drop (position_or_len is_close bs) bs = back ∙ ap (λ t. drop place t) inner_is ∙ ap (λ n. drop n bs) place_is in
    let more : 1 ≤ length (drop (position_or_len is_close bs) bs) = rw (← left_is) h in
    ap (λ t. read true (b ∷ bs) t (take (length left - 1) (drop 1 left))) host_is
    ∙ ap (λ left. read true (b ∷ bs) (before_first is_close bs) (take (length left - 1) (drop 1 left))) left_is
    ∙ opened b bs first more

pub bracketed_found : (text host port : List ℕ) (given : Option Nexthop) → nexthop_if (is_literal_content host && is_port port) false text host port ≡ given → is_literal_content host ≡ true → is_port port ≡ true
    → Some (record { text = folded text; host = folded host; port = folded port; looks_up = false }) ≡ given
bracketed_found text host port given e content named = sym (ap (λ t. nexthop_if t false text host port) (and_from _ _ content named)) ∙ e

pub bracketed_bad_content : (text host port : List ℕ) (given : Option Nexthop) → nexthop_if (is_literal_content host && is_port port) false text host port ≡ given → is_literal_content host ≡ false → None ≡ given
bracketed_bad_content text host port given e content = sym (ap (λ t. nexthop_if (t && is_port port) false text host port) content) ∙ e

pub bracketed_bad_port : (text host port : List ℕ) (given : Option Nexthop) → nexthop_if (is_literal_content host && is_port port) false text host port ≡ given → is_literal_content host ≡ true → is_port port ≡ false → None ≡ given
bracketed_bad_port text host port given e content named = sym (ap (λ t. nexthop_if (t && is_port port) false text host port) content ∙ ap (λ t. nexthop_if t false text host port) named) ∙ e
