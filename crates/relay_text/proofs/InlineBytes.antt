-- Bytes in memory of their own, a part of them folded.
use Rattle.std.proofs.Common.{◌≡◌, ℕ, ◌+◌, List, [], ◌∷◌, ◌++◌, length, take, drop, sym, ap, ◌∙◌}
use Rattle.std.proofs.lemmas.List.{append_assoc, length-append, take_at, drop_at}
use Rattle.relay_text.specs.Bytes.{folded}

-- two pieces with a byte between them, folded behind the byte
pub folded_behind : (front back row now : List ℕ) (byte : ℕ) → row ≡ front ++ byte ∷ back → now ≡ take (length front + 1) row ++ folded (drop (length front + 1) row) → now ≡ front ++ byte ∷ folded back
folded_behind front back row now byte is is_now =
    let text : List ℕ = front ++ byte ∷ [] in
    let len : length (front ++ byte ∷ []) ≡ length front + 1 = length-append front (byte ∷ []) in
    let whole : row ≡ text ++ back = is ∙ sym (append_assoc front (byte ∷ []) back) in
    is_now
    ∙ ap (λ (t : List ℕ). take (length front + 1) t ++ folded (drop (length front + 1) t)) whole
    ∙ ap (λ (t : List ℕ). t ++ folded (drop (length front + 1) (text ++ back))) (take_at text back (length front + 1) len)
    ∙ ap (λ (t : List ℕ). text ++ folded t) (drop_at text back (length front + 1) len)
    ∙ append_assoc front (byte ∷ []) (folded back)
