-- Bytes that are written over the front of a row, and what then stands there.
use Rattle.std.proofs.Common.{◌≡◌, ℕ, ◌+◌, ◌<◌, ◌≤◌, List, ◌∷◌, ◌++◌, length, take, drop, get_or, sym, ap, ◌∙◌, arith}
use Rattle.std.proofs.Math.ListN.{set}
use Rattle.std.specs.Char.{to_ascii_lowercase}
use Rattle.std.proofs.lemmas.List.{append_assoc, map-append, length-append, length-take, length-map, take_at, drop_at, drop_more, set_at}
use Rattle.relay_text.specs.Bytes.{folded}
use borrow.Rule.Slice.PartMut.{put_mid, post_of}

-- two pieces that were written one behind the other
pub two_pieces : (front more written written_more room rest : List ℕ) (n f : ℕ) → written ≡ front → written_more ≡ more → f ≡ length front → n ≡ f + length more
    → take n (take f (written ++ room) ++ (written_more ++ rest)) ≡ front ++ more
two_pieces front more written written_more room rest n f is is_more len all =
    let first : take f (written ++ room) ≡ written = take_at written room f (ap length is ∙ sym len) in
    ap (λ (text : List ℕ). take n (text ++ (written_more ++ rest))) first
    ∙ ap (take n) (sym (append_assoc written written_more rest))
    ∙ take_at (written ++ written_more) rest n (omega (arith, length-append written written_more, ap length is, ap length is_more, len, all))
    ∙ cc

-- a piece that was written over the front of a row, and a byte behind it
piece_and_byte : (front written row : List ℕ) (byte f : ℕ) → written ≡ front → f ≡ length front → f < length row
    → set (written ++ drop f row) f byte ≡ front ++ byte ∷ drop (f + 1) row
piece_and_byte front written row byte f is len within =
    ap (λ (t : List ℕ). set (written ++ t) f byte) (drop_more row f 0 within)
    ∙ set_at written (get_or row f 0) (drop (f + 1) row) byte f (ap length is ∙ sym len)
    ∙ ap (λ (t : List ℕ). t ++ byte ∷ drop (f + 1) row) is

-- two pieces that were written with a byte between them, where the row is folded before the first piece and the byte are written over its front
pub folded_pieces : (front back written written_back row row_folded : List ℕ) (byte f k : ℕ) → written ≡ front → written_back ≡ back
    → row_folded ≡ folded (put_mid (f + 1) k row written_back) → f ≡ length front → length front + length back + 1 ≤ length row
    → take (length front + length back + 1) (set (written ++ drop f row_folded) f byte) ≡ front ++ byte ∷ folded back
folded_pieces front back written written_back row row_folded byte f k is is_back is_folded len few =
    let n : ℕ = length front + length back + 1 in
    let before : List ℕ = take (f + 1) row in
    let rest : List ℕ = post_of (f + 1) k row in
    let before_len : length (folded before) ≡ f + 1 = length-map before to_ascii_lowercase ∙ omega (arith, length-take (f + 1) row) in
    let whole : row_folded ≡ folded before ++ folded (written_back ++ rest) = is_folded ∙ map-append to_ascii_lowercase before (written_back ++ rest) in
    let within : f < length row_folded = omega (arith, ap length whole, length-append (folded before) (folded (written_back ++ rest)), before_len) in
    let behind : drop (f + 1) row_folded ≡ folded back ++ folded rest =
    ap (drop (f + 1)) whole ∙ drop_at (folded before) (folded (written_back ++ rest)) (f + 1) before_len
    ∙ map-append to_ascii_lowercase written_back rest ∙ ap (λ (t : List ℕ). folded t ++ folded rest) is_back in
    ap (take n) (piece_and_byte front written row_folded byte f is len within)
    ∙ ap (λ (t : List ℕ). take n (front ++ byte ∷ t)) behind
    ∙ ap (take n) (sym (append_assoc front (byte ∷ folded back) (folded rest)))
    ∙ take_at (front ++ byte ∷ folded back) (folded rest) n (omega (arith, length-append front (byte ∷ folded back), length-map back to_ascii_lowercase))
