-- Headings of envelopes.
use Rattle.std.proofs.Common.{◌≡◌, ◌==◌, ℕ, false, List, [], ◌∷◌, length, refl}
use Rattle.std.specs.List.{list_all}
use Rattle.relay_envelopes.specs.Headings.{is_id_byte, is_id}

pub is_id_some : (id : List ℕ) → (length id == 0) ≡ false → is_id id ≡ list_all is_id_byte id
is_id_some [] h = cc
is_id_some (x ∷ xs) h = refl
