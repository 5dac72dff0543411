-- Lemmas on rows that ends cut out of one list.
use Rattle.std.proofs.Common.{◌≡◌, ℕ, ◌≤◌, List, [], length, ap}
use Rattle.std.specs.Prelude.{unwrap_or}
use Rattle.std.proofs.lemmas.Option.{slice_get_past}
use Rattle.relay_chains.proofs.Texts.{length-texts}
use Rattle.relay_tables.specs.Adjacency.{lists_of, row_of}

pub length-lists : (numbers ends : List ℕ) → length (lists_of numbers ends) ≡ length ends
length-lists numbers ends = length-texts numbers 0 ends

-- there is nothing past the last row
pub row-past : (rows : List (List ℕ)) (n : ℕ) → length rows ≤ n → row_of rows n ≡ []
row-past rows n past = ap (λ o. unwrap_or o []) (slice_get_past rows n past)
