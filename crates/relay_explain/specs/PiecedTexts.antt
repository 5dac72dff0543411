-- Texts in pieces.
use Rattle.std.specs.Prelude.{ℕ, List, ◌++◌, flat_map}
use Rattle.relay_explain.specs.declared.pieced_text.PiecedText.{PiecedText}

-- pieces, one behind the other
abbrev pub text_of : List (List ℕ) → List ℕ
text_of pieces = flat_map (λ (p : List ℕ). p) pieces

-- what is whole, and what is written behind it
abbrev pub text_so_far : PiecedText → List ℕ
text_so_far p = text_of p.whole.items ++ p.written.items
