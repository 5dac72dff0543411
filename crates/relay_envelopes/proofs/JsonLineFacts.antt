-- Objects on lines, put member by member.
use Rattle.std.proofs.Common.{◌≡◌, ℕ, List, [], ◌∷◌, ◌++◌, ap, append_assoc, sym, ◌∙◌, codes}
use Rattle.relay_wire.specs.Json.{json_object, with_commas}
use Rattle.relay_wire.specs.PlanText.{line}
use Rattle.relay_wire.proofs.JsonPieces.{member_behind, object_line}

pub pair_is : (out a p b q : List ℕ) → (((out ++ 123 ∷ a) ++ p) ++ 44 ∷ b) ++ q ≡ out ++ 123 ∷ with_commas ((a ++ p) ∷ (b ++ q) ∷ [])
pair_is out a p b q = rw (append_assoc out (123 ∷ a) p) (member_behind out (a ++ p) [] b q)

pub line_end_is : (out a p : List ℕ) → ((out ++ 44 ∷ a) ++ p) ++ codes "}\n" ≡ out ++ (44 ∷ (a ++ p) ++ codes "}\n")
line_end_is out a p = rw (append_assoc out (44 ∷ a) p) (append_assoc out (44 ∷ (a ++ p)) (codes "}\n"))

-- one more member and the end, put at once
pub last_member : (out a b m : List ℕ) → (out ++ 123 ∷ with_commas (a ∷ b ∷ [])) ++ (44 ∷ m ++ codes "}\n") ≡ out ++ line (json_object (a ∷ b ∷ m ∷ []))
last_member out a b m =
    let front : List ℕ = out ++ 123 ∷ with_commas (a ∷ b ∷ []) in
    sym (append_assoc front (44 ∷ m) (codes "}\n"))
    ∙ ap (λ (l : List ℕ). l ++ codes "}\n") (sym (append_assoc front (44 ∷ []) m) ∙ member_behind out a (b ∷ []) [] m)
    ∙ object_line out a (b ∷ m ∷ [])

-- a member, and behind it others that are put at once
pub one_before : (out a p more : List ℕ) → ((((out ++ 123 ∷ a) ++ p) ++ 44 ∷ []) ++ more) ++ codes "}\n" ≡ out ++ line (json_object ((a ++ p) ∷ more ∷ []))
one_before out a p more = rw (append_assoc out (123 ∷ a) p, member_behind out (a ++ p) [] [] more) (object_line out (a ++ p) (more ∷ []))

pub one_member : (out a p : List ℕ) → ((out ++ 123 ∷ a) ++ p) ++ codes "}\n" ≡ out ++ line (json_object ((a ++ p) ∷ []))
one_member out a p = rw (append_assoc out (123 ∷ a) p) (object_line out (a ++ p) [])

pub four_members : (out a p b q c r d s : List ℕ)
    → ((((((((out ++ 123 ∷ a) ++ p) ++ 44 ∷ b) ++ q) ++ 44 ∷ c) ++ r) ++ 44 ∷ d) ++ s) ++ 125 ∷ []
    ≡ out ++ json_object ((a ++ p) ∷ (b ++ q) ∷ (c ++ r) ∷ (d ++ s) ∷ [])
four_members out a p b q c r d s =
    rw (append_assoc out (123 ∷ a) p, member_behind out (a ++ p) [] b q, member_behind out (a ++ p) ((b ++ q) ∷ []) c r, member_behind out (a ++ p) ((b ++ q) ∷ (c ++ r) ∷ []) d s)
    (append_assoc out (123 ∷ with_commas ((a ++ p) ∷ (b ++ q) ∷ (c ++ r) ∷ (d ++ s) ∷ [])) (125 ∷ []))
