-- Statements behind others.
use Rattle.std.proofs.Common.{◌<◌, slice_get, ◌++◌, ◌≡◌, ℕ, List, [], ◌∷◌, length, refl, sym, ap, ◌∙◌, inl, inr, Some, append_assoc, codes}
use Rattle.std.specs.List.{concat}
use Rattle.std.proofs.lemmas.List.{append-nil}
use Rattle.std.proofs.lemmas.List.Folds.{concat-append}
use Rattle.std.proofs.lemmas.List.Elements.{All-nil, All-push}
use Rattle.relay_tables.specs.Directory.{Directory}
use Rattle.relay_tables.specs.GraphParts.{GraphParts}
use Rattle.relay_text.specs.AddressParts.{AddressParts}
use Rattle.relay_tables.specs.declared.node.Node.TheVariants.{Remote}
use Rattle.relay_expansion.specs.declared.row.Row.{Row}
use Rattle.relay_expansion.specs.Rows.{IsRow}
use Rattle.relay_expansion.specs.Dots.{bundle_statement, edge_text, is_open, node_statement, IsBundleStatement, IsDotFront, IsEdgeStatement, IsNodeStatement, IsStatement}

abbrev head : List ℕ
head = codes "digraph expansion {" ++ 10 ∷ []

joined : (statements : List (List ℕ)) (statement : List ℕ) → concat statements ++ statement ≡ concat (statements ++ statement ∷ [])
joined statements statement = ap (λ (t : List ℕ). concat statements ++ t) (sym (append-nil statement)) ∙ sym (concat-append statements (statement ∷ []))

module _ (d : Directory) (g : GraphParts) where
  pub front_more : (text statement text' : List ℕ) → IsDotFront d g text → IsStatement d g statement → text' ≡ text ++ statement → IsDotFront d g text'
  front_more text statement text' front is e = record {
    statements = front.statements ++ statement ∷ [];
    told = All-push (IsStatement d g) front.statements statement front.told is;
    is = e ∙ ap (λ (t : List ℕ). t ++ statement) front.is ∙ append_assoc head (concat front.statements) statement ∙ ap (λ (t : List ℕ). head ++ t) (joined front.statements statement);
  }

  pub node_more : (text text' : List ℕ) (n : ℕ) → IsDotFront d g text → n < length g.nodes → text' ≡ text ++ node_statement d g n → IsDotFront d g text'
  node_more text text' n front within e =
      let is : IsNodeStatement d g (node_statement d g n) = record { node = n; within = within; is = refl } in
      front_more text (node_statement d g n) text' front (inl is) e

  pub edge_more : (text text' : List ℕ) (row : Row) (entry : ℕ) → IsDotFront d g text → IsRow g row → row.parent ≡ Some entry → text' ≡ text ++ edge_text entry 110 row.node (is_open row.standing) → IsDotFront d g text'
  edge_more text text' row entry front told from e =
      let is : IsEdgeStatement d g (edge_text entry 110 row.node (is_open row.standing)) = record { row = row; told = told; entry = entry; from = from; is = refl } in
      front_more text (edge_text entry 110 row.node (is_open row.standing)) text' front (inr (inl is)) e

  pub bundle_more : (text text' : List ℕ) (row : Row) (entry number members : ℕ) (a : AddressParts) → IsDotFront d g text → IsRow g row → row.parent ≡ Some entry → slice_get g.nodes row.node ≡ Some (Remote a) → text' ≡ text ++ bundle_statement entry number members a.domain → IsDotFront d g text'
  bundle_more text text' row entry number members a front told from at e =
      let is : IsBundleStatement d g (bundle_statement entry number members a.domain) = record { row = row; told = told; entry = entry; from = from; address = a; at = at; number = number; members = members; is = refl } in
      front_more text (bundle_statement entry number members a.domain) text' front (inr (inr is)) e

  pub no_statements : (text : List ℕ) → text ≡ head → IsDotFront d g text
  no_statements text e = record { statements = []; told = All-nil (IsStatement d g); is = e ∙ sym (append-nil head) }
