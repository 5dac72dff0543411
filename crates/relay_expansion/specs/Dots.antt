-- The statements of a graph for Graphviz.
use Rattle.std.specs.Prelude.{ℕ, ◌≡◌, ◌<◌, ◌+◌, ◌/◌, ◌%◌, ◌==◌, ◌||◌, ◌⊎◌, nat_lt, Bool, true, false, List, [], ◌∷◌, ◌++◌, length, flat_map, All, codes, decimal, None, Some, option_map, unwrap_or, slice_get, if◌then◌else◌}
use Rattle.std.specs.List.{concat}
use Rattle.relay_text.specs.AddressParts.{AddressParts}
use Rattle.relay_tables.specs.Directory.{Directory}
use Rattle.relay_tables.specs.GraphParts.{GraphParts}
use Rattle.relay_tables.specs.Senders.{Sender}
use Rattle.relay_tables.specs.declared.node.Node.{Node}
use Rattle.relay_tables.specs.declared.node.Node.TheVariants.{Alias, Include, Mailbox, Remote, Missing, NoInclude, Command, File}
use Rattle.relay_expansion.specs.declared.row.Row.{Row}
use Rattle.relay_expansion.specs.declared.row.Standing.{Standing}
use Rattle.relay_expansion.specs.declared.row.Standing.TheVariants.{First, Open, Told}
use Rattle.relay_expansion.specs.NodeWords.{owner_words}
use Rattle.relay_expansion.specs.Rows.{IsRow}
use Rattle.relay_expansion.specs.Trees.{sender_at, words_at}

-- a byte by its number, in three octal_text digits
abbrev pub octal_text : ℕ → List ℕ
octal_text b = 92 ∷ 92 ∷ (48 + b / 64) ∷ (48 + b / 8 % 8) ∷ (48 + b % 8) ∷ []

-- what stands in a label for a byte: of printable ASCII itself, but for what Graphviz would read
unfoldable pub label_byte : ℕ → List ℕ
label_byte b =
    if (b == 34) || (b == 92) then (92 ∷ b ∷ [])
    else if b == 38 then codes "&amp;"
    else if nat_lt b 32 || nat_lt 126 b then octal_text b
    else (b ∷ [])

abbrev pub label_text : List ℕ → List ℕ
label_text text = flat_map label_byte text

abbrev pub dot_name : ℕ → ℕ → List ℕ
dot_name letter number = letter ∷ decimal number

abbrev pub look_words : Node → List ℕ
look_words (Alias n) = codes "shape=box"
look_words (Include n) = codes "shape=note"
look_words (Mailbox a) = codes "shape=ellipse"
look_words (Remote a) = codes "shape=ellipse"
look_words (Missing text) = codes "shape=box, style=dashed, color=red"
look_words (NoInclude path) = codes "shape=note, style=dashed, color=red"
look_words (Command text) = codes "shape=plaintext"
look_words (File path) = codes "shape=plaintext"

abbrev pub loop_words : Bool → List ℕ
loop_words true = codes " [color=red]"
loop_words false = []

unfoldable pub edge_text : ℕ → ℕ → ℕ → Bool → List ℕ
edge_text from letter to is_loop = codes "  " ++ dot_name 110 from ++ codes " -> " ++ dot_name letter to ++ loop_words is_loop ++ codes ";" ++ 10 ∷ []

-- the sender that a node gives, on a line of its own
abbrev pub owner_line : Sender → List ℕ
owner_line None = []
owner_line (Some a) = codes "\\n" ++ label_text (owner_words (codes "owner ") (Some a))

abbrev pub is_open : Standing → Bool
is_open First = false
is_open Open = true
is_open Told = false

-- so many members at a domain as one node
unfoldable pub bundle_node : ℕ → ℕ → List ℕ → List ℕ
bundle_node number members domain = codes "  " ++ dot_name 98 number ++ codes " [shape=ellipse, label=" ++ 34 ∷ decimal members ++ codes " at " ++ label_text domain ++ 34 ∷ codes "];" ++ 10 ∷ []

-- that, and the edge to it
abbrev pub bundle_statement : ℕ → ℕ → ℕ → List ℕ → List ℕ
bundle_statement entry number members domain = bundle_node number members domain ++ edge_text entry 98 number false

module _ (d : Directory) (g : GraphParts) where
  abbrev pub look_at : ℕ → List ℕ
  look_at n = unwrap_or (option_map look_words (slice_get g.nodes n)) []

  abbrev pub node_label : ℕ → List ℕ
  node_label n = label_text (words_at d g n) ++ owner_line (sender_at g n)

  unfoldable pub node_statement : ℕ → List ℕ
  node_statement n = codes "  " ++ dot_name 110 n ++ codes " [" ++ look_at n ++ codes ", label=" ++ 34 ∷ node_label n ++ 34 ∷ codes "];" ++ 10 ∷ []

  -- a node of the graph
  pub record IsNodeStatement (text : List ℕ) : Type 0 where
    pub node : ℕ
    pub within : node < length g.nodes
    pub is : text ≡ node_statement node

  -- an edge of the graph, red where the entry was open
  pub record IsEdgeStatement (text : List ℕ) : Type 0 where
    pub row : Row
    pub told : IsRow g row
    pub entry : ℕ
    pub from : row.parent ≡ Some entry
    pub is : text ≡ edge_text entry 110 row.node (is_open row.standing)

  -- an edge of the graph to a remote address, which stands for some of its domain
  pub record IsBundleStatement (text : List ℕ) : Type 0 where
    pub row : Row
    pub told : IsRow g row
    pub entry : ℕ
    pub from : row.parent ≡ Some entry
    pub address : AddressParts
    pub at : slice_get g.nodes row.node ≡ Some (Remote address)
    pub number : ℕ
    pub members : ℕ
    pub is : text ≡ bundle_statement entry number members address.domain

  abbrev pub IsStatement : List ℕ → Type 0
  IsStatement text = IsNodeStatement text ⊎ (IsEdgeStatement text ⊎ IsBundleStatement text)

  -- the head of a graph, and statements behind it
  pub record IsDotFront (text : List ℕ) : Type 0 where
    pub statements : List (List ℕ)
    pub told : All IsStatement statements
    pub is : text ≡ codes "digraph expansion {" ++ 10 ∷ [] ++ concat statements

  pub record IsDotText (text : List ℕ) : Type 0 where
    pub front : List ℕ
    pub told : IsDotFront front
    pub is : text ≡ front ++ codes "}" ++ 10 ∷ []
