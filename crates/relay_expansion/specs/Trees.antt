-- The lines of a tree.
use Rattle.std.specs.Prelude.{ℕ, ◌*◌, ◌≡◌, nat_le, List, [], ◌∷◌, ◌++◌, take, flat_map, codes, decimal, None, option_map, unwrap_or, slice_get, if◌then◌else◌}
use Rattle.relay_tables.specs.Directory.{Directory}
use Rattle.relay_tables.specs.GraphParts.{GraphParts}
use Rattle.relay_tables.specs.Graphs.{sender_number_after}
use Rattle.relay_tables.specs.Senders.{Sender}
use Rattle.relay_expansion.specs.declared.row.Row.{Row}
use Rattle.relay_expansion.specs.declared.row.Standing.{Standing}
use Rattle.relay_expansion.specs.declared.row.Standing.TheVariants.{First, Open, Told}
use Rattle.relay_expansion.specs.declared.tree.TheConstants.{BLANKS, LEVELS}
use Rattle.relay_expansion.specs.NodeWords.{node_words, owner_words}
use Rattle.relay_expansion.specs.Rows.{AreRowsOf}

-- the level of what lies in more than forty, behind their blanks
abbrev pub level_words : ℕ → List ℕ
level_words depth = BLANKS ++ decimal depth ++ codes ": "

-- two blanks for each of forty levels
abbrev pub indent : ℕ → List ℕ
indent depth = if nat_le depth LEVELS then take (2 * depth) BLANKS else level_words depth

-- the sender behind a node that the null sender's message comes to
abbrev pub sender_at : GraphParts → ℕ → Sender
sender_at g n = unwrap_or (slice_get g.senders (sender_number_after g 0 n)) None

abbrev pub standing_words : GraphParts → ℕ → Standing → List ℕ
standing_words g n First = owner_words (codes ", owner ") (sender_at g n)
standing_words g n Open = codes " (loop)"
standing_words g n Told = codes " (see above)"

module _ (d : Directory) (g : GraphParts) where
  abbrev pub words_at : ℕ → List ℕ
  words_at n = unwrap_or (option_map (node_words d) (slice_get g.nodes n)) []

  unfoldable pub tree_line : Row → List ℕ
  tree_line row = indent row.depth ++ words_at row.node ++ standing_words g row.node row.standing ++ 10 ∷ []

  -- a line for each row
  pub record IsTreeText (text : List ℕ) : Type 0 where
    pub rows : List Row
    pub all : AreRowsOf g rows
    pub is : text ≡ flat_map tree_line rows
