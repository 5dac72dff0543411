-- What a node is, in the words of findings.
use Rattle.std.specs.Prelude.{ℕ, List, [], ◌++◌, codes, None, Some, option_map, unwrap_or, slice_get}
use Rattle.relay_text.specs.Addresses.{local_text_of, path_text_of}
use Rattle.relay_tables.specs.Directory.{Directory}
use Rattle.relay_tables.specs.declared.node.Node.{Node}
use Rattle.relay_tables.specs.declared.node.Node.TheVariants.{Alias, Include, Mailbox, Remote, Missing, NoInclude, Command, File}
use Rattle.relay_tables.specs.Senders.{Sender}

module _ (d : Directory) where
  abbrev pub alias_name : ℕ → List ℕ
  alias_name n = unwrap_or (option_map (λ entry. entry.name) (slice_get d.aliases n)) []

  abbrev pub include_path : ℕ → List ℕ
  include_path n = unwrap_or (option_map (λ entry. entry.path) (slice_get d.includes n)) []

  abbrev pub node_words : Node → List ℕ
  node_words (Alias n) = codes "alias " ++ local_text_of (alias_name n)
  node_words (Include n) = codes "include " ++ include_path n
  node_words (Mailbox a) = path_text_of (Some a)
  node_words (Remote a) = path_text_of (Some a)
  node_words (Missing name) = codes "missing " ++ local_text_of name
  node_words (NoInclude path) = codes "noinclude " ++ path
  node_words (Command text) = codes "command " ++ text
  node_words (File path) = codes "file " ++ path

-- words and an address behind them, where there is one
abbrev pub owner_words : List ℕ → Sender → List ℕ
owner_words words None = []
owner_words words (Some a) = words ++ path_text_of (Some a)
