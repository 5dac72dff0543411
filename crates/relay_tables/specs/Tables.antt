-- What is true of every `Tables`.
use Rattle.std.specs.Prelude.{◌≡◌, ℕ, ◌⊎◌, ◌<◌, ◌-◌, ◌^◌, Bool, List, [], ◌++◌, codes, length, map, position, Option, None, All, IsTrue}
use Rattle.std.specs.List.{list_all}
use Rattle.std.specs.Str.{bytes_eq}
use Rattle.relay_text.specs.Bytes.{has_text}
use Rattle.relay_text.specs.Addresses.{is_origin}
use Rattle.relay_aliasfile.specs.declared.entry.Entry.{Entry}
use Rattle.relay_tables.specs.Parts.{is_good_entry, is_good_include}
use Rattle.relay_tables.specs.Directory.{Directory}
use Rattle.relay_chains.specs.TextHash.{text_hash}
use Rattle.relay_tables.specs.Marks.{AreMarks}
use Rattle.relay_tables.specs.Indices.{name_hash, path_hash}

-- the origin is one, names and bare items are local parts, and the lists are short enough to be numbered by 32 bits
pub record IsLawful (d : Directory) : Type 0 where
  pub origin : IsTrue (is_origin d.local.origin)
  pub entries : IsTrue (list_all is_good_entry d.aliases)
  pub items : IsTrue (list_all is_good_include d.includes)
  pub few_entries : length d.aliases < 2 ^ 32 - 2
  pub few_includes : length d.includes < 2 ^ 32 - 2

-- the hashes of what is named, in the order of the lists
pub record AreIndices (d : Directory) (key : ℕ) (domains : List (List ℕ)) (aliases includes mailboxes : List ℕ) : Type 0 where
  pub domain : (text : List ℕ) → has_text domains text ≡ has_text d.local.domains text
  pub alias : aliases ≡ map (name_hash key) d.aliases
  pub include : includes ≡ map (path_hash key) d.includes
  pub mailbox : mailboxes ≡ map (text_hash key) d.mailboxes

-- the owner of an entry, if it has one
abbrev pub owner_place : List Entry → Entry → Option ℕ
owner_place entries e = position (λ (o : Entry). bytes_eq (codes "owner-" ++ e.name) o.name) entries

-- the owner of each entry, in order, or nothing where none has one
abbrev pub AreOwners : List Entry → List (Option ℕ) → Type 0
AreOwners entries found = (found ≡ map (owner_place entries) entries) ⊎ ((found ≡ []) × All (λ e. owner_place entries e ≡ None) entries)

pub record AreTables (d : Directory) (key : ℕ) (domains : List (List ℕ)) (marks : List Bool) (aliases includes mailboxes : List ℕ) (found : List (Option ℕ)) : Type 0 where
  pub lawful : IsLawful d
  pub marked : AreMarks d.local marks
  pub indices : AreIndices d key domains aliases includes mailboxes
  pub owners : AreOwners d.aliases found
