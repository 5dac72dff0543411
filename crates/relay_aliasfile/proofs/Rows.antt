-- Worked examples of the definitions, by computation.
use Rattle.std.proofs.Common.{◌≡◌, ◌++◌, [], ◌∷◌, refl, codes}
use Rattle.relay_text.specs.Lines.{logical_lines_of}
use Rattle.relay_text.specs.Addresses.{name_of, spelling_of, is_domain, local_text_of}
use Rattle.relay_aliasfile.specs.Items.{item_of, good_items}
use Rattle.relay_aliasfile.specs.AliasFiles.{heading_of, alias_file_of}
use Rattle.relay_aliasfile.specs.IncludeFiles.{include_file_of}
use Rattle.relay_aliasfile.specs.MailboxFiles.{fault}
use Rattle.relay_aliasfile.specs.declared.item.Item.TheVariants.{Bare, Full, Include, Command}
use Rattle.relay_aliasfile.specs.declared.fault.FaultKind.TheVariants.{BadLine, BadItem, Duplicate, Empty}

-- An entry that is quoted, an item with a comma inside quotes, and a command on the line that continues it.
quoted_entry : alias_file_of (codes "\"a b\": \"x, y\"@example.net,\n# note\n  |prog -x\n") ≡ record {
  entries = record { name = codes "a b"; line = 1; items = Full (record { local = codes "x, y"; domain = codes "example.net" }) ∷ Command (codes "|prog -x") ∷ [] } ∷ [];
  faults = [];
}
unfolding alias_file_of heading_of item_of logical_lines_of name_of spelling_of is_domain local_text_of
quoted_entry = refl

-- An orphan, a bad name, an empty list, a duplicate, and a bad item beside a good one.
faulty_file : alias_file_of (codes "  x\na b: joe\nc:\nc: joe\nd: joe, \"q, kim\n") ≡ record {
  entries = record { name = codes "c"; line = 3; items = [] } ∷ record { name = codes "d"; line = 5; items = Bare (codes "joe") ∷ [] } ∷ [];
  faults = fault 1 BadLine ∷ fault 2 BadLine ∷ fault 3 Empty ∷ fault 4 Duplicate ∷ fault 5 BadItem ∷ [];
}
unfolding alias_file_of heading_of item_of logical_lines_of name_of spelling_of is_domain local_text_of
faulty_file = refl

named_address : good_items (codes ":include:/l, Joe <joe@example.org>") ≡ Include (codes "/l") ∷ Full (record { local = codes "joe"; domain = codes "example.org" }) ∷ []
unfolding item_of spelling_of is_domain local_text_of
named_address = refl

include_file : include_file_of (codes "# members\n\"a b\", kim\n\"q\n") ≡ record { items = Bare (codes "a b") ∷ Bare (codes "kim") ∷ []; faults = fault 3 BadItem ∷ [] }
unfolding include_file_of item_of spelling_of is_domain local_text_of
include_file = refl

high_byte : alias_file_of (codes "x: " ++ 200 ∷ 10 ∷ codes "y: ,,,,") ≡ record {
  entries = record { name = codes "x"; line = 1; items = [] } ∷ record { name = codes "y"; line = 2; items = [] } ∷ [];
  faults = fault 1 BadItem ∷ fault 2 Empty ∷ [];
}
unfolding alias_file_of heading_of item_of logical_lines_of name_of spelling_of is_domain local_text_of
high_byte = refl
