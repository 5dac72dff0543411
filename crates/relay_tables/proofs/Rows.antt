-- Worked examples of the definitions, by computation.
use Rattle.std.proofs.Common.{◌≡◌, ◌++◌, ℕ, Bool, true, false, List, [], ◌∷◌, refl, codes, Some, None, length}
use Rattle.relay_text.specs.AddressParts.{AddressParts}
use Rattle.relay_text.specs.Addresses.{name_of, spelling_of, is_domain, local_text_of, split_place_of}
use Rattle.relay_text.specs.Lines.{logical_lines_of}
use Rattle.relay_aliasfile.specs.Items.{item_of}
use Rattle.relay_aliasfile.specs.AliasFiles.{heading_of, alias_file_of}
use Rattle.relay_tables.specs.declared.node.Node.TheVariants.{Alias, Mailbox, Remote, Missing}
use Rattle.relay_tables.specs.Directory.{Directory}
use Rattle.relay_tables.specs.Targets.{resolved, targets_of, recipient_target}
use Rattle.relay_tables.specs.Senders.{sender_past}
use Rattle.relay_tables.specs.Graphs.{nodes_of, owner_count}

abbrev pub at : List ℕ → List ℕ → AddressParts
at local domain = record { local = local; domain = domain }

abbrev pub org : List ℕ → AddressParts
org local = at local (codes "example.org")

abbrev pub net : List ℕ → AddressParts
net local = at local (codes "example.net")

abbrev pub directory : ℕ → Bool → List ℕ → List (List ℕ) → Directory
directory delimiter expand aliases mailboxes = record {
  local = record { origin = codes "example.org"; domains = codes "example.org" ∷ codes "localhost" ∷ []; delimiter = Some delimiter; expand = expand };
  aliases = (alias_file_of aliases).entries;
  includes = [];
  mailboxes = mailboxes;
}

abbrev pub joe : List (List ℕ)
joe = codes "joe" ∷ []

-- An entry that lists its own name means the mailbox.
own_listing : targets_of (directory 43 false (codes "joe: joe, joe@example.net\n") joe) (Alias 0) ≡ Mailbox (org (codes "joe")) ∷ Remote (net (codes "joe")) ∷ []
unfolding alias_file_of heading_of item_of logical_lines_of name_of spelling_of is_domain local_text_of split_place_of resolved
own_listing = refl

own_listing_missing : targets_of (directory 43 false (codes "joe: joe\n") []) (Alias 0) ≡ Missing (codes "joe") ∷ []
unfolding alias_file_of heading_of item_of logical_lines_of name_of spelling_of is_domain local_text_of split_place_of resolved
own_listing_missing = refl

own_listing_extended : targets_of (directory 43 false (codes "joe: joe+x\n") joe) (Alias 0) ≡ Mailbox (org (codes "joe+x")) ∷ []
unfolding alias_file_of heading_of item_of logical_lines_of name_of spelling_of is_domain local_text_of split_place_of resolved
own_listing_extended = refl

base_of_own_name : targets_of (directory 43 false (codes "joe: kim@example.net\njoe+x: joe+x\n") joe) (Alias 1) ≡ Alias 0 ∷ []
unfolding alias_file_of heading_of item_of logical_lines_of name_of spelling_of is_domain local_text_of split_place_of resolved
base_of_own_name = refl

extension_of_alias : recipient_target (directory 43 false (codes "kim: lee\n") (codes "lee" ∷ [])) (org (codes "kim+news")) ≡ Alias 0
unfolding alias_file_of heading_of item_of logical_lines_of name_of spelling_of is_domain local_text_of split_place_of resolved
extension_of_alias = refl

extension_of_mailbox : recipient_target (directory 43 false (codes "kim: lee\n") (codes "lee" ∷ [])) (org (codes "lee+a")) ≡ Mailbox (org (codes "lee+a"))
unfolding alias_file_of heading_of item_of logical_lines_of name_of spelling_of is_domain local_text_of split_place_of resolved
extension_of_mailbox = refl

abbrev pub dashed : Directory
dashed = directory 45 false [] (codes "owner" ∷ codes "x" ∷ codes "mailer" ∷ codes "-x" ∷ [])

unsplit_owner : recipient_target dashed (org (codes "owner-x")) ≡ Missing (codes "owner-x")
unfolding alias_file_of heading_of item_of logical_lines_of name_of spelling_of is_domain local_text_of split_place_of resolved
unsplit_owner = refl

unsplit_daemon : recipient_target dashed (org (codes "mailer-daemon")) ≡ Missing (codes "mailer-daemon")
unfolding alias_file_of heading_of item_of logical_lines_of name_of spelling_of is_domain local_text_of split_place_of resolved
unsplit_daemon = refl

split_mailbox : recipient_target dashed (org (codes "x-y")) ≡ Mailbox (org (codes "x-y"))
unfolding alias_file_of heading_of item_of logical_lines_of name_of spelling_of is_domain local_text_of split_place_of resolved
split_mailbox = refl

folded_local : recipient_target (directory 43 false [] joe) (at (codes "JOE") (codes "localhost")) ≡ Mailbox (org (codes "joe"))
unfolding alias_file_of heading_of item_of logical_lines_of name_of spelling_of is_domain local_text_of split_place_of resolved
folded_local = refl

-- Nested lists of which the inner one has an owner: six nodes and one owner.
abbrev pub nested : Bool → List ℕ → Directory
nested expand owner = directory 43 expand (codes "outer: inner, kim@example.net\ninner: kim@example.net, lee@example.net\nowner-inner: " ++ owner) joe

six_nodes : length (nodes_of (nested false (codes "joe")) (org (codes "outer") ∷ [])) ≡ 6
unfolding alias_file_of heading_of item_of logical_lines_of name_of spelling_of is_domain local_text_of split_place_of resolved
six_nodes = refl

one_owner : owner_count (nested false (codes "joe")) ≡ 1
unfolding alias_file_of heading_of item_of logical_lines_of name_of spelling_of is_domain local_text_of split_place_of resolved
one_owner = refl

owner_sender : sender_past (nested false (codes "joe")) (Some (at (codes "a") (codes "example.com"))) (Alias 1) ≡ Some (org (codes "owner-inner"))
unfolding alias_file_of heading_of item_of logical_lines_of name_of spelling_of is_domain local_text_of split_place_of resolved
owner_sender = refl

expanded_bare : sender_past (nested true (codes "joe")) None (Alias 1) ≡ Some (org (codes "joe"))
unfolding alias_file_of heading_of item_of logical_lines_of name_of spelling_of is_domain local_text_of split_place_of resolved
expanded_bare = refl

expanded_full : sender_past (nested true (codes "Kim@EXAMPLE.net")) None (Alias 1) ≡ Some (net (codes "Kim"))
unfolding alias_file_of heading_of item_of logical_lines_of name_of spelling_of is_domain local_text_of split_place_of resolved
expanded_full = refl

expanded_two : sender_past (nested true (codes "joe, kim@example.net")) None (Alias 1) ≡ Some (org (codes "owner-inner"))
unfolding alias_file_of heading_of item_of logical_lines_of name_of spelling_of is_domain local_text_of split_place_of resolved
expanded_two = refl

expanded_command : sender_past (nested true (codes "|prog")) None (Alias 1) ≡ Some (org (codes "owner-inner"))
unfolding alias_file_of heading_of item_of logical_lines_of name_of spelling_of is_domain local_text_of split_place_of resolved
expanded_command = refl

no_owner : sender_past (nested true (codes "joe")) None (Alias 0) ≡ None
unfolding alias_file_of heading_of item_of logical_lines_of name_of spelling_of is_domain local_text_of split_place_of resolved
no_owner = refl
