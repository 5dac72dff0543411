-- Worked examples of the definitions, by computation.
use Rattle.std.proofs.Common.{◌≡◌, ◌++◌, ℕ, List, [], ◌∷◌, refl, codes, Some, None, Ok, Err, replicate}
use Rattle.relay_text.specs.AddressParts.{AddressParts}
use Rattle.relay_text.specs.Addresses.{address_of, spelling_of, path_of, path_text_of, local_text_of, is_domain, name_of, split_place_of}
use Rattle.relay_text.specs.Lines.{logical_lines_of}
use Rattle.relay_text.specs.declared.fault.TextFault.TheVariants.{Empty, BadByte, BadQuote, BadDomain, TooLong}

abbrev pub org : List ℕ
org = codes "example.org"

abbrev pub at : List ℕ → List ℕ → AddressParts
at local domain = record { local = local; domain = domain }

bare : address_of org (codes "joe") ≡ Ok (at (codes "joe") org)
unfolding spelling_of path_of name_of local_text_of is_domain split_place_of logical_lines_of
bare = refl

quoted : address_of org (codes "\"a\\\"b\"@X.net") ≡ Ok (at (codes "a\"b") (codes "x.net"))
unfolding spelling_of path_of name_of local_text_of is_domain split_place_of logical_lines_of
quoted = refl

quoted_text : path_text_of (Some (at (codes "a\"b") (codes "x.net"))) ≡ codes "<\"a\\\"b\"@x.net>"
unfolding spelling_of path_of name_of local_text_of is_domain split_place_of logical_lines_of
quoted_text = refl

dots : address_of org (codes "a..b@x") ≡ Ok (at (codes "a..b") (codes "x"))
unfolding spelling_of path_of name_of local_text_of is_domain split_place_of logical_lines_of
dots = refl

dots_text : path_text_of (Some (at (codes "a..b") (codes "x"))) ≡ codes "<\"a..b\"@x>"
unfolding spelling_of path_of name_of local_text_of is_domain split_place_of logical_lines_of
dots_text = refl

empty_quotes : address_of org (codes "\"\"@x") ≡ Err Empty
unfolding spelling_of path_of name_of local_text_of is_domain split_place_of logical_lines_of
empty_quotes = refl

space : address_of org (codes "a b@x") ≡ Err BadByte
unfolding spelling_of path_of name_of local_text_of is_domain split_place_of logical_lines_of
space = refl

open_quote : address_of org (codes "\"a@x") ≡ Err BadQuote
unfolding spelling_of path_of name_of local_text_of is_domain split_place_of logical_lines_of
open_quote = refl

no_domain : address_of org (codes "a@") ≡ Err BadDomain
unfolding spelling_of path_of name_of local_text_of is_domain split_place_of logical_lines_of
no_domain = refl

longest : address_of org (replicate 60 97 ++ codes "..@x") ≡ Ok (at (replicate 60 97 ++ codes "..") (codes "x"))
unfolding spelling_of path_of name_of local_text_of is_domain split_place_of logical_lines_of
longest = refl

too_long : address_of org (replicate 61 97 ++ codes "..@x") ≡ Err TooLong
unfolding spelling_of path_of name_of local_text_of is_domain split_place_of logical_lines_of
too_long = refl

null_path : path_of org (codes "<>") ≡ Ok None
unfolding spelling_of path_of name_of local_text_of is_domain split_place_of logical_lines_of
null_path = refl

postmaster : path_of org (codes "<Postmaster>") ≡ Ok (Some (at (codes "Postmaster") org))
unfolding spelling_of path_of name_of local_text_of is_domain split_place_of logical_lines_of
postmaster = refl

-- The comment is no line, and the command on the line after it continues the entry.
continued : logical_lines_of (codes "\"a b\": \"x, y\"@example.net,\n# note\n  |prog -x\n")
    ≡ record { lines = record { number = 1; text = codes "\"a b\": \"x, y\"@example.net,  |prog -x" } ∷ []; orphans = [] }
unfolding spelling_of path_of name_of local_text_of is_domain split_place_of logical_lines_of
continued = refl

orphaned : logical_lines_of (codes "  x\r\na b: joe\nc:\n") ≡ record { lines = record { number = 2; text = codes "a b: joe" } ∷ record { number = 3; text = codes "c:" } ∷ []; orphans = 1 ∷ [] }
unfolding spelling_of path_of name_of local_text_of is_domain split_place_of logical_lines_of
orphaned = refl

name_with_domain : name_of (codes "a@b") ≡ Err BadDomain
unfolding spelling_of path_of name_of local_text_of is_domain split_place_of logical_lines_of
name_with_domain = refl

split_news : split_place_of (codes "kim+news") (Some 43) ≡ Some 3
unfolding spelling_of path_of name_of local_text_of is_domain split_place_of logical_lines_of
split_news = refl

unsplit_owner : split_place_of (codes "owner-x") (Some 45) ≡ None
unfolding spelling_of path_of name_of local_text_of is_domain split_place_of logical_lines_of
unsplit_owner = refl

unsplit_request : split_place_of (codes "x-Request") (Some 45) ≡ None
unfolding spelling_of path_of name_of local_text_of is_domain split_place_of logical_lines_of
unsplit_request = refl

unsplit_first : split_place_of (codes "-x-y") (Some 45) ≡ None
unfolding spelling_of path_of name_of local_text_of is_domain split_place_of logical_lines_of
unsplit_first = refl

split_dash : split_place_of (codes "x-y") (Some 45) ≡ Some 1
unfolding spelling_of path_of name_of local_text_of is_domain split_place_of logical_lines_of
split_dash = refl
