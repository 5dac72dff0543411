-- Addresses (RFC 5321 section 4.1.2: Local-part, Domain, address-literal, Path; section 4.5.3.1 for the limits).
use Rattle.std.specs.Prelude.{◌≡◌, ℕ, ◌-◌, Bool, true, false, not, ◌&&◌, ◌||◌, ◌==◌, nat_lt, nat_le, List, [], ◌∷◌, ◌++◌, length, take, drop, codes, flat_map, position, slice_range, if◌then◌else◌, Option, Some, None, option_map, option_and_then, unwrap_or, Result, Ok, Err, ⊤}
use Rattle.std.specs.List.{slice_split, list_all, list_any, before_first, after_first}
use Rattle.std.specs.Char.{is_ascii_alphanumeric, is_ascii_graphic}
use Rattle.std.specs.Int.{is_in_range}
use Rattle.std.specs.Str.{bytes_eq}
use Rattle.std.specs.Result.{result_map_both}
use Rattle.relay_text.specs.Bytes.{folded, begins_with, ends_with, has_text}
use Rattle.relay_text.specs.Quotes.{marks, bytes_of, is_quote, without_escapes}
use Rattle.relay_text.specs.AddressParts.{AddressParts}
use Rattle.relay_text.specs.declared.fault.TextFault.{TextFault}
use Rattle.relay_text.specs.declared.fault.TextFault.TheVariants.{Empty, BadByte, BadQuote, BadDomain, TooLong, Memory}

-- atext: letters, digits, and these
abbrev pub is_atext : ℕ → Bool
is_atext b = is_ascii_alphanumeric b || list_any (λ c. c == b) (codes "!#$%&'*+-/=?^_`{|}~")

abbrev pub is_dot : ℕ → Bool
is_dot b = b == 46

-- a space or a byte that prints, as stands between quotes
abbrev pub is_quotable : ℕ → Bool
is_quotable b = is_in_range 32 126 b

-- whether a list has an element and each of its elements passes the test
abbrev pub is_run_of : (ℕ → Bool) → List ℕ → Bool
is_run_of test [] = false
is_run_of test (b ∷ bs) = list_all test (b ∷ bs)

-- Dot-string: nonempty runs of atext joined by single dots
abbrev pub is_dot_string : List ℕ → Bool
is_dot_string text = list_all (is_run_of is_atext) (slice_split is_dot text)

-- The one canonical spelling of a local part: as it is where it's a Dot-string, else between quotes with `\` before `"` and `\`.
abbrev pub quoted_byte : ℕ → List ℕ
quoted_byte b = if (b == 34) || (b == 92) then (92 ∷ b ∷ []) else (b ∷ [])

unfoldable pub local_text_of : List ℕ → List ℕ
local_text_of local = if is_dot_string local then local else (34 ∷ flat_map quoted_byte local ++ 34 ∷ [])

-- The one canonical spelling of a path; that of no address is the null path `<>`.
abbrev pub path_text_of : Option AddressParts → List ℕ
path_text_of None = codes "<>"
path_text_of (Some a) = codes "<" ++ local_text_of a.local ++ codes "@" ++ a.domain ++ codes ">"

-- A domain name is labels joined by single dots, each a nonempty run of letters, digits, hyphens and underscores.
abbrev pub is_domain_name : List ℕ → Bool
is_domain_name text = list_all (is_run_of (λ b. is_ascii_alphanumeric b || (b == 45) || (b == 95))) (slice_split is_dot text)

-- What stands in an address literal: bytes that print, other than `@`, `[`, `]` and `\`.
abbrev pub is_literal_content : List ℕ → Bool
is_literal_content text = is_run_of (λ b. is_ascii_graphic b && not (list_any (λ c. c == b) (codes "@[]\\"))) text

-- a text without its first and its last byte
abbrev pub inside : List ℕ → List ℕ
inside text = slice_range text 1 (length text - 1)

-- An address literal is `[`, its content and `]`.
abbrev pub is_literal : List ℕ → Bool
is_literal text = bytes_eq text (codes "[" ++ inside text ++ codes "]") && is_literal_content (inside text)

unfoldable pub is_domain : List ℕ → Bool
is_domain text = is_domain_name text || is_literal text

-- The local part at the front of a text, as it stands, and the rest. A quoted one ends at the next unescaped `"`; where there
-- is none, all that follows the opening `"` is the local part. Another one ends at the first `@`.
pub record LocalCut : Type 0 where
  pub quoted : Bool
  pub closed : Bool
  pub raw : List ℕ
  pub rest : List ℕ

abbrev pub quoted_cut : List ℕ → LocalCut
quoted_cut text = record { quoted = true; closed = list_any is_quote (marks text); raw = bytes_of (before_first is_quote (marks text)); rest = bytes_of (after_first is_quote (marks text)) }

abbrev pub plain_cut : List ℕ → LocalCut
plain_cut text = record { quoted = false; closed = true; raw = before_first (λ b. b == 64) text; rest = drop (length (before_first (λ b. b == 64) text)) text }

abbrev pub local_cut : List ℕ → LocalCut
local_cut [] = plain_cut []
local_cut (b ∷ bs) = if b == 34 then quoted_cut bs else plain_cut (b ∷ bs)

-- the local part that a cut spells: between quotes, `\x` stands for `x`
abbrev pub local_of : LocalCut → List ℕ
local_of cut = if cut.quoted then without_escapes cut.raw else cut.raw

-- which bytes may stand in it
abbrev pub is_local_byte : LocalCut → ℕ → Bool
is_local_byte cut b = if cut.quoted then is_quotable b else (is_atext b || is_dot b)

-- what f makes of the value, where there is one
abbrev pub result_map : {A B E : Type 0} → (A → B) → Result A E → Result B E
result_map f r = result_map_both f (λ e. e) r

abbrev pub is_empty : {X : Type 0} → List X → Bool
is_empty [] = true
is_empty (x ∷ xs) = false

-- A check, and the fault that it finds where it is true. The first that is true decides.
abbrev pub Check : Type 0
Check = Bool × TextFault

abbrev pub checked : {A : Type 0} → List Check → A → Result A TextFault
checked [] a = Ok a
checked (check ∷ checks) a = if check.0 then Err check.1 else checked checks a

abbrev pub local_checks : LocalCut → List Check
local_checks cut =
    (is_empty cut.raw, Empty)
    ∷ (not (list_all (is_local_byte cut) cut.raw), BadByte)
    ∷ (not cut.closed || not (is_empty cut.rest || begins_with (codes "@") cut.rest), BadQuote)
    ∷ []

-- An address text before it has a domain: a local part, and the domain if it names one.
pub record Spelled : Type 0 where
  pub local : List ℕ
  pub domain : Option (List ℕ)

abbrev pub spelled_domain : List ℕ → Option (List ℕ)
spelled_domain [] = None
spelled_domain (at ∷ domain) = Some (folded domain)

abbrev pub spelled_of : List ℕ → Spelled
spelled_of text = record { local = local_of (local_cut text); domain = spelled_domain (local_cut text).rest }

-- A local part has at most 64 octets as written, a domain 255, a path with `<`, `@` and `>` 256.
abbrev pub is_local_too_long : List ℕ → Bool
is_local_too_long local = nat_lt 64 (length (local_text_of local))

abbrev pub is_domain_too_long : List ℕ → Option (List ℕ) → Bool
is_domain_too_long local None = false
is_domain_too_long local (Some domain) = nat_lt 255 (length domain) || nat_lt 256 (length (path_text_of (Some (record { local = local; domain = domain }))))

abbrev pub is_bad_domain : Option (List ℕ) → Bool
is_bad_domain None = false
is_bad_domain (Some domain) = not (is_domain domain)

-- What an address text spells, with or without a domain, or its first fault.
unfoldable pub spelling_of : List ℕ → Result Spelled TextFault
spelling_of text = let s = spelled_of text in
    checked (local_checks (local_cut text) ++ (is_bad_domain s.domain, BadDomain) ∷ (is_local_too_long s.local || is_domain_too_long s.local s.domain, TooLong) ∷ []) s

-- Without a domain it is at the origin.
abbrev pub at_origin : List ℕ → Spelled → AddressParts
at_origin origin s = record { local = s.local; domain = unwrap_or s.domain origin }

abbrev pub address_of : List ℕ → List ℕ → Result AddressParts TextFault
address_of origin text = result_map (at_origin origin) (spelling_of text)

-- A path is `<`, an address text and `>`, or the null path.
abbrev pub path_inside : List ℕ → List ℕ → Result (Option AddressParts) TextFault
path_inside origin [] = Ok None
path_inside origin (b ∷ bs) = result_map (λ a. Some a) (address_of origin (b ∷ bs))

unfoldable pub path_of : List ℕ → List ℕ → Result (Option AddressParts) TextFault
path_of origin text =
    if is_empty text then Err Empty
    else (if not (bytes_eq text (codes "<" ++ inside text ++ codes ">")) then Err BadByte else path_inside origin (inside text))

-- The local part that an entry's name spells: no domain stands in it.
unfoldable pub name_of : List ℕ → Result (List ℕ) TextFault
name_of text = let local = local_of (local_cut text) in
    checked (local_checks (local_cut text) ++ (not (is_empty (local_cut text).rest), BadDomain) ∷ (is_local_too_long local, TooLong) ∷ []) local

-- What each address keeps: its path is within its limits, and reads back as the address.
unfoldable pub is_address : AddressParts → Bool
is_address a =
    not (is_empty a.local) && list_all is_quotable a.local && is_domain a.domain && bytes_eq (folded a.domain) a.domain
    && not (is_local_too_long a.local) && not (is_domain_too_long a.local (Some a.domain))

-- What an origin is: a folded domain of at most 189 octets, so that each local part within its limit has a path within its own.
unfoldable pub is_origin : List ℕ → Bool
is_origin domain = is_domain domain && bytes_eq (folded domain) domain && nat_le (length domain) 189

-- The names that the delimiter doesn't split: postmaster, mailer-daemon and double-bounce, and with the delimiter `-` those
-- that begin with `owner-` or end with `-request` (local(8), "address extension"; which names is this profile's choice).
abbrev pub is_unsplit : ℕ → List ℕ → Bool
is_unsplit delimiter local =
    has_text (codes "postmaster" ∷ codes "mailer-daemon" ∷ codes "double-bounce" ∷ []) (folded local)
    || ((delimiter == 45) && (begins_with (codes "owner-") (folded local) || ends_with (codes "-request") (folded local)))

-- the place of the leftmost delimiter, unless it's the first byte
abbrev pub leftmost_inside : ℕ → List ℕ → Option ℕ
leftmost_inside delimiter local = option_and_then (λ place. if place == 0 then None else Some place) (position (λ b. b == delimiter) local)

-- Where a local part is split into a base and an extension (local(8), recipient_delimiter).
unfoldable pub split_place_of : List ℕ → Option ℕ → Option ℕ
split_place_of local None = None
split_place_of local (Some delimiter) = if is_unsplit delimiter local then None else leftmost_inside delimiter local

abbrev pub base_of : List ℕ → Option ℕ → Option (List ℕ)
base_of local delimiter = option_map (λ place. take place local) (split_place_of local delimiter)

-- What a call answers is what the definition gives, unless memory ran out.
abbrev pub Fails : {A : Type 0} → TextFault → Result A TextFault → Type 0
Fails Memory given = ⊤
Fails fault given = given ≡ Err fault

abbrev pub Answers : {A : Type 0} → Result A TextFault → Result A TextFault → Type 0
Answers (Ok a) given = given ≡ Ok a
Answers (Err fault) given = Fails fault given
