-- A nexthop as the plan writes it names the same host and port again.
use Rattle.std.proofs.Common.{◌≡◌, ℕ, suc, ◌+◌, Bool, true, false, not, cond, ◌&&◌, ◌||◌, ◌==◌, List, [], ◌∷◌, ◌++◌, length, take, drop, refl, sym, ap, ◌∙◌, arith, codes, eq-eqb}
use Rattle.std.specs.Prelude.{Option, Some, None, option_map}
use Rattle.std.specs.List.{list_any, position_or_len, before_first}
use Rattle.std.specs.Char.{is_ascii_alphanumeric, is_ascii_graphic, to_ascii_lowercase}
use Rattle.std.specs.Str.{bytes_eq}
use Rattle.std.proofs.lemmas.List.{length-map, drop-map, take-map, append_assoc}
use Rattle.std.proofs.lemmas.Bool.{and_parts, and_from}
use Rattle.std.proofs.lemmas.Bool.Decides.{nat_tests}
use Rattle.std.proofs.lemmas.Slice.Eq.{bytes_eq-Decides}
use Rattle.relay_text.specs.Bytes.{folded, begins_with_word, first_of}
use Rattle.relay_text.specs.Addresses.{is_run_of, is_domain_name, is_literal_content}
use Rattle.relay_routes.specs.declared.transport.Transport.{Transport}
use Rattle.relay_routes.specs.declared.transport.Transport.TheVariants.{Smtp, Relay, Lmtp}
use Rattle.relay_routes.specs.Transports.{is_colon}
use Rattle.relay_routes.specs.Nexthops.{Nexthop, nexthop_of, host_form, named_host, bracketed_host, unix_form, inet_form, is_port, written_as, without_lookup}
use Rattle.relay_text.proofs.Folds.{IsFoldable, same_folded, is_run_of-folded, folded-folded}
use Rattle.relay_routes.proofs.Folding.{list_any-folded, is_domain_name-folded, before_first-folded}

is_colon-folds : IsFoldable is_colon
is_colon-folds b l u = grind (arith, nat_tests)

abbrev pub is_close : ℕ → Bool
is_close b = b == 93

is_close-folds : IsFoldable is_close
is_close-folds b l u = grind (arith, nat_tests)

abbrev is_port_byte : ℕ → Bool
is_port_byte b = is_ascii_alphanumeric b || (b == 45)

is_port_byte-folds : IsFoldable is_port_byte
is_port_byte-folds b l u = grind (arith, nat_tests)

abbrev is_literal_byte : ℕ → Bool
is_literal_byte b = is_ascii_graphic b && not (list_any (λ c. c == b) (codes "@[]\\"))

is_literal_byte-folds : IsFoldable is_literal_byte
is_literal_byte-folds b l u = grind (arith, nat_tests)

is_graphic-folds : IsFoldable is_ascii_graphic
is_graphic-folds b l u = grind (arith, nat_tests)

is_port-folded : (text : List ℕ) → is_port (folded text) ≡ is_port text
is_port-folded [] = refl
is_port-folded (b ∷ bs) =
    ap (λ t. (t && true) && is_run_of is_port_byte (folded bs)) (same_folded is_colon is_colon-folds b)
    ∙ ap (λ t. (is_colon b && true) && t) (is_run_of-folded is_port_byte is_port_byte-folds bs)

-- a nexthop of these parts, where a test passes
abbrev pub nexthop_if : Bool → Bool → List ℕ → List ℕ → List ℕ → Option Nexthop
nexthop_if test looks_up text host port = cond test (Some (record { text = folded text; host = folded host; port = folded port; looks_up = looks_up })) None

nexthop_if-same : (looks_up test test' : Bool) (text host port : List ℕ) → test' ≡ test → nexthop_if test' looks_up (folded text) (folded host) (folded port) ≡ nexthop_if test looks_up text host port
nexthop_if-same looks_up test test' text host port h =
    let a : folded (folded text) ≡ folded text = folded-folded text in
    let b : folded (folded host) ≡ folded host = folded-folded host in
    let c : folded (folded port) ≡ folded port = folded-folded port in
    ap (λ t. nexthop_if t looks_up (folded text) (folded host) (folded port)) h
    ∙ ap (λ x. cond test (Some (record { text = x; host = folded (folded host); port = folded (folded port); looks_up = looks_up })) None) a
    ∙ ap (λ x. cond test (Some (record { text = folded text; host = x; port = folded (folded port); looks_up = looks_up })) None) b
    ∙ ap (λ x. cond test (Some (record { text = folded text; host = folded host; port = x; looks_up = looks_up })) None) c

named_host-folded : (text : List ℕ) → named_host (folded text) ≡ named_host text
named_host-folded text =
    let host = before_first is_colon text in
    let port = drop (length host) text in
    let host_is : before_first is_colon (folded text) ≡ folded host = before_first-folded is_colon is_colon-folds text in
    let port_is : drop (length (folded host)) (folded text) ≡ folded port = ap (λ n. drop n (folded text)) (length-map host to_ascii_lowercase) ∙ drop-map to_ascii_lowercase (length host) text in
    let test_is : (is_domain_name (folded host) && is_port (folded port)) ≡ (is_domain_name host && is_port port) = ap (λ t. t && is_port (folded port)) (is_domain_name-folded host) ∙ ap (λ t. is_domain_name host && t) (is_port-folded port) in
    ap (λ h. nexthop_if (is_domain_name h && is_port (drop (length h) (folded text))) true (folded text) h (drop (length h) (folded text))) host_is
    ∙ ap (λ p. nexthop_if (is_domain_name (folded host) && is_port p) true (folded text) (folded host) p) port_is
    ∙ nexthop_if-same true _ _ text host port test_is

-- a text up to its first `]`, that and the rest are the text where it has one
closed_at : (bs : List ℕ) → Bool
closed_at bs = list_any is_close bs

abbrev pub host_in : List ℕ → List ℕ
host_in bs = before_first is_close bs

eq-self : (bs : List ℕ) → bytes_eq bs bs ≡ true
eq-self bs = (bytes_eq-Decides bs bs).1 refl

closes : (bs : List ℕ) → bytes_eq bs (host_in bs ++ 93 ∷ drop (length (host_in bs) + 1) bs) ≡ list_any is_close bs
closes [] = refl
closes (b ∷ bs) = at (is_close b) refl (closes bs) where
  at : (t : Bool) → is_close b ≡ t → bytes_eq bs (host_in bs ++ 93 ∷ drop (length (host_in bs) + 1) bs) ≡ list_any is_close bs → (let host = take (cond (not t) (1 + position_or_len is_close bs) 0) (b ∷ bs) in bytes_eq (b ∷ bs) (host ++ 93 ∷ drop (length host + 1) (b ∷ bs)) ≡ (t || list_any is_close bs))
  at true e later = and_from (is_close b) (bytes_eq bs bs) e (eq-self bs)
  at false e later =
      let more : 1 + position_or_len is_close bs ≡ suc (position_or_len is_close bs) = omega arith in
      let next : suc (length (host_in bs)) + 1 ≡ suc (length (host_in bs) + 1) = omega arith in
      ap (λ n. bytes_eq (b ∷ bs) (take n (b ∷ bs) ++ 93 ∷ drop (length (take n (b ∷ bs)) + 1) (b ∷ bs))) more
      ∙ ap (λ n. bytes_eq (b ∷ bs) (b ∷ (host_in bs ++ 93 ∷ drop n (b ∷ bs)))) next
      ∙ ap (λ t. t && bytes_eq bs (host_in bs ++ 93 ∷ drop (length (host_in bs) + 1) bs)) (eq-eqb b b refl)
      ∙ later

abbrev pub brackets : List ℕ → List ℕ
brackets text = let host = host_in (drop 1 text) in codes "[" ++ host ++ codes "]" ++ drop (length host + 2) text

pub is_bracketed : (b : ℕ) (bs : List ℕ) → bytes_eq (b ∷ bs) (brackets (b ∷ bs)) ≡ ((b == 91) && list_any is_close bs)
is_bracketed b bs =
    let next : length (host_in bs) + 2 ≡ suc (length (host_in bs) + 1) = omega arith in
    ap (λ n. (b == 91) && bytes_eq bs ((host_in bs ++ 93 ∷ []) ++ drop n (b ∷ bs))) next
    ∙ ap (λ t. (b == 91) && bytes_eq bs t) (append_assoc (host_in bs) (93 ∷ []) (drop (length (host_in bs) + 1) bs))
    ∙ ap (λ t. (b == 91) && t) (closes bs)

abbrev is_open : ℕ → Bool
is_open b = b == 91

is_open-folded : (b : ℕ) → is_open (to_ascii_lowercase b) ≡ is_open b
is_open-folded b = same_folded is_open (λ c l u. grind (arith, nat_tests)) b

brackets-folded : (text : List ℕ) → bytes_eq (folded text) (brackets (folded text)) ≡ bytes_eq text (brackets text)
brackets-folded [] = refl
brackets-folded (b ∷ bs) =
    is_bracketed (to_ascii_lowercase b) (folded bs)
    ∙ ap (λ t. t && list_any is_close (folded bs)) (is_open-folded b)
    ∙ ap (λ t. (b == 91) && t) (list_any-folded is_close is_close-folds bs)
    ∙ sym (is_bracketed b bs)

bracketed_host-folded : (text : List ℕ) → bracketed_host (folded text) ≡ bracketed_host text
bracketed_host-folded text =
    let host = host_in (drop 1 text) in
    let port = drop (length host + 2) text in
    let host_is : host_in (drop 1 (folded text)) ≡ folded host = ap host_in (drop-map to_ascii_lowercase 1 text) ∙ before_first-folded is_close is_close-folds (drop 1 text) in
    let port_is : drop (length (folded host) + 2) (folded text) ≡ folded port = ap (λ n. drop (n + 2) (folded text)) (length-map host to_ascii_lowercase) ∙ drop-map to_ascii_lowercase (length host + 2) text in
    let whole = bytes_eq (folded text) (brackets (folded text)) in
    let test_is : (whole && is_literal_content (folded host) && is_port (folded port)) ≡ (bytes_eq text (brackets text) && is_literal_content host && is_port port) =
    ap (λ t. t && is_literal_content (folded host) && is_port (folded port)) (brackets-folded text)
    ∙ ap (λ t. bytes_eq text (brackets text) && t && is_port (folded port)) (is_run_of-folded is_literal_byte is_literal_byte-folds host)
    ∙ ap (λ t. bytes_eq text (brackets text) && is_literal_content host && t) (is_port-folded port) in
    ap (λ h. nexthop_if (whole && is_literal_content h && is_port (drop (length h + 2) (folded text))) false (folded text) h (drop (length h + 2) (folded text))) host_is
    ∙ ap (λ p. nexthop_if (whole && is_literal_content (folded host) && is_port p) false (folded text) (folded host) p) port_is
    ∙ nexthop_if-same false _ _ text host port test_is

host_form-folded : (text : List ℕ) → host_form (folded text) ≡ host_form text
host_form-folded text =
    ap (λ o. first_of (o ∷ bracketed_host (folded text) ∷ [])) (named_host-folded text)
    ∙ ap (λ o. first_of (named_host text ∷ o ∷ [])) (bracketed_host-folded text)

word-folded : (word text : List ℕ) → begins_with_word word (folded text) ≡ begins_with_word word text
word-folded word text = ap (λ t. bytes_eq (folded t) word) (take-map to_ascii_lowercase (length word) text) ∙ ap (λ t. bytes_eq t word) (folded-folded (take (length word) text))

inet_form-folded : (text : List ℕ) → inet_form (folded text) ≡ inet_form text
inet_form-folded text =
    ap (λ t. cond t (option_map (written_as (folded (folded text))) (host_form (drop 5 (folded text)))) None) (word-folded (codes "inet:") text)
    ∙ ap (λ t. cond (begins_with_word (codes "inet:") text) (option_map (written_as t) (host_form (drop 5 (folded text)))) None) (folded-folded text)
    ∙ ap (λ t. cond (begins_with_word (codes "inet:") text) (option_map (written_as (folded text)) (host_form t)) None) (drop-map to_ascii_lowercase 5 text)
    ∙ ap (λ o. cond (begins_with_word (codes "inet:") text) (option_map (written_as (folded text)) o) None) (host_form-folded (drop 5 text))

-- the text of a nexthop of these forms is the folded text
nexthop_if-text : (test looks_up : Bool) (text host port : List ℕ) (x : Nexthop) → nexthop_if test looks_up text host port ≡ Some x → x.text ≡ folded text
nexthop_if-text true looks_up text host port x e = cc
nexthop_if-text false looks_up text host port x e = cc

host_text : (text : List ℕ) (x : Nexthop) → host_form text ≡ Some x → x.text ≡ folded text
host_text text x e = at (named_host text) refl e where
  at : (o : Option Nexthop) → named_host text ≡ o → first_of (o ∷ bracketed_host text ∷ []) ≡ Some x → x.text ≡ folded text
  at (Some y) named h = nexthop_if-text _ true text _ _ x (named ∙ h)
  at None named h = under (bracketed_host text) refl h where
    under : (o : Option Nexthop) → bracketed_host text ≡ o → first_of (o ∷ []) ≡ Some x → x.text ≡ folded text
    under (Some y) bracketed i = nexthop_if-text _ false text _ _ x (bracketed ∙ i)
    under None bracketed i = cc

inet_text : (text : List ℕ) (x : Nexthop) → inet_form text ≡ Some x → x.text ≡ folded text
inet_text text x e = at (begins_with_word (codes "inet:") text) (host_form (drop 5 text)) e where
  at : (t : Bool) (o : Option Nexthop) → cond t (option_map (written_as (folded text)) o) None ≡ Some x → x.text ≡ folded text
  at true (Some y) h = let same : written_as (folded text) y ≡ x = cc in sym (ap (λ n. n.text) same)
  at true None h = cc
  at false o h = cc

-- the forms over LMTP, before look-ups are left out
abbrev is_unix : List ℕ → Bool
is_unix text = begins_with_word (codes "unix:") text && is_run_of is_ascii_graphic (drop 5 text)

is_unix-folded : (text : List ℕ) → is_unix (folded text) ≡ is_unix text
is_unix-folded text =
    ap (λ t. t && is_run_of is_ascii_graphic (drop 5 (folded text))) (word-folded (codes "unix:") text)
    ∙ ap (λ t. begins_with_word (codes "unix:") text && is_run_of is_ascii_graphic t) (drop-map to_ascii_lowercase 5 text)
    ∙ ap (λ t. begins_with_word (codes "unix:") text && t) (is_run_of-folded is_ascii_graphic is_graphic-folds (drop 5 text))

abbrev unix_if : Bool → List ℕ → Option Nexthop
unix_if test path = cond test (Some (record { text = path; host = path; port = []; looks_up = false })) None

abbrev any_form : List ℕ → Option Nexthop
any_form text = first_of (unix_form text ∷ inet_form text ∷ host_form text ∷ [])

same_some : (x y : Nexthop) → Some x ≡ Some y → x ≡ y
same_some x y e = cc

any_form-again : (text : List ℕ) (x : Nexthop) → any_form text ≡ Some x → any_form x.text ≡ Some x
any_form-again text x e = at (is_unix text) refl where
  rest : Option Nexthop
  rest = first_of (inet_form text ∷ host_form text ∷ [])

  at : (t : Bool) → is_unix text ≡ t → any_form x.text ≡ Some x
  at true unix =
      let run : is_run_of is_ascii_graphic (drop 5 text) ≡ true = (and_parts _ _ unix).1 in
      let path = codes "unix:" ++ drop 5 text in
      let first : any_form text ≡ Some (record { text = path; host = path; port = []; looks_up = false }) = ap (λ t. first_of (unix_if t path ∷ inet_form text ∷ host_form text ∷ [])) unix in
      let again : any_form path ≡ Some (record { text = path; host = path; port = []; looks_up = false }) = ap (λ t. first_of (unix_if t path ∷ inet_form path ∷ host_form path ∷ [])) run in
      let is : x ≡ record { text = path; host = path; port = []; looks_up = false } = same_some _ _ (sym e ∙ first) in
      ap (λ n. any_form n.text) is ∙ again ∙ ap (λ n. Some n) (sym is)
  at false unix =
      let folded_unix : is_unix (folded text) ≡ false = is_unix-folded text ∙ unix in
      let first : any_form text ≡ first_of (inet_form text ∷ host_form text ∷ []) = ap (λ t. first_of (unix_if t (codes "unix:" ++ drop 5 text) ∷ inet_form text ∷ host_form text ∷ [])) unix in
      let again : any_form (folded text) ≡ first_of (inet_form text ∷ host_form text ∷ []) =
      ap (λ t. first_of (unix_if t (codes "unix:" ++ drop 5 (folded text)) ∷ inet_form (folded text) ∷ host_form (folded text) ∷ [])) folded_unix
      ∙ ap (λ o. first_of (o ∷ host_form (folded text) ∷ [])) (inet_form-folded text)
      ∙ ap (λ o. first_of (inet_form text ∷ o ∷ [])) (host_form-folded text) in
      let written : x.text ≡ folded text = text_is (inet_form text) refl (sym first ∙ e) in
      ap any_form written ∙ again ∙ sym first ∙ e where
        text_is : (o : Option Nexthop) → inet_form text ≡ o → first_of (o ∷ host_form text ∷ []) ≡ Some x → x.text ≡ folded text
        text_is (Some y) inet h = inet_text text x (inet ∙ h)
        text_is None inet h = under (host_form text) refl h where
          under : (o : Option Nexthop) → host_form text ≡ o → first_of (o ∷ []) ≡ Some x → x.text ≡ folded text
          under (Some y) host i = host_text text x (host ∙ i)
          under None host i = cc

host_again : (text : List ℕ) (x : Nexthop) → host_form text ≡ Some x → host_form x.text ≡ Some x
host_again text x e = ap host_form (host_text text x e) ∙ host_form-folded text ∙ e

pub nexthop_again : (transport : Transport) (text : List ℕ) (x : Nexthop) → nexthop_of transport text ≡ Some x → nexthop_of transport x.text ≡ Some x
nexthop_again Smtp text x e = host_again text x e
nexthop_again Relay text x e = host_again text x e
nexthop_again Lmtp text x e = at (any_form text) refl e where
  at : (o : Option Nexthop) → any_form text ≡ o → option_map without_lookup o ≡ Some x → option_map without_lookup (any_form x.text) ≡ Some x
  at None form h = cc
  at (Some y) form h =
      let is : without_lookup y ≡ x = cc in
      let text_is : x.text ≡ y.text = sym (ap (λ n. n.text) is) in
      ap (λ t. option_map without_lookup (any_form t)) text_is ∙ ap (option_map without_lookup) (any_form-again text y form) ∙ h

-- what follows `inet:` where it names no host
pub inet_none : (text named : List ℕ) → Some named ≡ cond (begins_with_word (codes "inet:") text) (Some (drop 5 text)) None → None ≡ host_form named → None ≡ inet_form text
inet_none text named is none = at (begins_with_word (codes "inet:") text) is where
  at : (t : Bool) → Some named ≡ cond t (Some (drop 5 text)) None → None ≡ cond t (option_map (written_as (folded text)) (host_form (drop 5 text))) None
  at true h = let same : named ≡ drop 5 text = cc in ap (option_map (written_as (folded text))) (none ∙ ap host_form same)
  at false h = refl
