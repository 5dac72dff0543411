-- The lines of scripts: none has an LF before its end, so each is found again in the text.
use Rattle.std.proofs.Common.{◌≡◌, ℕ, Bool, true, false, not, ◌&&◌, ◌||◌, ◌==◌, eqb, cond, List, [], ◌∷◌, ◌++◌, codes, flat_map, Option, Some, None, refl, sym, ap, subst, ◌∙◌, inl, inr, append_assoc, arith}
use Rattle.std.specs.Bool.{IsTrue}
use Rattle.std.specs.List.{list_all, list_any, slice_split, join_with_byte}
use Rattle.std.specs.Char.{to_ascii_lowercase, is_ascii_alphanumeric, is_ascii_graphic}
use Rattle.std.specs.Str.{bytes_eq}
use Rattle.std.proofs.lemmas.Bool.{cases_Bool, and_parts, and_from, not-true}
use Rattle.std.proofs.lemmas.Bool.Decides.{nat_tests}
use Rattle.std.proofs.lemmas.List.{append_cancel_left}
use Rattle.std.proofs.lemmas.List.Folds.{list_all-append}
use Rattle.std.proofs.lemmas.List.Splits.{join_with_byte-slice_split}
use Rattle.relay_text.specs.Bytes.{folded}
use Rattle.relay_text.specs.Lines.{raw_lines}
use Rattle.relay_text.specs.AddressParts.{AddressParts}
use Rattle.relay_text.specs.Addresses.{is_quotable, is_run_of, is_dot, is_dot_string, quoted_byte, local_text_of, path_text_of, is_domain_name, is_literal, inside, is_domain, is_address}
use Rattle.relay_text.proofs.Domains.{is_domain-cases, is_literal-content}
use Rattle.relay_text.proofs.Limits.{address_parts}
use Rattle.relay_text.proofs.Writing.{plain_text, quoted_text}
use Rattle.relay_wire.specs.declared.commands.Greeting.{Greeting}
use Rattle.relay_wire.specs.declared.commands.Greeting.TheVariants.{Ehlo, Lhlo}
use Rattle.relay_wire.specs.Script.{crlf, greeting_line, sender_line, recipient_line, data_line, is_hostname, is_sender}

pub folded_all : (xs : List ℕ) → list_all (λ b. eqb (to_ascii_lowercase b) b) xs ≡ bytes_eq (folded xs) xs
folded_all [] = refl
folded_all (x ∷ xs) = ap (λ t. eqb (to_ascii_lowercase x) x && t) (folded_all xs)

weaker : (p q : ℕ → Bool) → ((b : ℕ) → p b ≡ true → q b ≡ true) → (xs : List ℕ) → list_all p xs ≡ true → list_all q xs ≡ true
weaker p q w [] h = refl
weaker p q w (b ∷ bs) h =
    let parts : (p b ≡ true) × (list_all p bs ≡ true) = and_parts (p b) (list_all p bs) h in
    and_from (q b) (list_all q bs) (w b parts.0) (weaker p q w bs parts.1)

both : (p : ℕ → Bool) (xs ys : List ℕ) → list_all p xs ≡ true → list_all p ys ≡ true → list_all p (xs ++ ys) ≡ true
both p xs ys h k = list_all-append p xs ys ∙ and_from (list_all p xs) (list_all p ys) h k

-- A domain's bytes print.
run_prints : (p : ℕ → Bool) → ((b : ℕ) → p b ≡ true → is_quotable b ≡ true) → (run : List ℕ) → is_run_of p run ≡ true → list_all is_quotable run ≡ true
run_prints p w [] h = refl
run_prints p w (b ∷ bs) h = weaker p is_quotable w (b ∷ bs) h

runs_print : (p : ℕ → Bool) → ((b : ℕ) → p b ≡ true → is_quotable b ≡ true) → (runs : List (List ℕ)) → list_all (is_run_of p) runs ≡ true → list_all is_quotable (join_with_byte 46 runs) ≡ true
runs_print p w [] h = refl
runs_print p w (run ∷ []) h = run_prints p w run (and_parts (is_run_of p run) true h).0
runs_print p w (run ∷ next ∷ runs) h =
    let parts : (is_run_of p run ≡ true) × (list_all (is_run_of p) (next ∷ runs) ≡ true) = and_parts (is_run_of p run) (list_all (is_run_of p) (next ∷ runs)) h in
    both is_quotable run (46 ∷ join_with_byte 46 (next ∷ runs)) (run_prints p w run parts.0) (runs_print p w (next ∷ runs) parts.1)

abbrev is_label_byte : ℕ → Bool
is_label_byte b = is_ascii_alphanumeric b || (b == 45) || (b == 95)

label_prints : (b : ℕ) → is_label_byte b ≡ true → is_quotable b ≡ true
label_prints b h = grind (arith, nat_tests)

graphic_prints : (b : ℕ) → is_ascii_graphic b ≡ true → is_quotable b ≡ true
graphic_prints b h = grind (arith, nat_tests)

name_prints : (text : List ℕ) → is_domain_name text ≡ true → list_all is_quotable text ≡ true
name_prints text h = subst (λ (t : List ℕ). list_all is_quotable t ≡ true) (join_with_byte-slice_split 46 text) (runs_print is_label_byte label_prints (slice_split is_dot text) h)

abbrev is_literal_byte : ℕ → Bool
is_literal_byte b = is_ascii_graphic b && not (list_any (λ c. c == b) (codes "@[]\\"))

literal_prints : (text : List ℕ) → is_literal text ≡ true → list_all is_quotable text ≡ true
literal_prints text h =
    let parts = is_literal-content text h in
    let content : list_all is_quotable (inside text) ≡ true = run_prints is_literal_byte (λ b good. graphic_prints b (and_parts (is_ascii_graphic b) _ good).0) (inside text) parts.1 in
    rw parts.0 (both is_quotable (inside text) (93 ∷ []) content refl)

pub domain_prints : (text : List ℕ) → is_domain text ≡ true → list_all is_quotable text ≡ true
domain_prints text h = elim (is_domain-cases text h) [ inl e ↦ name_prints text e | inr e ↦ literal_prints text e ]

-- A path's bytes print.
quoted_prints : (local : List ℕ) → list_all is_quotable local ≡ true → list_all is_quotable (flat_map quoted_byte local) ≡ true
quoted_prints [] h = refl
quoted_prints (b ∷ bs) h =
    let parts : (is_quotable b ≡ true) × (list_all is_quotable bs ≡ true) = and_parts (is_quotable b) (list_all is_quotable bs) h in
    both is_quotable (quoted_byte b) (flat_map quoted_byte bs) (at ((b == 34) || (b == 92)) parts.0) (quoted_prints bs parts.1) where
      at : (t : Bool) → is_quotable b ≡ true → list_all is_quotable (cond t (92 ∷ b ∷ []) (b ∷ [])) ≡ true
      at true good = and_from (is_quotable b) true good refl
      at false good = and_from (is_quotable b) true good refl

local_prints : (local : List ℕ) → list_all is_quotable local ≡ true → list_all is_quotable (local_text_of local) ≡ true
local_prints local h = elim (cases_Bool (is_dot_string local)) [
  | inl e ↦ rw (plain_text local e) h
  | inr e ↦ rw (quoted_text local e) (both is_quotable (flat_map quoted_byte local) (34 ∷ []) (quoted_prints local h) refl)
]

pub path_prints : (path : Option AddressParts) → IsTrue (is_sender path) → list_all is_quotable (path_text_of path) ≡ true
path_prints None h = refl
path_prints (Some a) h =
    let parts = address_parts a h in
    let local : list_all is_quotable (local_text_of a.local) ≡ true = local_prints a.local parts.1 in
    let front : list_all is_quotable (local_text_of a.local ++ 64 ∷ []) ≡ true = both is_quotable (local_text_of a.local) (64 ∷ []) local refl in
    let middle : list_all is_quotable ((local_text_of a.local ++ 64 ∷ []) ++ a.domain) ≡ true = both is_quotable (local_text_of a.local ++ 64 ∷ []) a.domain front (domain_prints a.domain parts.2) in
    both is_quotable ((local_text_of a.local ++ 64 ∷ []) ++ a.domain) (62 ∷ []) middle refl

-- A line ends at its only LF.
abbrev is_inner : ℕ → Bool
is_inner b = not (b == 10)

pub record IsLine (line : List ℕ) : Type 0 where
  pub body : List ℕ
  pub is : line ≡ body ++ 10 ∷ []
  pub inner : list_all (λ b. not (b == 10)) body ≡ true

prints_inner : (b : ℕ) → is_quotable b ≡ true → is_inner b ≡ true
prints_inner b h = grind (arith, nat_tests)

pub ends_line : (text : List ℕ) → list_all is_quotable text ≡ true → IsLine (text ++ crlf)
ends_line text h = record {
  body = text ++ 13 ∷ [];
  is = sym (append_assoc text (13 ∷ []) (10 ∷ []));
  inner = both is_inner text (13 ∷ []) (weaker is_quotable is_inner prints_inner text h) refl;
}

pub greeting_is_line : (greeting : Greeting) (hostname : List ℕ) → IsTrue (is_hostname hostname) → IsLine (greeting_line greeting hostname)
greeting_is_line greeting hostname h = at greeting where
  prints : list_all is_quotable hostname ≡ true
  prints = domain_prints hostname (and_parts (is_domain hostname) _ (and_parts (is_domain hostname && bytes_eq (folded hostname) hostname) _ h).0).0

  at : (g : Greeting) → IsLine (greeting_line g hostname)
  at Ehlo = ends_line (codes "EHLO " ++ hostname) prints
  at Lhlo = ends_line (codes "LHLO " ++ hostname) prints

pub sender_is_line : (from : Option AddressParts) → IsTrue (is_sender from) → IsLine (sender_line from)
sender_is_line from h = ends_line (codes "MAIL FROM:" ++ path_text_of from) (path_prints from h)

pub recipient_is_line : (a : AddressParts) → IsTrue (is_address a) → IsLine (recipient_line a)
recipient_is_line a h = ends_line (codes "RCPT TO:" ++ path_text_of (Some a)) (path_prints (Some a) h)

pub data_is_line : IsLine data_line
data_is_line = ends_line (codes "DATA") refl

-- The first line of a text that begins with a line is that line.
raw_first : (body tail : List ℕ) → list_all is_inner body ≡ true → raw_lines (body ++ 10 ∷ tail) ≡ (body ++ 10 ∷ []) ∷ raw_lines tail
raw_first [] tail h = refl
raw_first (b ∷ bs) tail h =
    let parts : (is_inner b ≡ true) × (list_all is_inner bs ≡ true) = and_parts (is_inner b) (list_all is_inner bs) h in
    let other : (b == 10) ≡ false = not-true (b == 10) parts.0 in
    rw (other, raw_first bs tail parts.1) refl

pub raw_line : (line tail : List ℕ) → IsLine line → raw_lines (line ++ tail) ≡ line ∷ raw_lines tail
raw_line line tail whole =
    ap raw_lines (ap (λ l. l ++ tail) whole.is ∙ append_assoc whole.body (10 ∷ []) tail)
    ∙ raw_first whole.body tail whole.inner
    ∙ ap (λ l. l ∷ raw_lines tail) (sym whole.is)

pub first_line : (bytes line tail found rest : List ℕ) → IsLine line → raw_lines bytes ≡ found ∷ raw_lines rest → bytes ≡ found ++ rest → bytes ≡ line ++ tail → (found ≡ line) × (rest ≡ tail)
first_line bytes line tail found rest whole lines cut is =
    let at : bytes ≡ whole.body ++ 10 ∷ tail = is ∙ ap (λ l. l ++ tail) whole.is ∙ append_assoc whole.body (10 ∷ []) tail in
    let raw : raw_lines bytes ≡ (whole.body ++ 10 ∷ []) ∷ raw_lines tail = ap raw_lines at ∙ raw_first whole.body tail whole.inner in
    let heads : found ∷ raw_lines rest ≡ (whole.body ++ 10 ∷ []) ∷ raw_lines tail = sym lines ∙ raw in
    let same : found ≡ whole.body ++ 10 ∷ [] = cc in
    let first : found ≡ line = same ∙ sym whole.is in
    let both_cut : line ++ rest ≡ line ++ tail = ap (λ l. l ++ rest) (sym first) ∙ sym cut ∙ is in
    (first, append_cancel_left line rest tail both_cut)
