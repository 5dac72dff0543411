-- What stands in the lines of a script: read or refused.
use Rattle.std.proofs.Common.{◌≡◌, ◌≢◌, ℕ, ◌+◌, ◌-◌, true, false, ◌&&◌, ◌==◌, eqb, not, List, [], ◌∷◌, ◌++◌, codes, map, length, take, drop, Option, Some, None, Result, Ok, Bor, refl, sym, ap, subst, ◌∙◌, append_assoc, arith}
use Rattle.std.specs.Bool.{IsTrue}
use Rattle.std.specs.List.{concat, list_all}
use Rattle.std.specs.Option.{MatchOption, IfSome, IfNone}
use Rattle.std.specs.Str.{bytes_eq}
use Rattle.std.proofs.lemmas.Bool.{and_parts, and_from, both_ways, not-true, eqb-true}
use Rattle.std.proofs.lemmas.Bool.Decides.{Decides-eqb}
use Rattle.std.proofs.lemmas.List.{append_cancel_left, append_cancel_right, append-nil, length-append, take-append-drop}
use Rattle.std.proofs.Math.Seq.{take-append_seam, drop-append_seam}
use Rattle.std.proofs.lemmas.Slice.Eq.{bytes_eq-Decides}
use Rattle.relay_text.specs.Lines.{raw_lines}
use Rattle.relay_text.specs.AddressParts.{AddressParts}
use Rattle.relay_text.specs.Addresses.{path_of, path_text_of, is_address, Fails}
use Rattle.relay_text.specs.declared.fault.TextFault.{TextFault}
use Rattle.relay_text.specs.declared.fault.TextFault.TheVariants.{Empty, BadByte, BadQuote, BadDomain, TooLong, Memory}
use Rattle.relay_text.proofs.Paths.{path_reads_back, same_address}
use Rattle.relay_wire.specs.declared.commands.Greeting.{Greeting}
use Rattle.relay_wire.specs.declared.commands.Greeting.TheVariants.{Ehlo, Lhlo}
use Rattle.relay_wire.specs.declared.commands.Script.{Script}
use Rattle.relay_wire.specs.Script.{is_script, script_text, crlf, greeting_line, sender_line, recipient_line, data_line, recipient_lines, is_hostname, is_sender, HasRecipients}
use Rattle.relay_wire.proofs.Lines.{IsLine, raw_line, first_line, greeting_is_line, sender_is_line, recipient_is_line, data_is_line}

-- A text begins, or doesn't, with a word; it ends, or doesn't, with one.
front_is : (word line rest : List ℕ) → bytes_eq (take (length word) line) word ≡ true → rest ≡ drop (length word) line → line ≡ word ++ rest
front_is word line rest h e =
    let front : take (length word) line ≡ word = (bytes_eq-Decides _ _).0 h in
    rw e (sym (take-append-drop (length word) line) ∙ ap (λ l. l ++ drop (length word) line) front)

pub front_isnt : (word line text : List ℕ) → bytes_eq (take (length word) line) word ≡ false → line ≡ word ++ text → ⊥
front_isnt word line text h e =
    both_ways (bytes_eq (take (length word) line) word) h ((bytes_eq-Decides _ _).1 (ap (take (length word)) e ∙ take-append_seam word text))

abbrev back_at : List ℕ → ℕ
back_at line = length line - 2

end_is : (line text : List ℕ) → bytes_eq (drop (back_at line) line) crlf ≡ true → text ≡ take (back_at line) line → line ≡ text ++ crlf
end_is line text h e =
    let back : drop (back_at line) line ≡ crlf = (bytes_eq-Decides _ _).0 h in
    rw e (sym (take-append-drop (back_at line) line) ∙ ap (λ l. take (back_at line) line ++ l) back)

end_isnt : (line text : List ℕ) → bytes_eq (drop (back_at line) line) crlf ≡ false → line ≡ text ++ crlf → ⊥
end_isnt line text h e =
    let long : length line ≡ length text + 2 = ap length e ∙ length-append text crlf in
    let place : length line - 2 ≡ length text = omega arith in
    let back : drop (length text) (text ++ crlf) ≡ crlf = drop-append_seam text crlf in
    let at : drop (back_at line) line ≡ crlf = rw (place, e) back in
    both_ways (bytes_eq (drop (back_at line) line) crlf) h ((bytes_eq-Decides _ _).1 at)

-- what a word and an end are stripped to
pub stripped_some : (word line behind : List ℕ) (r : Option (Bor (List ℕ))) → bytes_eq (take (length word) line) word ≡ true → behind ≡ drop (length word) line
    → MatchOption r (bytes_eq (drop (back_at behind) behind) crlf ≡ false) (λ x. (bytes_eq (drop (back_at behind) behind) crlf ≡ true) × (x.now ≡ take (back_at behind) behind) × (length x.now + 2 ≡ length behind))
    → IfSome r (λ text. line ≡ word ++ (text.now ++ crlf))
stripped_some word line behind None h e found = tt
stripped_some word line behind (Some text) h e found = front_is word line behind h e ∙ ap (λ l. word ++ l) (end_is behind text.now found.0 found.1)

pub stripped_none : (word line behind : List ℕ) (r : Option (Bor (List ℕ))) → bytes_eq (take (length word) line) word ≡ true → behind ≡ drop (length word) line
    → MatchOption r (bytes_eq (drop (back_at behind) behind) crlf ≡ false) (λ x. (bytes_eq (drop (back_at behind) behind) crlf ≡ true) × (x.now ≡ take (back_at behind) behind) × (length x.now + 2 ≡ length behind))
    → IfNone r ((text : List ℕ) → line ≡ word ++ (text ++ crlf) → ⊥)
stripped_none word line behind None h e found = λ text is. end_isnt behind text found (append_cancel_left word behind (text ++ crlf) (sym (front_is word line behind h e) ∙ is))
stripped_none word line behind (Some text) h e found = tt

-- A line has one text behind its word.
pub one_text : (word line a b : List ℕ) → line ≡ word ++ (a ++ crlf) → line ≡ word ++ (b ++ crlf) → a ≡ b
one_text word line a b e f = append_cancel_right a b crlf (append_cancel_left word (a ++ crlf) (b ++ crlf) (sym e ∙ f))

-- the first byte of a text
abbrev first : List ℕ → ℕ
first [] = 0
first (b ∷ bs) = b

apart : (a b : ℕ) (xs ys : List ℕ) → eqb a b ≡ false → xs ≡ ys → first xs ≡ a → first ys ≡ b → ⊥
apart a b xs ys other same at to =
    let is : a ≡ b = sym at ∙ ap first same ∙ to in
    both_ways (eqb a b) other ((Decides-eqb a b).1 is)

-- A greeting to no host name is none.
pub no_greeting : (word greeting : Greeting) (line found hostname : List ℕ) → is_hostname found ≡ false → IsTrue (is_hostname hostname) → line ≡ greeting_line word found → line ≡ greeting_line greeting hostname → ⊥
no_greeting Ehlo Ehlo line found hostname bad good e f = both_ways (is_hostname hostname) (ap is_hostname (sym (one_text (codes "EHLO ") line found hostname e f)) ∙ bad) good
no_greeting Lhlo Lhlo line found hostname bad good e f = both_ways (is_hostname hostname) (ap is_hostname (sym (one_text (codes "LHLO ") line found hostname e f)) ∙ bad) good
no_greeting Ehlo Lhlo line found hostname bad good e f = apart 69 76 _ _ refl (sym e ∙ f) refl refl
no_greeting Lhlo Ehlo line found hostname bad good e f = apart 76 69 _ _ refl (sym e ∙ f) refl refl

-- A path reads back.
pub path_again : (origin : List ℕ) (path : Option AddressParts) → IsTrue (is_sender path) → path_of origin (path_text_of path) ≡ Ok path
unfolding path_of
path_again origin None good = refl
path_again origin (Some a) good = path_reads_back origin a good

pub one_path : (path other : Option AddressParts) → IsTrue (is_sender path) → IsTrue (is_sender other) → path_text_of path ≡ path_text_of other → path ≡ other
one_path path other good fine same =
    let ends : ◌≡◌ {A = Result (Option AddressParts) TextFault} (Ok path) (Ok other) = sym (path_again [] path good) ∙ ap (path_of []) same ∙ path_again [] other fine in
    cc

-- What fails to be read, for want of memory aside, is no path's spelling.
pub no_path : (fault : TextFault) (origin text : List ℕ) → fault ≢ Memory → Fails fault (path_of origin text) → (path : Option AddressParts) → IsTrue (is_sender path) → text ≡ path_text_of path → ⊥
no_path fault origin text other fails path good is = at fault other (subst (λ (r : Result (Option AddressParts) TextFault). Fails fault r) (ap (path_of origin) is ∙ path_again origin path good) fails) where
  at : (f : TextFault) → f ≢ Memory → Fails f (Ok path) → ⊥
  at Empty o h = cc
  at BadByte o h = cc
  at BadQuote o h = cc
  at BadDomain o h = cc
  at TooLong o h = cc
  at Memory o h = o refl

-- What is read and is spelled otherwise is no path's spelling.
pub other_spelling : (origin text : List ℕ) (found : Option AddressParts) → path_of origin text ≡ Ok found → text ≢ path_text_of found → (path : Option AddressParts) → IsTrue (is_sender path) → text ≡ path_text_of path → ⊥
other_spelling origin text found read other path good is =
    let both : ◌≡◌ {A = Result (Option AddressParts) TextFault} (Ok found) (Ok path) = sym read ∙ ap (path_of origin) is ∙ path_again origin path good in
    let same : found ≡ path = cc in
    other (is ∙ ap path_text_of (sym same))

pub other_bytes : (xs ys : List ℕ) → true ≡ not (bytes_eq xs ys) → xs ≢ ys
other_bytes xs ys h is = both_ways (bytes_eq xs ys) (not-true (bytes_eq xs ys) (sym h)) ((bytes_eq-Decides xs ys).1 is)

pub same_bytes : (xs ys : List ℕ) → true ≡ bytes_eq xs ys → xs ≡ ys
same_bytes xs ys h = (bytes_eq-Decides xs ys).0 (sym h)

pub not_bytes : (xs ys : List ℕ) → false ≡ bytes_eq xs ys → xs ≢ ys
not_bytes xs ys h is = both_ways (bytes_eq xs ys) (sym h) ((bytes_eq-Decides xs ys).1 is)

-- The null path is no recipient.
pub no_recipient : (line text : List ℕ) (path : Option AddressParts) → IsTrue (is_sender path) → text ≡ path_text_of path → line ≡ codes "RCPT TO:" ++ (text ++ crlf)
    → IfNone path ((a : AddressParts) → IsTrue (is_address a) → line ≡ recipient_line a → ⊥)
no_recipient line text None good is at = λ a fine e.
    let same : None ≡ Some a = one_path None (Some a) good fine (sym is ∙ one_text (codes "RCPT TO:") line text (path_text_of (Some a)) at e) in
    cc
no_recipient line text (Some a) good is at = tt

-- Recipients' lines, one behind the other.
pub no_lines : (rest : List ℕ) → rest ≡ [] → HasRecipients rest → ⊥
no_lines rest e ([], (good, is)) = apart 0 68 _ _ refl (sym e ∙ is) refl refl
no_lines rest e (a ∷ more, (good, is)) = apart 0 82 _ _ refl (sym e ∙ is) refl refl

pub more_behind : (rest line after : List ℕ) → raw_lines rest ≡ line ∷ raw_lines after → rest ≡ line ++ after → line ≡ data_line → (length after == 0) ≡ false → HasRecipients rest → ⊥
more_behind rest line after lines cut is_end some ([], (good, is)) =
    let end : after ≡ [] = (first_line rest data_line [] line after data_is_line lines cut is).1 in
    both_ways (length after == 0) some (ap (λ l. length l == 0) end)
more_behind rest line after lines cut is_end some (a ∷ more, (good, is)) =
    let parts : (is_address a ≡ true) × (list_all is_address more ≡ true) = and_parts (is_address a) (list_all is_address more) good in
    let first_is : line ≡ recipient_line a = (first_line rest (recipient_line a) (concat (recipient_lines more)) line after (recipient_is_line a parts.0) lines cut is).0 in
    apart 68 82 _ _ refl (sym is_end ∙ first_is) refl refl

pub record IsRecipient (line after : List ℕ) : Type 0 where
  pub a : AddressParts
  pub good : IsTrue (is_address a)
  pub is : line ≡ recipient_line a
  pub more : HasRecipients after

pub next_recipient : (rest line after : List ℕ) → raw_lines rest ≡ line ∷ raw_lines after → rest ≡ line ++ after → line ≢ data_line → HasRecipients rest → IsRecipient line after
next_recipient rest line after lines cut other ([], (good, is)) = absurd (other (first_line rest data_line [] line after data_is_line lines cut is).0)
next_recipient rest line after lines cut other (a ∷ more, (good, is)) =
    let parts : (is_address a ≡ true) × (list_all is_address more ≡ true) = and_parts (is_address a) (list_all is_address more) good in
    let found : (line ≡ recipient_line a) × (after ≡ concat (recipient_lines more)) = first_line rest (recipient_line a) (concat (recipient_lines more)) line after (recipient_is_line a parts.0) lines cut is in
    record { a = a; good = parts.0; is = found.0; more = (more, (parts.1, found.1)) }

pub concat-append : (xs ys : List (List ℕ)) → concat (xs ++ ys) ≡ concat xs ++ concat ys
concat-append [] ys = refl
concat-append (x ∷ xs) ys = ap (λ l. x ++ l) (concat-append xs ys) ∙ sym (append_assoc x (concat xs) (concat ys))

pub map-more : (xs : List AddressParts) (a : AddressParts) → concat (map recipient_line (xs ++ a ∷ [])) ≡ concat (map recipient_line xs) ++ recipient_line a
map-more [] a = append-nil (recipient_line a)
map-more (x ∷ xs) a = ap (λ l. recipient_line x ++ l) (map-more xs a) ∙ sym (append_assoc (recipient_line x) (concat (map recipient_line xs)) (recipient_line a))

pub one_more : (bytes rest line after : List ℕ) (to : List AddressParts) (a : AddressParts) → bytes ≡ concat (map recipient_line to) ++ rest → rest ≡ line ++ after → line ≡ recipient_line a → bytes ≡ concat (map recipient_line (to ++ a ∷ [])) ++ after
one_more bytes rest line after to a before cut is =
    before ∙ ap (λ l. concat (map recipient_line to) ++ l) (cut ∙ ap (λ l. l ++ after) is)
    ∙ sym (append_assoc (concat (map recipient_line to)) (recipient_line a) after)
    ∙ ap (λ l. l ++ after) (sym (map-more to a))

all_more : (to : List AddressParts) (a : AddressParts) → list_all is_address to ≡ true → is_address a ≡ true → list_all is_address (to ++ a ∷ []) ≡ true
all_more [] a h k = and_from (is_address a) true k refl
all_more (b ∷ bs) a h k =
    let parts : (is_address b ≡ true) × (list_all is_address bs ≡ true) = and_parts (is_address b) (list_all is_address bs) h in
    and_from (is_address b) (list_all is_address (bs ++ a ∷ [])) parts.0 (all_more bs a parts.1 k)

pub good_more : (to : List AddressParts) (a : AddressParts) → IsTrue (list_all is_address to) → IsTrue (is_address a) → IsTrue (list_all is_address (to ++ a ∷ []))
good_more to a h k = all_more to a h k

pub all_read : (bytes rest line after : List ℕ) (to : List AddressParts) → bytes ≡ concat (map recipient_line to) ++ rest → rest ≡ line ++ after → line ≡ data_line → (length after == 0) ≡ true → bytes ≡ concat (recipient_lines to)
all_read bytes rest line after to before cut is_end none =
    let end : after ≡ [] = nothing after none in
    let is : rest ≡ data_line = cut ∙ ap (λ l. l ++ after) is_end ∙ ap (λ l. data_line ++ l) end in
    before ∙ ap (λ l. concat (map recipient_line to) ++ l) is ∙ sym (concat-append (map recipient_line to) (data_line ∷ [])) where
      nothing : (xs : List ℕ) → (length xs == 0) ≡ true → xs ≡ []
      nothing [] h = refl
      nothing (x ∷ xs) h = let zero : length (x ∷ xs) ≡ 0 = eqb-true (length (x ∷ xs)) 0 h in absurd (omega arith)

-- The lines of a script.
pub script_parts : (s : Script) → IsTrue (is_script s) → IsTrue (is_hostname s.hostname) × IsTrue (is_sender s.from) × IsTrue (list_all is_address s.to)
script_parts s good =
    let front : ((is_hostname s.hostname && is_sender s.from) ≡ true) × (list_all is_address s.to ≡ true) = and_parts (is_hostname s.hostname && is_sender s.from) (list_all is_address s.to) good in
    let parts : (is_hostname s.hostname ≡ true) × (is_sender s.from ≡ true) = and_parts (is_hostname s.hostname) (is_sender s.from) front.0 in
    (parts.0, parts.1, front.1)

pub first_of_script : (bytes found behind : List ℕ) → raw_lines bytes ≡ found ∷ raw_lines behind → bytes ≡ found ++ behind → (s : Script) → IsTrue (is_script s) → bytes ≡ script_text s
    → (found ≡ greeting_line s.greeting s.hostname) × (behind ≡ sender_line s.from ++ concat (recipient_lines s.to))
first_of_script bytes found behind lines cut s good is =
    first_line bytes (greeting_line s.greeting s.hostname) (sender_line s.from ++ concat (recipient_lines s.to)) found behind (greeting_is_line s.greeting s.hostname (script_parts s good).0) lines cut is

pub second_of_script : (behind found rest : List ℕ) → raw_lines behind ≡ found ∷ raw_lines rest → behind ≡ found ++ rest → (s : Script) → IsTrue (is_script s) → behind ≡ sender_line s.from ++ concat (recipient_lines s.to)
    → (found ≡ sender_line s.from) × (rest ≡ concat (recipient_lines s.to))
second_of_script behind found rest lines cut s good is =
    first_line behind (sender_line s.from) (concat (recipient_lines s.to)) found rest (sender_is_line s.from (script_parts s good).1) lines cut is

pub no_sender_line : (behind tail : List ℕ) (from : Option AddressParts) → behind ≡ [] → behind ≡ sender_line from ++ tail → ⊥
no_sender_line behind tail from none is = apart 0 77 [] (sender_line from ++ tail) refl (sym none ∙ is) refl refl

-- A script's text determines what it says: two texts that begin with a line each begin with the same.
same_line : (first second tail rest : List ℕ) → IsLine first → IsLine second → first ++ tail ≡ second ++ rest → (first ≡ second) × (tail ≡ rest)
same_line first second tail rest whole other is =
    first_line (first ++ tail) second rest first tail other (raw_line first tail whole) refl is

one_greeting : (g h : Greeting) (a b : List ℕ) → greeting_line g a ≡ greeting_line h b → (g ≡ h) × (a ≡ b)
one_greeting Ehlo Ehlo a b is = (refl, one_text (codes "EHLO ") (greeting_line Ehlo a) a b refl is)
one_greeting Lhlo Lhlo a b is = (refl, one_text (codes "LHLO ") (greeting_line Lhlo a) a b refl is)
one_greeting Ehlo Lhlo a b is = absurd (apart 69 76 _ _ refl is refl refl)
one_greeting Lhlo Ehlo a b is = absurd (apart 76 69 _ _ refl is refl refl)

one_recipient : (a b : AddressParts) → IsTrue (is_address a) → IsTrue (is_address b) → recipient_line a ≡ recipient_line b → a ≡ b
one_recipient a b good fine is = same_address a b good fine (one_text (codes "RCPT TO:") (recipient_line a) (path_text_of (Some a)) (path_text_of (Some b)) refl is)

one_list : (to others : List AddressParts) → list_all is_address to ≡ true → list_all is_address others ≡ true → concat (recipient_lines to) ≡ concat (recipient_lines others) → to ≡ others
one_list [] [] good fine is = refl
one_list [] (b ∷ bs) good fine is = absurd (apart 68 82 _ _ refl is refl refl)
one_list (a ∷ more) [] good fine is = absurd (apart 82 68 _ _ refl is refl refl)
one_list (a ∷ more) (b ∷ bs) good fine is =
    let front : (is_address a ≡ true) × (list_all is_address more ≡ true) = and_parts (is_address a) (list_all is_address more) good in
    let back : (is_address b ≡ true) × (list_all is_address bs ≡ true) = and_parts (is_address b) (list_all is_address bs) fine in
    let lines : (recipient_line a ≡ recipient_line b) × (concat (recipient_lines more) ≡ concat (recipient_lines bs)) = same_line (recipient_line a) (recipient_line b) (concat (recipient_lines more)) (concat (recipient_lines bs)) (recipient_is_line a front.0) (recipient_is_line b back.0) is in
    let head : a ≡ b = one_recipient a b front.0 back.0 lines.0 in
    let rest : more ≡ bs = one_list more bs front.1 back.1 lines.1 in
    cc

pub script_determined : (s t : Script) → IsTrue (is_script s) → IsTrue (is_script t) → script_text s ≡ script_text t → s ≡ t
script_determined s t good fine is =
    let parts = script_parts s good in
    let others = script_parts t fine in
    let first : (greeting_line s.greeting s.hostname ≡ greeting_line t.greeting t.hostname) × (sender_line s.from ++ concat (recipient_lines s.to) ≡ sender_line t.from ++ concat (recipient_lines t.to)) =
    same_line (greeting_line s.greeting s.hostname) (greeting_line t.greeting t.hostname) (sender_line s.from ++ concat (recipient_lines s.to)) (sender_line t.from ++ concat (recipient_lines t.to)) (greeting_is_line s.greeting s.hostname parts.0) (greeting_is_line t.greeting t.hostname others.0) is in
    let second : (sender_line s.from ≡ sender_line t.from) × (concat (recipient_lines s.to) ≡ concat (recipient_lines t.to)) =
    same_line (sender_line s.from) (sender_line t.from) (concat (recipient_lines s.to)) (concat (recipient_lines t.to)) (sender_is_line s.from parts.1) (sender_is_line t.from others.1) first.1 in
    let greeting : (s.greeting ≡ t.greeting) × (s.hostname ≡ t.hostname) = one_greeting s.greeting t.greeting s.hostname t.hostname first.0 in
    let from : s.from ≡ t.from = one_path s.from t.from parts.1 others.1 (one_text (codes "MAIL FROM:") (sender_line s.from) (path_text_of s.from) (path_text_of t.from) refl second.0) in
    let to : s.to ≡ t.to = one_list s.to t.to parts.2 others.2 second.1 in
    same s t greeting.0 greeting.1 from to where
      same : (a b : Script) → a.greeting ≡ b.greeting → a.hostname ≡ b.hostname → a.from ≡ b.from → a.to ≡ b.to → a ≡ b
      same a b g h f r =
          ap (λ (x : Greeting). record a { greeting = x }) g
          ∙ ap (λ (x : List ℕ). record a { greeting = b.greeting; hostname = x }) h
          ∙ ap (λ (x : Option AddressParts). record a { greeting = b.greeting; hostname = b.hostname; from = x }) f
          ∙ ap (λ (x : List AddressParts). record b { to = x }) r
