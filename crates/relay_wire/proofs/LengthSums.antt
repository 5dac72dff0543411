-- The lengths of the texts, part by part.
use Rattle.std.proofs.Common.{◌≡◌, ◌<◌, ◌≤◌, ℕ, ◌+◌, min, leb, inl, inr, List, [], ◌∷◌, ◌++◌, codes, decimal, map, length, take, get_or, sum_by, Option, Some, refl, sym, ap, ◌∙◌, arith}
use Rattle.std.specs.List.{concat, enumerate_from}
use Rattle.std.proofs.lemmas.Bool.{cases_Bool, leb-true, leb-false}
use Rattle.std.proofs.lemmas.List.{length-append}
use Rattle.std.proofs.lemmas.List.Sums.{sum_by_more, sum_by-cons}
use Rattle.relay_text.specs.AddressParts.{AddressParts}
use Rattle.relay_text.specs.Addresses.{path_text_of}
use Rattle.relay_routes.specs.Transports.{transport_name}
use Rattle.relay_wire.specs.declared.commands.Greeting.{Greeting}
use Rattle.relay_wire.specs.declared.commands.Greeting.TheVariants.{Ehlo, Lhlo}
use Rattle.relay_wire.specs.declared.plan.Planned.{Planned}
use Rattle.relay_wire.specs.declared.plan.Plan.{Plan}
use Rattle.relay_wire.specs.Findings.{spaced}
use Rattle.relay_wire.specs.PlanText.{line, lines_of, counts_line, first_line, transaction_line, from_line, to_line, via_line, host_line, host_lines, script_line, transaction_text, scripted_text, numbered_texts, text_by}
use Rattle.relay_wire.specs.Script.{greeting_line, greeting_of, sender_line, recipient_line, recipient_lines, script_of, script_text}
use Rattle.relay_wire.proofs.Pieces.{numbered_more_from, lines_append}

-- Saturated sums: what is cut off once stays cut off.
pub grown : (m total more r s : ℕ) → r ≡ min total m → s ≡ min (r + more) m → s ≡ min (total + more) m
grown m total more r s h k = omega arith

pub grown_by : (m total more r q s : ℕ) → r ≡ min total m → q ≡ min more m → s ≡ min (r + q) m → s ≡ min (total + more) m
grown_by m total more r q s h i k = omega arith

pub sum_step : {X : Type 0} (f : X → ℕ) (xs : List X) (i : ℕ) (x : X) (m each more len next last : ℕ) → i < length xs → x ≡ get_or xs i x → f x ≡ each + more
    → len ≡ min (sum_by f (take i xs)) m → next ≡ min (len + each) m → last ≡ min (next + more) m → last ≡ min (sum_by f (take (i + 1) xs)) m
sum_step f xs i x m each more len next last h at is before first second =
    let sum : sum_by f (take (i + 1) xs) ≡ sum_by f (take i xs) + f (get_or xs i x) = sum_by_more f xs i x h in
    let item : f (get_or xs i x) ≡ f x = ap f (sym at) in
    let one : next ≡ min (sum_by f (take i xs) + each) m = grown m (sum_by f (take i xs)) each len next before first in
    let two : last ≡ min (sum_by f (take i xs) + each + more) m = grown m (sum_by f (take i xs) + each) more next last one second in
    let total : sum_by f (take i xs) + each + more ≡ sum_by f (take (i + 1) xs) = omega arith in
    two ∙ ap (λ n. min n m) total

pub numbered_length_step_from : (text : ℕ → Planned → List ℕ) (n : ℕ) (xs : List Planned) (i : ℕ) (x : Planned) (m len more next : ℕ) → i < length xs → x ≡ get_or xs i x
    → len ≡ min (length (numbered_texts text (take i (enumerate_from n xs)))) m → more ≡ min (length (text (n + i) x)) m → next ≡ min (len + more) m
    → next ≡ min (length (numbered_texts text (take (i + 1) (enumerate_from n xs)))) m
numbered_length_step_from text n xs i x m len more next h at before part after =
    let all : numbered_texts text (take (i + 1) (enumerate_from n xs)) ≡ numbered_texts text (take i (enumerate_from n xs)) ++ text (n + i) x = numbered_more_from text n xs i x h ∙ ap (λ p. numbered_texts text (take i (enumerate_from n xs)) ++ text (n + i) p) (sym at) in
    let sum : length (numbered_texts text (take (i + 1) (enumerate_from n xs))) ≡ length (numbered_texts text (take i (enumerate_from n xs))) + length (text (n + i) x) = ap length all ∙ length-append (numbered_texts text (take i (enumerate_from n xs))) (text (n + i) x) in
    grown_by m (length (numbered_texts text (take i (enumerate_from n xs)))) (length (text (n + i) x)) len more next before part after ∙ ap (λ n. min n m) (sym sum)

pub numbered_length_step : (text : ℕ → Planned → List ℕ) (xs : List Planned) (i : ℕ) (x : Planned) (m len more next : ℕ) → i < length xs → x ≡ get_or xs i x
    → len ≡ min (length (numbered_texts text (take i (enumerate_from 1 xs)))) m → more ≡ min (length (text (i + 1) x)) m → next ≡ min (len + more) m
    → next ≡ min (length (numbered_texts text (take (i + 1) (enumerate_from 1 xs)))) m
numbered_length_step text xs i x m len more next h at before part after =
    let same : i + 1 ≡ 1 + i = omega arith in
    numbered_length_step_from text 1 xs i x m len more next h at before (part ∙ ap (λ n. min (length (text n x)) m) same) after

-- The plan's lines.
pub counts_length : (transactions recipients findings : ℕ) → length (line (counts_line transactions recipients findings)) ≡ length (decimal transactions) + length (decimal recipients) + length (decimal findings) + 41
counts_length transactions recipients findings = at (decimal transactions) (decimal recipients) (decimal findings) where
  at : (x y z : List ℕ) → length (line (spaced (codes "plan" ∷ x ∷ codes "transactions" ∷ y ∷ codes "recipients" ∷ z ∷ codes "findings" ∷ []))) ≡ length x + length y + length z + 41
  at x y z = simp length-append (omega arith)

transaction_line_length : (number : ℕ) → length (line (transaction_line number)) ≡ 13 + length (decimal number)
transaction_line_length number = at (decimal number) where
  at : (x : List ℕ) → length (line (spaced (codes "transaction" ∷ x ∷ []))) ≡ 13 + length x
  at x = simp length-append (omega arith)

script_line_length : (octets : ℕ) → length (line (script_line octets)) ≡ 8 + length (decimal octets)
script_line_length octets = at (decimal octets) where
  at : (x : List ℕ) → length (line (spaced (codes "script" ∷ x ∷ []))) ≡ 8 + length x
  at x = simp length-append (omega arith)

from_length : (from : Option AddressParts) → length (line (from_line from)) ≡ 6 + length (path_text_of from)
from_length from = at (path_text_of from) where
  at : (x : List ℕ) → length (line (spaced (codes "from" ∷ x ∷ []))) ≡ 6 + length x
  at x = simp length-append (omega arith)

to_length : (a : AddressParts) → length (line (to_line a)) ≡ 4 + length (path_text_of (Some a))
to_length a = at (path_text_of (Some a)) where
  at : (x : List ℕ) → length (line (spaced (codes "to" ∷ x ∷ []))) ≡ 4 + length x
  at x = simp length-append (omega arith)

host_length : (host : List ℕ) → length (line (host_line host)) ≡ 6 + length host
host_length host = simp length-append (omega arith)

via_length : (t : Planned) → length (line (via_line t)) ≡ 6 + length (transport_name t.transport) + length t.nexthop
via_length t = at (transport_name t.transport) t.nexthop where
  at : (x y : List ℕ) → length (line (spaced (codes "via" ∷ x ∷ y ∷ []))) ≡ 6 + length x + length y
  at x y = simp length-append (omega arith)

pub texts_length : (texts : List (List ℕ)) → length (lines_of texts) ≡ sum_by (λ t. 1 + length t) texts
texts_length [] = refl
texts_length (t ∷ more) = omega (arith, sum_by-cons (λ (x : List ℕ). 1 + length x) t more, texts_length more, length-append (line t) (lines_of more), length-append t (10 ∷ []))

to_lines_length : (to : List AddressParts) → length (lines_of (map to_line to)) ≡ sum_by (λ a. 4 + length (path_text_of (Some a))) to
to_lines_length [] = refl
to_lines_length (a ∷ more) = omega (arith, sum_by-cons (λ (x : AddressParts). 4 + length (path_text_of (Some x))) a more, to_lines_length more, length-append (line (to_line a)) (lines_of (map to_line more)), to_length a)

hosts_length : (hosts : List (List ℕ)) → length (lines_of (map host_line hosts)) ≡ sum_by (λ h. 6 + length h) hosts
hosts_length [] = refl
hosts_length (h ∷ more) = omega (arith, sum_by-cons (λ (x : List ℕ). 6 + length x) h more, hosts_length more, length-append (line (host_line h)) (lines_of (map host_line more)), host_length h)

pub route_length : (t : Planned) → length (lines_of (host_lines t)) ≡ 6 + length (transport_name t.transport) + length t.nexthop + sum_by (λ h. 6 + length h) t.hosts
route_length t = omega (arith, length-append (line (via_line t)) (lines_of (map host_line t.hosts)), via_length t, hosts_length t.hosts)

pub transaction_length : (number : ℕ) (t : Planned) → length (transaction_text number t) ≡ 19 + length (decimal number) + length (path_text_of t.from) + length (lines_of (host_lines t)) + sum_by (λ a. 4 + length (path_text_of (Some a))) t.to
transaction_length number t =
    let front : length (transaction_text number t) ≡ length (line (transaction_line number)) + (length (line (from_line t.from)) + length (lines_of (host_lines t ++ map to_line t.to))) =
    length-append (line (transaction_line number)) (line (from_line t.from) ++ lines_of (host_lines t ++ map to_line t.to))
    ∙ ap (λ n. length (line (transaction_line number)) + n) (length-append (line (from_line t.from)) (lines_of (host_lines t ++ map to_line t.to))) in
    let back : length (lines_of (host_lines t ++ map to_line t.to)) ≡ length (lines_of (host_lines t)) + length (lines_of (map to_line t.to)) =
    ap length (lines_append (host_lines t) (map to_line t.to)) ∙ length-append (lines_of (host_lines t)) (lines_of (map to_line t.to)) in
    omega (arith, front, back, transaction_line_length number, from_length t.from, to_lines_length t.to)

-- The script's lines.
greeting_length : (greeting : Greeting) (hostname : List ℕ) → length (greeting_line greeting hostname) ≡ 7 + length hostname
greeting_length Ehlo hostname = simp length-append (omega arith)
greeting_length Lhlo hostname = simp length-append (omega arith)

sender_length : (from : Option AddressParts) → length (sender_line from) ≡ 12 + length (path_text_of from)
sender_length from = at (path_text_of from) where
  at : (x : List ℕ) → length (codes "MAIL FROM:" ++ x ++ 13 ∷ 10 ∷ []) ≡ 12 + length x
  at x = simp length-append (omega arith)

recipient_length : (a : AddressParts) → length (recipient_line a) ≡ 10 + length (path_text_of (Some a))
recipient_length a = at (path_text_of (Some a)) where
  at : (x : List ℕ) → length (codes "RCPT TO:" ++ x ++ 13 ∷ 10 ∷ []) ≡ 10 + length x
  at x = simp length-append (omega arith)

recipient_lines_length : (to : List AddressParts) → length (concat (recipient_lines to)) ≡ 6 + sum_by (λ a. 10 + length (path_text_of (Some a))) to
recipient_lines_length [] = refl
recipient_lines_length (a ∷ more) = omega (arith, sum_by-cons (λ (x : AddressParts). 10 + length (path_text_of (Some x))) a more, recipient_lines_length more, length-append (recipient_line a) (concat (recipient_lines more)), recipient_length a)

pub script_length : (t : Planned) (hostname : List ℕ) → length (script_text (script_of t hostname)) ≡ 25 + length hostname + length (path_text_of t.from) + sum_by (λ a. 10 + length (path_text_of (Some a))) t.to
script_length t hostname =
    let front : length (script_text (script_of t hostname)) ≡ length (greeting_line (greeting_of t.transport) hostname) + (length (sender_line t.from) + length (concat (recipient_lines t.to))) =
    length-append (greeting_line (greeting_of t.transport) hostname) (sender_line t.from ++ concat (recipient_lines t.to))
    ∙ ap (λ n. length (greeting_line (greeting_of t.transport) hostname) + n) (length-append (sender_line t.from) (concat (recipient_lines t.to))) in
    omega (arith, front, greeting_length (greeting_of t.transport) hostname, sender_length t.from, recipient_lines_length t.to)

pub scripted_length : (hostname : List ℕ) (number : ℕ) (t : Planned) → length (scripted_text hostname number t) ≡ 21 + length (decimal number) + length (lines_of (host_lines t)) + length (decimal (length (script_text (script_of t hostname)))) + length (script_text (script_of t hostname))
scripted_length hostname number t = at (script_text (script_of t hostname)) where
  at : (s : List ℕ) → length (lines_of (transaction_line number ∷ host_lines t ++ script_line (length s) ∷ []) ++ s) ≡ 21 + length (decimal number) + length (lines_of (host_lines t)) + length (decimal (length s)) + length s
  at s =
      let whole : length (lines_of (transaction_line number ∷ host_lines t ++ script_line (length s) ∷ []) ++ s) ≡ length (line (transaction_line number)) + length (lines_of (host_lines t ++ script_line (length s) ∷ [])) + length s =
      length-append (lines_of (transaction_line number ∷ host_lines t ++ script_line (length s) ∷ [])) s
      ∙ ap (λ n. n + length s) (length-append (line (transaction_line number)) (lines_of (host_lines t ++ script_line (length s) ∷ []))) in
      let back : length (lines_of (host_lines t ++ script_line (length s) ∷ [])) ≡ length (lines_of (host_lines t)) + length (line (script_line (length s)) ++ []) =
      ap length (lines_append (host_lines t) (script_line (length s) ∷ [])) ∙ length-append (lines_of (host_lines t)) (line (script_line (length s)) ++ []) in
      let end : length (line (script_line (length s)) ++ []) ≡ length (line (script_line (length s))) + 0 = length-append (line (script_line (length s))) [] in
      omega (arith, whole, back, end, transaction_line_length number, script_line_length (length s))

pub whole_length : (text : ℕ → Planned → List ℕ) (p : Plan) → length (text_by text p) ≡ length (line (first_line p)) + length (numbered_texts text (enumerate_from 1 p.transactions)) + sum_by (λ t. 1 + length t) p.findings + 4
whole_length text p = at (line (first_line p)) (numbered_texts text (enumerate_from 1 p.transactions)) where
  at : (x y : List ℕ) → length (x ++ y ++ lines_of p.findings ++ line (codes "end")) ≡ length x + length y + sum_by (λ t. 1 + length t) p.findings + 4
  at x y = omega (arith, length-append (x ++ y ++ lines_of p.findings) (line (codes "end")), length-append (x ++ y) (lines_of p.findings), length-append x y, texts_length p.findings)

-- The sums of three and of four lengths.
pub sum_three : (m a b c d r s q t : ℕ) → r ≡ min (a + b) m → s ≡ min (r + c) m → q ≡ min d m → t ≡ min (s + q) m → t ≡ min (a + b + c + d) m
sum_three m a b c d r s q t first second part last = grown_by m (a + b + c) d s q t (grown m (a + b) c r s first second) part last

pub sum_four : (m a b c d e r s p t q u : ℕ) → r ≡ min (a + b) m → s ≡ min (r + c) m → p ≡ min d m → t ≡ min (s + p) m → q ≡ min e m → u ≡ min (t + q) m → u ≡ min (a + b + c + d + e) m
sum_four m a b c d e r s p t q u first second part third more last = grown_by m (a + b + c + d) e t q u (sum_three m a b c d r s p t first second part third) more last

-- Where the script is too long to count, so is all of it.
pub sum_scripted : (m a b route script r p s counted t u : ℕ) → r ≡ min (a + b) m → p ≡ min route m → s ≡ min (r + p) m → counted ≡ min script m
    → t ≡ min (s + length (decimal counted)) m → u ≡ min (t + counted) m → u ≡ min (a + b + route + length (decimal script) + script) m
sum_scripted m a b route script r p s counted t u first part second all third last = elim (cases_Bool (leb script m)) [
  | inl e ↦
      let fits : script ≤ m = leb-true script m e in
      let same : counted ≡ script = omega arith in
      let digits : length (decimal counted) ≡ length (decimal script) = ap (λ n. length (decimal n)) same in
      let so_far : s ≡ min (a + b + route) m = grown_by m (a + b) route r p s first part second in
      let then : t ≡ min (a + b + route + length (decimal script)) m = grown m (a + b + route) (length (decimal script)) s t so_far (third ∙ ap (λ n. min (s + n) m) digits) in
      grown_by m (a + b + route + length (decimal script)) script t counted u then all last
  | inr e ↦
      let beyond : m < script = leb-false script m e in
      full m (a + b + route + length (decimal script)) script t counted u beyond all last
] where
  full : (m x script t counted u : ℕ) → m < script → counted ≡ min script m → u ≡ min (t + counted) m → u ≡ min (x + script) m
  full m x script t counted u h k l = omega arith

-- The sum of a whole text.
pub sum_whole : (m a b c r p q s t : ℕ) → p ≡ min b m → r ≡ min (a + p) m → q ≡ min c m → s ≡ min (r + q) m → t ≡ min (s + 4) m → t ≡ min (a + b + c + 4) m
sum_whole m a b c r p q s t part first more second last =
    let begun : r ≡ min (a + b) m = added m a b p r part first in
    grown m (a + b + c) 4 s t (grown_by m (a + b) c r q s begun more second) last where
      added : (m a b p r : ℕ) → p ≡ min b m → r ≡ min (a + p) m → r ≡ min (a + b) m
      added m a b p r h k = omega arith
