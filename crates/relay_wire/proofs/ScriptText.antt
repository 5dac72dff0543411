-- A script as it's written, line by line.
use Rattle.std.proofs.Common.{◌≡◌, ◌<◌, ◌≤◌, ℕ, ◌+◌, ◌&&◌, List, [], ◌∷◌, ◌++◌, codes, cond, map, length, take, get_or, Option, Some, None, Result, Ok, Err, is_ok, OnOk, sym, ap, ◌∙◌, append_assoc, arith, leb, true}
use Rattle.std.specs.Bool.{IsTrue}
use Rattle.std.specs.List.{concat, list_all, All}
use Rattle.std.specs.Str.{bytes_eq}
use Rattle.std.proofs.lemmas.Bool.{and_parts, and_from, leb-true}
use Rattle.std.proofs.lemmas.List.{take_more, length-append}
use Rattle.std.proofs.lemmas.List.Elements.{All-nil, All-cons}
use Rattle.std.proofs.lemmas.List.Folds.{list_all_more}
use Rattle.relay_text.specs.Bytes.{folded}
use Rattle.relay_text.specs.AddressParts.{AddressParts}
use Rattle.relay_text.specs.Addresses.{is_address, is_domain, path_text_of}
use Rattle.relay_text.proofs.Limits.{address_parts}
use Rattle.relay_wire.specs.declared.commands.Greeting.{Greeting}
use Rattle.relay_wire.specs.declared.commands.Greeting.TheVariants.{Ehlo, Lhlo}
use Rattle.relay_wire.specs.declared.commands.Script.{Script}
use Rattle.relay_wire.specs.Script.{crlf, greeting_line, sender_line, recipient_line, recipient_lines, data_line, script_lines, is_hostname, is_sender, is_script, HasAddresses}
use Rattle.relay_wire.proofs.ScriptParts.{concat-append, map-more}

pub script_is : (out first second : List ℕ) (to : List AddressParts) → (((out ++ first) ++ second) ++ concat (map recipient_line to)) ++ data_line ≡ out ++ (first ++ (second ++ concat (recipient_lines to)))
script_is out first second to =
    let end : concat (recipient_lines to) ≡ concat (map recipient_line to) ++ data_line = concat-append (map recipient_line to) (data_line ∷ []) in
    append_assoc ((out ++ first) ++ second) (concat (map recipient_line to)) data_line
    ∙ append_assoc (out ++ first) second (concat (map recipient_line to) ++ data_line)
    ∙ append_assoc out first (second ++ (concat (map recipient_line to) ++ data_line))
    ∙ ap (λ l. out ++ (first ++ (second ++ l))) (sym end)

pub commands_more : (to : List AddressParts) (i : ℕ) (d : AddressParts) → i < length to → concat (map recipient_line (take (i + 1) to)) ≡ concat (map recipient_line (take i to)) ++ recipient_line (get_or to i d)
commands_more to i d h = rw (take_more to i d h) (map-more (take i to) (get_or to i d))

-- No line is longer than 512 octets.
greeting_length : (greeting : Greeting) (hostname : List ℕ) → length (greeting_line greeting hostname) ≡ 7 + length hostname
greeting_length Ehlo hostname = simp length-append (omega arith)
greeting_length Lhlo hostname = simp length-append (omega arith)

command_length : (word path : List ℕ) → length (word ++ path ++ crlf) ≡ length word + length path + 2
command_length word path = simp length-append (omega arith)

path_fits : (path : Option AddressParts) → IsTrue (is_sender path) → length (path_text_of path) ≤ 256
path_fits None good = omega arith
path_fits (Some a) good = (address_parts a good).6

short_recipients : (to : List AddressParts) → list_all is_address to ≡ true → All (λ line. length line ≤ 512) (recipient_lines to)
short_recipients [] good = let short : length data_line ≤ 512 = omega arith in All-cons (λ (line : List ℕ). length line ≤ 512) data_line [] short (All-nil (λ (line : List ℕ). length line ≤ 512))
short_recipients (a ∷ more) good =
    let parts : (is_address a ≡ true) × (list_all is_address more ≡ true) = and_parts (is_address a) (list_all is_address more) good in
    let path : length (path_text_of (Some a)) ≤ 256 = path_fits (Some a) parts.0 in
    let is : length (recipient_line a) ≡ 8 + length (path_text_of (Some a)) + 2 = command_length (codes "RCPT TO:") (path_text_of (Some a)) in
    let short : length (recipient_line a) ≤ 512 = omega arith in
    All-cons (λ (line : List ℕ). length line ≤ 512) (recipient_line a) (recipient_lines more) short (short_recipients more parts.1)

pub short_script : (s : Script) → IsTrue (is_hostname s.hostname) → HasAddresses s → All (λ line. length line ≤ 512) (script_lines s)
short_script s named good =
    let host : length s.hostname ≤ 255 = leb-true (length s.hostname) 255 (and_parts (is_domain s.hostname && bytes_eq (folded s.hostname) s.hostname) (leb (length s.hostname) 255) named).1 in
    let first : length (greeting_line s.greeting s.hostname) ≡ 7 + length s.hostname = greeting_length s.greeting s.hostname in
    let second : length (sender_line s.from) ≡ 10 + length (path_text_of s.from) + 2 = command_length (codes "MAIL FROM:") (path_text_of s.from) in
    let path : length (path_text_of s.from) ≤ 256 = path_fits s.from good.0 in
    let short_first : length (greeting_line s.greeting s.hostname) ≤ 512 = omega arith in
    let short_second : length (sender_line s.from) ≤ 512 = omega arith in
    All-cons (λ (line : List ℕ). length line ≤ 512) (greeting_line s.greeting s.hostname) (sender_line s.from ∷ recipient_lines s.to) short_first
    (All-cons (λ (line : List ℕ). length line ≤ 512) (sender_line s.from) (recipient_lines s.to) short_second (short_recipients s.to good.1))

pub valid_script : (s : Script) → IsTrue (is_hostname s.hostname) → HasAddresses s → IsTrue (is_script s)
valid_script s named good = and_from (is_hostname s.hostname && is_sender s.from) (list_all is_address s.to) (and_from (is_hostname s.hostname) (is_sender s.from) named good.0) good.1

-- One command more.
pub commands_step : (out written new : List ℕ) (to : List AddressParts) (i : ℕ) (x : AddressParts) → i < length to → x ≡ get_or to i x → written ≡ out ++ concat (map recipient_line (take i to)) → new ≡ written ++ recipient_line x
    → new ≡ out ++ concat (map recipient_line (take (i + 1) to))
commands_step out written new to i x h at before after =
    let more : concat (map recipient_line (take (i + 1) to)) ≡ concat (map recipient_line (take i to)) ++ recipient_line x = commands_more to i x h ∙ ap (λ a. concat (map recipient_line (take i to)) ++ recipient_line a) (sym at) in
    after ∙ ap (λ l. l ++ recipient_line x) before ∙ append_assoc out (concat (map recipient_line (take i to))) (recipient_line x) ∙ ap (λ l. out ++ l) (sym more)

pub valid_step : (to : List AddressParts) (i : ℕ) (x : AddressParts) → i < length to → x ≡ get_or to i x → IsTrue (list_all is_address (take i to)) → IsTrue (is_address x) → IsTrue (list_all is_address (take (i + 1) to))
valid_step to i x h at before good =
    let here : is_address (get_or to i x) ≡ true = ap is_address (sym at) ∙ good in
    list_all_more is_address to i x h ∙ and_from (list_all is_address (take i to)) (is_address (get_or to i x)) before here

-- what is written at the end, where it was
pub on_written : {A E : Type 0} (r : Result A E) (new old more goal : List ℕ) → new ≡ cond (is_ok r) (old ++ more) old → old ++ more ≡ goal → OnOk r (new ≡ goal)
on_written (Ok a) new old more goal h e = h ∙ e
on_written (Err e) new old more goal h k = tt
