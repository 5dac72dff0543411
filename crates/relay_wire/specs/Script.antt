-- The commands of one transaction (RFC 5321 sections 4.1.1 and 3.3: EHLO, MAIL, RCPT, DATA; RFC 2033 section 4.1: LHLO).
use Rattle.std.specs.Prelude.{◌≡◌, ℕ, Bool, true, ◌&&◌, List, [], ◌∷◌, ◌++◌, length, map, codes, nat_le, Option, Some, None, IsTrue}
use Rattle.std.specs.List.{concat, list_all}
use Rattle.std.specs.Str.{bytes_eq}
use Rattle.relay_text.specs.Bytes.{folded}
use Rattle.relay_text.specs.AddressParts.{AddressParts}
use Rattle.relay_text.specs.Addresses.{is_address, is_domain, path_text_of}
use Rattle.relay_routes.specs.declared.transport.Transport.{Transport}
use Rattle.relay_routes.specs.declared.transport.Transport.TheVariants.{Smtp, Relay, Lmtp}
use Rattle.relay_wire.specs.declared.commands.Greeting.{Greeting}
use Rattle.relay_wire.specs.declared.commands.Greeting.TheVariants.{Ehlo, Lhlo}
use Rattle.relay_wire.specs.declared.commands.Script.{Script}
use Rattle.relay_wire.specs.declared.plan.Planned.{Planned}

abbrev pub greeting_word : Greeting → List ℕ
greeting_word Ehlo = codes "EHLO"
greeting_word Lhlo = codes "LHLO"

-- each line with its CR and LF
abbrev pub crlf : List ℕ
crlf = 13 ∷ 10 ∷ []

abbrev pub greeting_line : Greeting → List ℕ → List ℕ
greeting_line greeting hostname = greeting_word greeting ++ codes " " ++ hostname ++ crlf

abbrev pub sender_line : Option AddressParts → List ℕ
sender_line from = codes "MAIL FROM:" ++ path_text_of from ++ crlf

abbrev pub recipient_line : AddressParts → List ℕ
recipient_line a = codes "RCPT TO:" ++ path_text_of (Some a) ++ crlf

abbrev pub data_line : List ℕ
data_line = codes "DATA" ++ crlf

-- the lines behind the sender's
abbrev pub recipient_lines : List AddressParts → List (List ℕ)
recipient_lines to = map recipient_line to ++ data_line ∷ []

abbrev pub script_lines : Script → List (List ℕ)
script_lines s = greeting_line s.greeting s.hostname ∷ sender_line s.from ∷ recipient_lines s.to

abbrev pub script_text : Script → List ℕ
script_text s = concat (script_lines s)

-- a folded domain of at most 255 octets
abbrev pub is_hostname : List ℕ → Bool
is_hostname text = is_domain text && bytes_eq (folded text) text && nat_le (length text) 255

abbrev pub is_sender : Option AddressParts → Bool
is_sender None = true
is_sender (Some a) = is_address a

abbrev pub is_script : Script → Bool
is_script s = is_hostname s.hostname && is_sender s.from && list_all is_address s.to

abbrev pub greeting_of : Transport → Greeting
greeting_of Smtp = Ehlo
greeting_of Relay = Ehlo
greeting_of Lmtp = Lhlo

abbrev pub script_of : Planned → List ℕ → Script
script_of t hostname = record { greeting = greeting_of t.transport; hostname = hostname; from = t.from; to = t.to }

-- whether a text is the lines of some recipients, and the one that ends them
abbrev pub HasRecipients : List ℕ → Type 0
HasRecipients text = (to : List AddressParts) × (IsTrue (list_all is_address to) × (text ≡ concat (recipient_lines to)))

-- Each address of a script is one.
abbrev pub HasAddresses : Script → Type 0
HasAddresses s = IsTrue (is_sender s.from) × IsTrue (list_all is_address s.to)
