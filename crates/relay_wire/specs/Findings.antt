-- The lines that report what is missing, empty, on a loop, unrouted or at fault.
use Rattle.std.specs.Prelude.{ℕ, List, [], ◌∷◌, codes, decimal, flat_map, Some}
use Rattle.std.specs.List.{join_with_byte}
use Rattle.relay_text.specs.Addresses.{local_text_of, path_text_of}
use Rattle.relay_wire.specs.declared.finding.Place.{Place}
use Rattle.relay_wire.specs.declared.finding.Place.TheVariants as places
use Rattle.relay_wire.specs.declared.finding.Reason.{Reason}
use Rattle.relay_wire.specs.declared.finding.Reason.TheVariants as reasons
use Rattle.relay_wire.specs.declared.finding.LineWord.{LineWord}
use Rattle.relay_wire.specs.declared.finding.LineWord.TheVariants.{BadLine, BadItem, Duplicate, Empty}
use Rattle.relay_wire.specs.declared.finding.Finding.{Finding}
use Rattle.relay_wire.specs.declared.finding.Finding.TheVariants.{Missing, NoInclude, File, Command, EmptyAlias, EmptyInclude, LoopAlias, LoopInclude, Unrouted, Aliases, Include, Mailboxes, Mx, Transport}

-- words with one space between each two
abbrev pub spaced : List (List ℕ) → List ℕ
spaced words = join_with_byte 32 words

-- words with a space before each
abbrev pub after_spaces : List (List ℕ) → List ℕ
after_spaces words = flat_map (λ word. 32 ∷ word) words

abbrev pub place_words : Place → List (List ℕ)
place_words (places.Alias name) = codes "in" ∷ codes "alias" ∷ local_text_of name ∷ []
place_words (places.Include path) = codes "in" ∷ codes "include" ∷ path ∷ []
place_words places.Envelope = codes "in" ∷ codes "envelope" ∷ []

-- a text that is empty is no word
abbrev pub refusal_words : List ℕ → List (List ℕ)
refusal_words [] = codes "refused" ∷ []
refusal_words (b ∷ bs) = codes "refused" ∷ (b ∷ bs) ∷ []

abbrev pub reason_words : Reason → List (List ℕ)
reason_words reasons.Domain = codes "domain" ∷ []
reason_words reasons.MxSelf = codes "mxself" ∷ []
reason_words reasons.Transport = codes "transport" ∷ []
reason_words (reasons.Refused text) = refusal_words text
reason_words reasons.NullMx = codes "nullmx" ∷ []

abbrev pub line_word : LineWord → List ℕ
line_word BadLine = codes "badline"
line_word BadItem = codes "baditem"
line_word Duplicate = codes "duplicate"
line_word Empty = codes "empty"

abbrev pub line_words : ℕ → LineWord → List (List ℕ)
line_words number word = codes "line" ∷ decimal number ∷ line_word word ∷ []

abbrev pub finding_words : Finding → List (List ℕ)
finding_words (Missing name place) = codes "missing" ∷ local_text_of name ∷ place_words place
finding_words (NoInclude path place) = codes "noinclude" ∷ path ∷ place_words place
finding_words (File path place) = codes "file" ∷ path ∷ place_words place
finding_words (Command text place) = codes "command" ∷ text ∷ place_words place
finding_words (EmptyAlias name) = codes "empty" ∷ codes "alias" ∷ local_text_of name ∷ []
finding_words (EmptyInclude path) = codes "empty" ∷ codes "include" ∷ path ∷ []
finding_words (LoopAlias name) = codes "loop" ∷ codes "alias" ∷ local_text_of name ∷ []
finding_words (LoopInclude path) = codes "loop" ∷ codes "include" ∷ path ∷ []
finding_words (Unrouted a reason) = codes "unrouted" ∷ path_text_of (Some a) ∷ reason_words reason
finding_words (Aliases number word) = codes "aliases" ∷ line_words number word
finding_words (Include path number word) = codes "include" ∷ path ∷ line_words number word
finding_words (Mailboxes number word) = codes "mailboxes" ∷ line_words number word
finding_words (Mx number word) = codes "mx" ∷ line_words number word
finding_words (Transport number word) = codes "transport" ∷ line_words number word

abbrev pub finding_text_of : Finding → List ℕ
finding_text_of f = spaced (codes "finding" ∷ finding_words f)
