-- Kinds of what is told, and how bad each is.
use Rattle.std.specs.Prelude.{ℕ, Bool, true, false, not, ◌&&◌, ◌||◌, List, [], ◌∷◌, drop, codes, if◌then◌else◌}
use Rattle.std.specs.List.{list_any}
use Rattle.std.specs.Str.{bytes_eq}
use Rattle.relay_text.specs.Bytes.{begins_with, ends_with}
use Rattle.relay_wire.specs.declared.finding.Finding.{Finding}
use Rattle.relay_wire.specs.declared.finding.Finding.TheVariants as found
use Rattle.relay_wire.specs.declared.finding.LineWord.{LineWord}
use Rattle.relay_wire.specs.declared.finding.LineWord.TheVariants as words
use Rattle.aliasplan_lint.specs.declared.kind.Kind.{Kind}
use Rattle.aliasplan_lint.specs.declared.kind.Kind.TheVariants.{BadItem, BadLine, Command, Duplicate, Empty, File, Loop, Missing, NoInclude, Setting, Unrouted}
use Rattle.aliasplan_lint.specs.declared.severity.Severity.{Severity}
use Rattle.aliasplan_lint.specs.declared.severity.Severity.TheVariants.{Error, Warning, Note}

abbrev pub kind_word : Kind → List ℕ
kind_word BadItem = codes "baditem"
kind_word BadLine = codes "badline"
kind_word Command = codes "command"
kind_word Duplicate = codes "duplicate"
kind_word Empty = codes "empty"
kind_word File = codes "file"
kind_word Loop = codes "loop"
kind_word Missing = codes "missing"
kind_word NoInclude = codes "noinclude"
kind_word Setting = codes "setting"
kind_word Unrouted = codes "unrouted"

abbrev pub severity_of : Kind → Severity
severity_of BadItem = Error
severity_of BadLine = Error
severity_of Command = Note
severity_of Duplicate = Warning
severity_of Empty = Warning
severity_of File = Note
severity_of Loop = Error
severity_of Missing = Error
severity_of NoInclude = Error
severity_of Setting = Note
severity_of Unrouted = Error

-- a duplicate of another file is noted
abbrev pub severity_where : Kind → Bool → Severity
severity_where Duplicate noted = if noted then Note else Warning
severity_where kind noted = severity_of kind

abbrev pub line_kind : LineWord → Kind
line_kind words.BadLine = BadLine
line_kind words.BadItem = BadItem
line_kind words.Duplicate = Duplicate
line_kind words.Empty = Empty

abbrev pub kind_of : Finding → Kind
kind_of (found.Missing name place) = Missing
kind_of (found.NoInclude path place) = NoInclude
kind_of (found.File path place) = File
kind_of (found.Command text place) = Command
kind_of (found.EmptyAlias name) = Empty
kind_of (found.EmptyInclude path) = Empty
kind_of (found.LoopAlias name) = Loop
kind_of (found.LoopInclude path) = Loop
kind_of (found.Unrouted address reason) = Unrouted
kind_of (found.Aliases line word) = line_kind word
kind_of (found.Include path line word) = line_kind word
kind_of (found.Mailboxes line word) = line_kind word
kind_of (found.Mx line word) = line_kind word
kind_of (found.Transport line word) = line_kind word

-- what stands behind `finding ` in a line
abbrev pub words_in : List ℕ → List ℕ
words_in line = if begins_with (codes "finding ") line then drop 8 line else line

-- The kind that words say: the first of them, or of the fault of a line the last.
abbrev pub fault_kind : List ℕ → Kind
fault_kind words =
    if ends_with (codes " baditem") words then BadItem
    else if ends_with (codes " duplicate") words then Duplicate
    else if ends_with (codes " empty") words then Empty
    else BadLine

abbrev pub last_kind : List ℕ → Kind
last_kind words =
    if begins_with (codes "noinclude ") words then NoInclude
    else if begins_with (codes "unrouted ") words then Unrouted
    else fault_kind words

abbrev pub later_kind : List ℕ → Kind
later_kind words =
    if begins_with (codes "loop ") words then Loop
    else if begins_with (codes "missing ") words then Missing
    else last_kind words

abbrev pub words_kind : List ℕ → Kind
words_kind words =
    if begins_with (codes "command ") words then Command
    else if begins_with (codes "empty ") words then Empty
    else if begins_with (codes "file ") words then File
    else later_kind words

abbrev pub kind_in : List ℕ → Kind
kind_in line = words_kind (words_in line)

abbrev pub is_kind : Kind → Kind → Bool
is_kind a b = bytes_eq (kind_word a) (kind_word b)

-- Whether a kind is told: addresses without a route where these are asked for, and no kind that is allowed.
abbrev pub is_kept : Bool → List Kind → Kind → Bool
is_kept routes allowed kind = if (routes || not (is_kind Unrouted kind)) then not (list_any (is_kind kind) allowed) else false
