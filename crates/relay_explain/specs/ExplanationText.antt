-- The text of an explanation.
use Rattle.std.specs.Prelude.{ℕ, List, [], ◌∷◌, ◌++◌, map, flat_map, length, codes, decimal, Option, Some, None}
use Rattle.std.specs.List.{enumerate_from}
use Rattle.relay_text.specs.AddressParts.{AddressParts}
use Rattle.relay_text.specs.Addresses.{local_text_of, path_text_of}
use Rattle.relay_routes.specs.Transports.{transport_name}
use Rattle.relay_routes.specs.declared.via.Via.{Via}
use Rattle.relay_routes.specs.declared.destination.Destination.{Destination}
use Rattle.relay_wire.specs.Findings.{after_spaces, reason_words}
use Rattle.relay_wire.specs.PlanText.{line, lines_of}
use Rattle.relay_explain.specs.declared.asked.Asked.{Asked}
use Rattle.relay_explain.specs.declared.asked.Asked.TheVariants as asked
use Rattle.relay_explain.specs.declared.entry.Entry.{Entry}
use Rattle.relay_explain.specs.declared.entry.Entry.TheVariants as entries
use Rattle.relay_explain.specs.declared.target.Target.{Target}
use Rattle.relay_explain.specs.declared.target.Target.TheVariants as targets
use Rattle.relay_explain.specs.declared.listed.Listed.{Listed}
use Rattle.relay_explain.specs.declared.step.Mention.{Mention}
use Rattle.relay_explain.specs.declared.step.Mention.TheVariants.{Recipient, Item}
use Rattle.relay_explain.specs.declared.step.Step.{Step}
use Rattle.relay_explain.specs.declared.rule.Rule.{Rule}
use Rattle.relay_explain.specs.declared.rule.Rule.TheVariants.{DefaultTransport, MailboxTransport, Line}
use Rattle.relay_explain.specs.declared.record.Fate.{Fate}
use Rattle.relay_explain.specs.declared.record.Fate.TheVariants.{Host, Repeated, Own, Discarded, Null}
use Rattle.relay_explain.specs.declared.record.Record.{Record}
use Rattle.relay_explain.specs.declared.decision.Decision.{Decision}
use Rattle.relay_explain.specs.declared.given_by.GivenBy.{GivenBy}
use Rattle.relay_explain.specs.declared.given_by.GivenBy.TheVariants as given
use Rattle.relay_explain.specs.declared.outcome.Outcome.{Outcome}
use Rattle.relay_explain.specs.declared.outcome.Outcome.TheVariants.{Transaction, Unrouted}
use Rattle.relay_explain.specs.Explanations.{Answer}
use Rattle.relay_explain.specs.Explanations.{Explanation}

abbrev pub asked_words : Asked → List (List ℕ)
asked_words (asked.Address a) = path_text_of (Some a) ∷ []
asked_words (asked.Name a) = local_text_of a.local ∷ []

abbrev pub entry_words : Entry → List (List ℕ)
entry_words (entries.Alias name) = codes "alias" ∷ local_text_of name ∷ []
entry_words (entries.Include path) = codes "include" ∷ path ∷ []

abbrev pub target_words : Target → List (List ℕ)
target_words (targets.Alias name) = codes "alias" ∷ local_text_of name ∷ []
target_words (targets.Include path) = codes "include" ∷ path ∷ []
target_words (targets.To a) = codes "to" ∷ path_text_of (Some a) ∷ []
target_words (targets.Missing name) = codes "missing" ∷ local_text_of name ∷ []
target_words (targets.NoInclude path) = codes "noinclude" ∷ path ∷ []
target_words (targets.Command text) = codes "command" ∷ text ∷ []
target_words (targets.File path) = codes "file" ∷ path ∷ []

-- an item: where it stands, and its text
abbrev pub place_words : ℕ → ℕ → List ℕ → List (List ℕ)
place_words line item text = codes "line" ∷ decimal line ∷ codes "item" ∷ decimal item ∷ text ∷ []

abbrev pub listed_text : Listed → List ℕ
listed_text l = after_spaces (entry_words l.entry) ++ after_spaces (place_words l.line l.item l.text)

-- a step: where its target is named, and the target
abbrev pub mention_text : Mention → List ℕ
mention_text (Recipient line a) = after_spaces (codes "envelope line" ∷ decimal line ∷ path_text_of (Some a) ∷ [])
mention_text (Item l) = listed_text l

abbrev pub is_text : Target → List ℕ
is_text target = after_spaces (codes "is" ∷ target_words target)

abbrev pub step_line : Step → List ℕ
step_line s = codes "step" ++ mention_text s.mention ++ is_text s.target

-- the step by an item of one alias to another
abbrev pub alias_step : List ℕ → ℕ → ℕ → List ℕ → List ℕ → Step
alias_step from line item text to = record {
  mention = Item (record { entry = entries.Alias from; line = line; item = item; text = text });
  target = targets.Alias to;
}

-- a sender, and where it comes from
abbrev pub given_words : GivenBy → List (List ℕ)
given_words given.Envelope = codes "envelope" ∷ []
given_words (given.Alias name line) = codes "alias" ∷ local_text_of name ∷ codes "line" ∷ decimal line ∷ []

abbrev pub from_line : Option AddressParts → GivenBy → List ℕ
from_line from given_by = codes "from" ++ after_spaces (path_text_of from ∷ given_words given_by)

-- what decides the route: a setting and its value, or a line of the transport table
abbrev pub nexthop_text : Option (List ℕ) → List ℕ
nexthop_text None = []
nexthop_text (Some nexthop) = 58 ∷ nexthop

abbrev pub via_text : Via → List ℕ
via_text via = 32 ∷ (transport_name via.transport ++ nexthop_text via.nexthop)

unfoldable pub table_text : ℕ → List ℕ → List ℕ → List ℕ
table_text number pattern result = after_spaces (decimal number ∷ pattern ∷ result ∷ [])

abbrev pub rule_text : Rule → List ℕ
rule_text (DefaultTransport transport) = after_spaces (codes "setting default_transport" ∷ transport_name transport ∷ [])
rule_text (MailboxTransport via) = codes " setting mailbox_transport" ++ via_text via
rule_text (Line number pattern result) = codes " transport line" ++ table_text number pattern result

abbrev pub route_line : Rule → List ℕ
route_line rule = codes "route" ++ rule_text rule

abbrev pub via_lines : Option Destination → List ℕ
via_lines None = []
via_lines (Some to) = line (codes "via" ++ after_spaces (transport_name to.transport ∷ to.nexthop ∷ []))

abbrev pub lookup_lines : Option (List ℕ) → List ℕ
lookup_lines None = []
lookup_lines (Some name) = line (codes "lookup mx" ++ after_spaces (name ∷ []))

abbrev pub fate_word : Fate → List ℕ
fate_word Host = codes "host"
fate_word Repeated = codes "repeated"
fate_word Own = codes "own"
fate_word Discarded = codes "discarded"
fate_word Null = codes "null"

abbrev pub record_words : Record → List (List ℕ)
record_words r = decimal r.line ∷ decimal r.preference ∷ r.host ∷ fate_word r.fate ∷ []

unfoldable pub record_text : Record → List ℕ
record_text r = after_spaces (record_words r)

abbrev pub record_line : Record → List ℕ
record_line r = codes "record mx line" ++ record_text r

abbrev pub decision_text : Decision → List ℕ
decision_text d = line (route_line d.rule) ++ via_lines d.to ++ lookup_lines d.lookup ++ lines_of (map record_line d.records)

abbrev pub decision_lines : Option Decision → List ℕ
decision_lines None = []
decision_lines (Some d) = decision_text d

-- what becomes of an address
abbrev pub outcome_line : Outcome → List ℕ
outcome_line (Transaction number) = codes "transaction" ++ after_spaces (decimal number ∷ [])
outcome_line (Unrouted reason) = codes "unrouted" ++ after_spaces (reason_words reason)

abbrev pub outcome_lines : Option Outcome → List ℕ
outcome_lines None = []
outcome_lines (Some outcome) = line (outcome_line outcome)

-- an answer under its number
abbrev pub chain_text : Answer → List ℕ
chain_text a = lines_of (map step_line a.steps) ++ line (from_line a.from a.given_by)

abbrev pub answer_line : ℕ → Target → List ℕ
answer_line number target = codes "answer" ++ after_spaces (decimal number ∷ target_words target)

abbrev pub answer_text : Target → Option Decision → ℕ → Answer → List ℕ
answer_text target decision number a = line (answer_line number target) ++ chain_text a ++ decision_lines decision ++ outcome_lines a.outcome

abbrev pub answers_text : Target → Option Decision → List (ℕ × Answer) → List ℕ
answers_text target decision answers = flat_map (λ a. answer_text target decision a.0 a.1) answers

-- Where there is no answer: the items that would lead there, and what the asked name or address stands for.
abbrev pub unreached_line : Listed → List ℕ
unreached_line l = codes "unreached" ++ listed_text l

abbrev pub stands_line : Target → List ℕ
stands_line target = codes "stands for" ++ after_spaces (target_words target)

abbrev pub why_not : List Listed → Target → List Answer → List ℕ
why_not unreached target [] = lines_of (map unreached_line unreached) ++ line (stands_line target)
why_not unreached target (a ∷ more) = []

abbrev pub explain_line : Asked → ℕ → List ℕ
explain_line question answers = codes "explain" ++ after_spaces (asked_words question) ++ after_spaces (codes "answers" ∷ decimal answers ∷ [])

abbrev pub explanation_text_of : Explanation → List ℕ
explanation_text_of e =
    line (explain_line e.asked (length e.answers))
    ++ answers_text e.target e.decision (enumerate_from 1 e.answers)
    ++ why_not e.unreached e.stands_for e.answers
    ++ line (codes "end")
