-- What decides where an address goes, and what becomes of the exchangers that are looked up.
use Rattle.std.specs.Prelude.{ℕ, List, [], map, Option, Some, None, option_and_then, Result, Ok, Err}
use Rattle.relay_text.specs.AddressParts.{AddressParts}
use Rattle.relay_routes.specs.declared.deciding.DecidingLine.{DecidingLine}
use Rattle.relay_routes.specs.declared.destination.Destination.{Destination}
use Rattle.relay_routes.specs.declared.exchanger_fates.ExchangerLine.{ExchangerLine}
use Rattle.relay_routes.specs.declared.fate.Fate.{Fate as Known}
use Rattle.relay_routes.specs.declared.fate.Fate.TheVariants as known
use Rattle.relay_routes.specs.declared.unrouted.Unrouted.{Unrouted}
use Rattle.relay_routes.specs.DecidingLines.{deciding_line_of}
use Rattle.relay_routes.specs.Destinations.{destination_of, destination_via_of, looked_up_name}
use Rattle.relay_routes.specs.ExchangerLines.{exchanger_lines_of}
use Rattle.relay_tables.specs.declared.node.Node.{Node}
use Rattle.relay_tables.specs.declared.node.Node.TheVariants as nodes
use Rattle.relay_job.specs.declared.job.Job.{Job}
use Rattle.relay_explain.specs.declared.decision.Decision.{Decision}
use Rattle.relay_explain.specs.declared.record.Fate.{Fate}
use Rattle.relay_explain.specs.declared.record.Fate.TheVariants as fates
use Rattle.relay_explain.specs.declared.record.Record.{Record}
use Rattle.relay_explain.specs.declared.rule.Rule.{Rule}
use Rattle.relay_explain.specs.declared.rule.Rule.TheVariants as rules
use Rattle.relay_planning.specs.Delivery.{routing_of}

abbrev pub ok_of : Result Destination Unrouted → Option Destination
ok_of (Ok to) = Some to
ok_of (Err reason) = None

abbrev pub fate_at : Known → Fate
fate_at known.Host = fates.Host
fate_at known.Repeated = fates.Repeated
fate_at known.Own = fates.Own
fate_at known.Discarded = fates.Discarded
fate_at known.Null = fates.Null

abbrev pub record_at : ExchangerLine → Record
record_at l = record { line = l.line; preference = l.preference; host = l.host; fate = fate_at l.fate }

module _ (job : Job) where
  -- the line of the transport table that decides, or else the setting
  abbrev pub rule_by : Option DecidingLine → Rule
  rule_by None = rules.DefaultTransport job.settings.default_transport
  rule_by (Some l) = rules.Line l.line l.pattern l.result

  abbrev pub rule_for : AddressParts → Rule
  rule_for a = rule_by (deciding_line_of job.transport a job.settings.delimiter)

  -- the records of a name whose exchangers are looked up, in the order of the table
  abbrev pub records_of : Option (List ℕ) → List Record
  records_of None = []
  records_of (Some name) = map record_at (exchanger_lines_of job.mx name (routing_of job).settings.own_names)

  abbrev pub decision_by : Rule → Option Destination → Decision
  decision_by rule to = record {
    rule = rule;
    to = to;
    lookup = option_and_then looked_up_name to;
    records = records_of (option_and_then looked_up_name to);
  }

  -- Mailboxes go by their setting, and remote addresses by the tables. Other nodes go nowhere.
  abbrev pub decision_of : Node → Option Decision
  decision_of (nodes.Mailbox a) = Some (decision_by (rules.MailboxTransport job.settings.mailbox_transport) (ok_of (destination_via_of job.settings.mailbox_transport a)))
  decision_of (nodes.Remote a) = Some (decision_by (rule_for a) (ok_of (destination_of (routing_of job) a)))
  decision_of (nodes.Alias number) = None
  decision_of (nodes.Include number) = None
  decision_of (nodes.Missing name) = None
  decision_of (nodes.NoInclude path) = None
  decision_of (nodes.Command text) = None
  decision_of (nodes.File path) = None
