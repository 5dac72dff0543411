-- Worked examples of the definitions, by computation.
use Rattle.std.proofs.Common.{◌≡◌, [], ◌∷◌, ◌++◌, refl, codes, Some}
use Rattle.std.specs.Fmt.{digits}
use Rattle.relay_routes.specs.declared.transport.Transport.TheVariants.{Lmtp}
use Rattle.relay_text.specs.Addresses.{local_text_of}
use Rattle.relay_wire.specs.declared.plan.Planned.{Planned}
use Rattle.relay_wire.specs.declared.plan.Plan.{Plan}
use Rattle.relay_wire.specs.declared.finding.Finding.TheVariants.{Missing, Unrouted, Aliases}
use Rattle.relay_wire.specs.declared.finding.Place.TheVariants as places
use Rattle.relay_wire.specs.declared.finding.Reason.TheVariants as reasons
use Rattle.relay_wire.specs.declared.finding.LineWord.TheVariants as words
use Rattle.relay_wire.specs.Json.{json_byte, json_string}
use Rattle.relay_wire.specs.JsonPlan.{json_text_of}
use Rattle.relay_wire.specs.PlanText.{plan_text_of, wire_text_of}
use Rattle.relay_wire.specs.Findings.{finding_text_of}

abbrev pub to_mailbox : Planned
to_mailbox = record {
  from = Some (record { local = codes "a"; domain = codes "example.net" });
  transport = Lmtp;
  nexthop = codes "unix:mbox";
  hosts = codes "unix:mbox" ∷ [];
  to = record { local = codes "joe"; domain = codes "example.org" } ∷ [];
}

abbrev pub one_mailbox : Plan
one_mailbox = record { hostname = codes "relay.example.org"; transactions = to_mailbox ∷ []; findings = [] }

plan_lines : plan_text_of one_mailbox ≡ codes "plan 1 transactions 1 recipients 0 findings\ntransaction 1\nfrom <a@example.net>\nvia lmtp unix:mbox\nhost unix:mbox\nto <joe@example.org>\nend\n"
unfolding digits local_text_of
plan_lines = refl

wire_lines : wire_text_of one_mailbox ≡ codes "plan 1 transactions 1 recipients 0 findings\ntransaction 1\nvia lmtp unix:mbox\nhost unix:mbox\nscript 84\nLHLO relay.example.org\r\nMAIL FROM:<a@example.net>\r\nRCPT TO:<joe@example.org>\r\nDATA\r\nend\n"
unfolding digits local_text_of
wire_lines = refl

json_line : json_text_of one_mailbox ≡ codes "{\"plan\":{\"transactions\":1,\"recipients\":1,\"findings\":0},\"transactions\":[{\"transaction\":1,\"from\":\"<a@example.net>\",\"transport\":\"lmtp\",\"nexthop\":\"unix:mbox\",\"hosts\":[\"unix:mbox\"],\"recipients\":[\"<joe@example.org>\"]}],\"findings\":[]}\n"
unfolding digits local_text_of json_string json_byte
json_line = refl

json_escapes : json_string (codes "a\"\\\n" ++ 1 ∷ 127 ∷ 200 ∷ []) ≡ codes "\"a\\\"\\\\\\n\\u0001" ++ 127 ∷ codes "\\u00c8\""
unfolding json_string json_byte
json_escapes = refl

missing_line : finding_text_of (Missing (codes "kim") (places.Alias (codes "a b"))) ≡ codes "finding missing kim in alias \"a b\""
unfolding local_text_of
missing_line = refl

refused_line : finding_text_of (Unrouted (record { local = codes "u"; domain = codes "example.com" }) (reasons.Refused (codes "no mail"))) ≡ codes "finding unrouted <u@example.com> refused no mail"
unfolding local_text_of
refused_line = refl

fault_line : finding_text_of (Aliases 12 words.Duplicate) ≡ codes "finding aliases line 12 duplicate"
unfolding digits local_text_of
fault_line = refl
