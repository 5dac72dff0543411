-- Worked examples of the definitions, by computation.
use Rattle.std.proofs.Common.{◌≡◌, ◌++◌, ℕ, false, List, [], ◌∷◌, refl, codes, Some, None, Ok, Err}
use Rattle.relay_text.specs.Addresses.{spelling_of, path_of, local_text_of, is_domain}
use Rattle.relay_routes.specs.declared.transport.Transport.TheVariants.{Smtp, Lmtp}
use Rattle.relay_job.specs.declared.fault.RunFault.TheVariants.{BadJob, BadSetting, BadEnvelope}
use Rattle.relay_job.specs.JobText.{job_of, job_fault}
use Rattle.relay_job.specs.Envelopes.{envelope_of}

abbrev pub S : List ℕ
S = codes "%settings\nmyhostname = relay.example.org\nmyorigin = example.org\nmydestination = example.org, localhost\nrecipient_delimiter = +\ndefault_destination_recipient_limit = 50\nmailbox_transport = lmtp:unix:mbox\nseed = 0\n"

no_job : job_fault [] ≡ Some (BadEnvelope 0)
no_job = refl

no_heading : job_fault (codes "hello") ≡ Some (BadJob 1)
no_heading = refl

unknown_key : job_fault (codes "%settings\ncolour = red\n") ≡ Some (BadSetting 2)
unknown_key = refl

repeated_heading : job_fault (codes "%settings\n%settings\n") ≡ Some (BadJob 2)
repeated_heading = refl

no_sender : job_fault (S ++ codes "%envelope\nRCPT TO:<joe@example.org>\n") ≡ Some (BadEnvelope 10)
unfolding spelling_of path_of local_text_of is_domain
no_sender = refl

no_recipient : job_fault (S ++ codes "%envelope\nMAIL FROM:<>\n") ≡ Some (BadEnvelope 9)
unfolding spelling_of path_of local_text_of is_domain
no_recipient = refl

cut_recipient : job_fault (S ++ codes "%envelope\nMAIL FROM:<>\nRCPT TO:<joe@exam") ≡ Some (BadEnvelope 11)
unfolding spelling_of path_of local_text_of is_domain
cut_recipient = refl

-- an envelope's section by itself
section_alone : envelope_of (codes "example.org") (codes "\nMAIL FROM:<>\nRCPT TO:<joe@example.org>\n") ≡ Ok (record { sender = None; recipients = (record { local = codes "joe"; domain = codes "example.org" }) ∷ [] })
unfolding envelope_of spelling_of path_of local_text_of is_domain
section_alone = refl

section_cut : envelope_of (codes "example.org") (codes "MAIL FROM:<>\n") ≡ Err (BadEnvelope 0)
unfolding envelope_of spelling_of path_of local_text_of is_domain
section_cut = refl

section_broken : envelope_of (codes "example.org") (codes "\nMAIL FROM:<>\nRCPT TO:<joe@exam\n") ≡ Err (BadEnvelope 3)
unfolding envelope_of spelling_of path_of local_text_of is_domain
section_broken = refl

repeated_path : job_fault (codes "%include /a\n%include\t/a \n") ≡ Some (BadJob 2)
repeated_path = refl

no_path : job_fault (codes "%include a\n") ≡ Some (BadJob 1)
no_path = refl

percent : job_of (S ++ codes "%aliases\n%%x: joe\n%include /b\n%mailboxes\njoe\n%include  /a b\n%%x\n%envelope\nMAIL FROM:<>\nRCPT TO:<%x@example.org>\n") ≡ Ok (record {
  settings = record {
    hostname = codes "relay.example.org";
    origin = codes "example.org";
    destinations = codes "example.org" ∷ codes "localhost" ∷ [];
    delimiter = Some 43;
    smtp_limit = 50;
    relay_limit = 50;
    lmtp_limit = 50;
    default_transport = Smtp;
    mailbox_transport = record { transport = Lmtp; nexthop = Some (codes "unix:mbox") };
    seed = 0;
    expand = false;
  };
  aliases = codes "%x: joe\n";
  includes = record { path = codes "/b"; bytes = [] } ∷ record { path = codes "/a b"; bytes = codes "%x\n" } ∷ [];
  mailboxes = codes "joe\n";
  transport = [];
  mx = [];
  sender = None;
  recipients = record { local = codes "%x"; domain = codes "example.org" } ∷ [];
})
unfolding job_of spelling_of path_of local_text_of is_domain
percent = refl
