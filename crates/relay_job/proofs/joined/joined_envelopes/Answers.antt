use Rattle.relay_job.proofs.JoinedFacts.{joined-ok, joined-refused}
use Rattle.relay_job.proofs.joined.joined_envelopes.Goals as goal

pub returns : goal.returns
returns c = record { ok = joined-ok; refused = joined-refused }
