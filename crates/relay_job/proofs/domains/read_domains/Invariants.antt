use Rattle.std.proofs.Common.{◌≡◌, true, map}
use Rattle.std.specs.List.{list_all}
use Rattle.relay_text.specs.Bytes.{folded}
use Rattle.relay_text.specs.Addresses.{is_domain}
use Rattle.relay_job.proofs.domains.read_domains.Given as goal

-- The pieces that were passed are domains, and are there, folded.
abbrev pub invariant-loop-domain : goal.invariant-loop-domain
invariant-loop-domain l = record {
  good : list_all is_domain (map (λ piece. piece.now) l.yielded) ≡ true;
  kept : l.domains.items ≡ map folded (map (λ piece. piece.now) l.yielded);
}
