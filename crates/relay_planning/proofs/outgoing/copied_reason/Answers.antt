use Rattle.std.proofs.Common.{◌≡◌, ◌∙◌, ap, refl, sym}
use Rattle.std.specs.Prelude.{None}
use Rattle.relay_routes.specs.declared.unrouted.Unrouted.{Unrouted}
use Rattle.relay_routes.specs.declared.unrouted.Unrouted.TheVariants.{Domain, MxSelf, Transport, Refused, NullMx, Memory}
use Rattle.relay_planning.specs.Report.{reason_of}
use Rattle.relay_planning.proofs.outgoing.copied_reason.Goals as goal

none_is_memory : (cause : Unrouted) → reason_of cause ≡ None → cause ≡ Memory
none_is_memory Domain e = absurd (cc)
none_is_memory MxSelf e = absurd (cc)
none_is_memory Transport e = absurd (cc)
none_is_memory (Refused text) e = absurd (cc)
none_is_memory NullMx e = absurd (cc)
none_is_memory Memory e = refl

pub unreachable-requires : goal.unreachable-requires
unreachable-requires c = c.requires.lasting (none_is_memory c.args.unrouted.now (ap reason_of (sym c.in_ok-copy.ensures) ∙ sym c.in-None.ensures))

pub returns : goal.returns
returns c = ap reason_of (sym c.in_ok-copy.ensures) ∙ sym c.in-Some.ensures
