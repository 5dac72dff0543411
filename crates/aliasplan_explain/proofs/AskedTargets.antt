-- What is asked for has a target.
use Rattle.std.proofs.Common.{Bool, true, false, cond, refl, sym, subst, inl, inr}
use Rattle.std.specs.Prelude.{IsSome}
use Rattle.relay_text.specs.Bytes.{folded}
use Rattle.relay_text.specs.AddressParts.{AddressParts}
use Rattle.relay_tables.specs.declared.node.Node.{Node}
use Rattle.relay_tables.specs.declared.node.Node.TheVariants as nodes
use Rattle.relay_tables.specs.Directory.{Directory}
use Rattle.relay_tables.specs.Targets.{at_origin, is_local_address}
use Rattle.relay_job.specs.declared.job.Job.{Job}
use Rattle.relay_explain.specs.declared.asked.Asked.{Asked}
use Rattle.relay_explain.specs.declared.asked.Asked.TheVariants as asked
use Rattle.relay_planning.specs.Delivery.{directory_of}
use Rattle.aliasplan_explain.specs.Targets.{target_at, delivered, IsAskedFor}
use Rattle.aliasplan_explain.proofs.TargetFacts.{stands_has_target}

-- an address that mail is delivered to
delivered_has_target : (d : Directory) (a : AddressParts) → IsSome (target_at d (delivered d a))
delivered_has_target d a = at (is_local_address d.local a) where
  at : (b : Bool) → IsSome (target_at d (cond b (nodes.Mailbox (at_origin d (folded a.local))) (nodes.Remote a)))
  at true = refl
  at false = refl

pub asked_has_target : (job : Job) (q : Asked) (node : Node) → IsAskedFor job q node → IsSome (target_at (directory_of job) node)
asked_has_target job (asked.Name a) node h = subst (λ (n : Node). IsSome (target_at (directory_of job) n)) (sym h) (stands_has_target (directory_of job) (asked.Name a))
asked_has_target job (asked.Address a) node (inl h) = subst (λ (n : Node). IsSome (target_at (directory_of job) n)) (sym h.1) (delivered_has_target (directory_of job) a)
asked_has_target job (asked.Address a) node (inr h) =
    subst (λ (n : Node). IsSome (target_at (directory_of job) n)) (sym h.1) (stands_has_target (directory_of job) (asked.Address a))
