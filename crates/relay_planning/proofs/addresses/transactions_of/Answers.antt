use Rattle.std.proofs.Common.{◌≡◌, ◌∙◌, ℕ, ap, subst}
use Rattle.std.specs.Prelude.{◌↔◌}
use Rattle.std.proofs.Math.Path.{fun_ext}
use Rattle.std.proofs.lemmas.Result.{IfOk-weaker}
use Rattle.relay_text.specs.AddressParts.{AddressParts}
use Rattle.relay_routes.specs.declared.route.Route.{Route}
use Rattle.relay_routes.specs.declared.transport.Transport.{Transport}
use Rattle.relay_delivery.specs.Groups as groups
use Rattle.relay_delivery.specs.Groups.{Sender, limit_at}
use Rattle.relay_delivery.specs.Placings.{senders_of, IsPlacedBy}
use Rattle.relay_delivery.proofs.SamePlaced.{transactions_over, sound_over, fewest_over}
use Rattle.relay_job.specs.Settings.{limit_of}
use Rattle.relay_planning.specs.Delivery.{IsPlaced}
use Rattle.relay_planning.proofs.addresses.transactions_of.Goals as goal

pub transactions-requires-clause-apart : goal.transactions-requires-clause-apart
transactions-requires-clause-apart g c κs lives = rw (c.as_slice.ensures.value, c.in_ok-senders.ensures) c.requires.apart

pub transactions-requires-clause-range : goal.transactions-requires-clause-range
transactions-requires-clause-range g c κs lives = rw (c.as_slice.ensures.value, c.in_ok-senders.ensures) c.requires.range

pub returns : goal.returns
returns g c =
    let job = c.args.job.now in
    let limit : Transport → ℕ = limit_of job.settings in
    let P : Sender → Route → AddressParts → Type 0 = IsPlacedBy (senders_of c.as_slice.result.now) c.args.routes.now c.args.recipients.now c.args.deliveries.items in
    let placed : (s : Sender) (r : Route) (a : AddressParts) → P s r a ↔ IsPlaced job s r a = λ s r a. rw (c.as_slice.ensures.value, c.in_ok-senders.ensures) (c.requires.placed s r a) in
    let same_limit : limit_at c.limits_of.result ≡ limit = fun_ext c.limits_of.ensures ∙ ap limit_of c.settings.ensures.settings in
    record {
      transactions =
          IfOk-weaker c.transactions.result _ _
          (λ ts is. transactions_over limit P (IsPlaced job) placed ts.items (subst (λ (l : Transport → ℕ). groups.AreTransactionsOf l P ts.items) same_limit is))
          c.transactions.ensures.transactions;
      sound =
          IfOk-weaker c.transactions.result _ _
          (λ ts is. sound_over limit P (IsPlaced job) placed ts.items (subst (λ (l : Transport → ℕ). groups.IsSoundFor l P ts.items) same_limit is))
          c.transactions.ensures.sound;
      fewest =
          IfOk-weaker c.transactions.result _ _
          (λ ts is. fewest_over limit P (IsPlaced job) placed ts.items (subst (λ (l : Transport → ℕ). groups.IsFewest l P ts.items) same_limit is))
          c.transactions.ensures.fewest;
    }
