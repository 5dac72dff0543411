-- Transactions that have an address, and what becomes of a node.
use Rattle.std.proofs.Common.{◌≡◌, ℕ, ◌+◌, ◌<◌, ◌≤◌, inl, inr, Some, Result, Ok, List, [], ◌∷◌, ◌++◌, length, slice_get, get_or, refl, sym, ap, ◌∙◌, subst, arith}
use Rattle.std.specs.Prelude.{Contains, ◌↔◌, IfOk, option_map}
use Rattle.std.proofs.lemmas.Bool.{cases_lt}
use Rattle.std.proofs.lemmas.List.Elements.{Contains-append_left, Contains-push, Contains-push_cases}
use Rattle.std.proofs.lemmas.Option.{same_Some, slice_get_within, slice_get-get_or, slice_get_read}
use Rattle.std.proofs.lemmas.Result.{IfOk-weaker}
use Rattle.relay_text.specs.AddressParts.{AddressParts}
use Rattle.relay_routes.specs.declared.route.Route.{Route}
use Rattle.relay_routes.specs.declared.unrouted.Unrouted.{Unrouted as Cause}
use Rattle.relay_routes.specs.Routes.{Answers, route_of, route_via_of}
use Rattle.relay_routes.specs.Routing.{Routing}
use Rattle.relay_tables.specs.Senders.{Sender}
use Rattle.relay_tables.specs.declared.node.Node.{Node}
use Rattle.relay_tables.specs.declared.node.Node.TheVariants.{Mailbox, Remote}
use Rattle.relay_wire.specs.declared.plan.Planned.{Planned}
use Rattle.relay_wire.specs.declared.plan.Plan.{Plan}
use Rattle.relay_job.specs.declared.job.Job.{Job}
use Rattle.relay_delivery.specs.Groups.{DeliveryKey}
use Rattle.relay_planning.specs.Delivery.{routing_of, final_address, final_route, IsReachedPair}
use Rattle.relay_planning.specs.Plans.{IsSoundFor}
use Rattle.aliasplan_explain.specs.declared.ending.Ending.{Ending}
use Rattle.aliasplan_explain.specs.Endings.{HasAt, AreIndices, IsEnding}
use Rattle.aliasplan_explain.specs.Explanations.{IsIn}

-- these are the indices of those of the first n transactions that have the address
abbrev pub AreIndicesBelow : List Planned → AddressParts → ℕ → List ℕ → Type 0
AreIndicesBelow transactions a n indices = (k : ℕ) → Contains indices k ↔ ((k < n) × HasAt transactions a k)

pub one_more : (transactions : List Planned) (a : AddressParts) (n : ℕ) (indices : List ℕ) (t : Planned) → slice_get transactions n ≡ Some t → Contains t.to a
    → AreIndicesBelow transactions a n indices → AreIndicesBelow transactions a (n + 1) (indices ++ n ∷ [])
one_more transactions a n indices t at has were k = (forward, back) where
  forward : Contains (indices ++ n ∷ []) k → (k < n + 1) × HasAt transactions a k
  forward there =
      elim (Contains-push_cases indices n k there) [
        | inl before ↦ let w = (were k).0 before in (omega (arith, w.0), w.1)
        | inr is ↦ (omega (arith, is), subst (λ (i : ℕ). HasAt transactions a i) is (t, at, has))
      ]

  back : (k < n + 1) × HasAt transactions a k → Contains (indices ++ n ∷ []) k
  back (below, is) =
      elim (cases_lt k n) [
        | inl before ↦ Contains-append_left indices (n ∷ []) k ((were k).1 (before, is))
        | inr past ↦ let same : n ≡ k = omega arith in subst (λ (i : ℕ). Contains (indices ++ n ∷ []) i) same (Contains-push indices n)
      ]

pub no_more : (transactions : List Planned) (a : AddressParts) (n : ℕ) (indices : List ℕ) (t : Planned) → slice_get transactions n ≡ Some t → (Contains t.to a → ⊥)
    → AreIndicesBelow transactions a n indices → AreIndicesBelow transactions a (n + 1) indices
no_more transactions a n indices t at hasnt were k = (forward, back) where
  forward : Contains indices k → (k < n + 1) × HasAt transactions a k
  forward there = let w = (were k).0 there in (omega (arith, w.0), w.1)

  back : (k < n + 1) × HasAt transactions a k → Contains indices k
  back (below, is) =
      elim (cases_lt k n) [
        | inl before ↦ (were k).1 (before, is)
        | inr past ↦
            let same : k ≡ n = omega arith in
            let here : is.0 ≡ t = same_Some is.0 t (sym is.1 ∙ ap (slice_get transactions) same ∙ at) in
            absurd (hasnt (subst (λ (p : Planned). Contains p.to a) here is.2))
      ]

pub all_indices : (transactions : List Planned) (a : AddressParts) (n : ℕ) (indices : List ℕ) → length transactions ≤ n
    → AreIndicesBelow transactions a n indices → AreIndices transactions a indices
all_indices transactions a n indices whole were k =
    (λ there. ((were k).0 there).1, λ is. (were k).1 (let below = slice_get_within transactions k is.0 is.1 in omega arith, is))

-- the ending by the route that a router gives is the node's
pub mailbox_ending : (job : Job) (plan : Plan) (node : Node) (a : AddressParts) (router : Routing) (found : Result Route Cause) → {E : Type 0} (r : Result Ending E)
    → node ≡ Mailbox a → router ≡ routing_of job → Answers found (route_via_of router job.settings.mailbox_transport a)
    → IfOk r (λ ending. (n : Node) → final_address job n ≡ Some a → (given : Result Route Cause) → final_route job n ≡ Some given → Answers found given → IsEnding job plan n ending)
    → IfOk r (IsEnding job plan node)
mailbox_ending job plan node a router found r is routing answer ensured =
    IfOk-weaker r (λ ending. (n : Node) → final_address job n ≡ Some a → (given : Result Route Cause) → final_route job n ≡ Some given → Answers found given → IsEnding job plan n ending) (IsEnding job plan node)
    (λ ending by.
    by node (ap (final_address job) is) (route_via_of (routing_of job) job.settings.mailbox_transport a) (ap (final_route job) is)
    (subst (λ (x : Routing). Answers found (route_via_of x job.settings.mailbox_transport a)) routing answer))
    ensured

pub remote_ending : (job : Job) (plan : Plan) (node : Node) (a : AddressParts) (router : Routing) (found : Result Route Cause) → {E : Type 0} (r : Result Ending E)
    → node ≡ Remote a → router ≡ routing_of job → Answers found (route_of router a)
    → IfOk r (λ ending. (n : Node) → final_address job n ≡ Some a → (given : Result Route Cause) → final_route job n ≡ Some given → Answers found given → IsEnding job plan n ending)
    → IfOk r (IsEnding job plan node)
remote_ending job plan node a router found r is routing answer ensured =
    IfOk-weaker r (λ ending. (n : Node) → final_address job n ≡ Some a → (given : Result Route Cause) → final_route job n ≡ Some given → Answers found given → IsEnding job plan n ending) (IsEnding job plan node)
    (λ ending by.
    by node (ap (final_address job) is) (route_of (routing_of job) a) (ap (final_route job) is)
    (subst (λ (x : Routing). Answers found (route_of x a)) routing answer))
    ensured

-- the transaction of an index, under its sender
pub is_in : (transactions : List Planned) (sender : Sender) (a : AddressParts) (indices : List ℕ) (index number : ℕ) → AreIndices transactions a indices → Contains indices index
    → number ≡ index + 1 → option_map (λ (t : Planned). t.from) (slice_get transactions index) ≡ Some sender → IsIn transactions sender a number
is_in transactions sender a indices index number all there number_is from =
    let has = (all index).0 there in
    let at : option_map (λ (t : Planned). t.from) (slice_get transactions index) ≡ Some has.0.from = ap (option_map (λ (t : Planned). t.from)) has.1 in
    record { before = index; number_is = number_is; transaction = has.0; at = has.1; from = same_Some has.0.from sender (sym at ∙ from); to = has.2 }

-- what is placed is in some transaction
pub some_index : (job : Job) (transactions : List Planned) (node : Node) (a : AddressParts) (route : Route) (sender : Sender) (indices : List ℕ) → IsSoundFor job transactions
    → IsReachedPair job (record { sender = sender; node = node }) → final_address job node ≡ Some a → final_route job node ≡ Some (Ok route) → AreIndices transactions a indices
    → (index : ℕ) × Contains indices index × (option_map (λ (t : Planned). t.from) (slice_get transactions index) ≡ Some sender)
some_index job transactions node a route sender indices sound reached address routed all =
    let key : DeliveryKey = record { sender = sender; transport = route.transport; nexthop = route.nexthop } in
    let found = sound.complete key a (route, record { node = node; reached = reached; address = address; routed = routed }, refl, refl) in
    let place = found.1 in
    let at : slice_get transactions place.0 ≡ Some found.0 = slice_get-get_or transactions place.0 found.0 place.1 ∙ ap (λ (t : Planned). Some t) place.2 in
    (place.0, (all place.0).1 (found.0, at, found.3), ap (option_map (λ (t : Planned). t.from)) at ∙ ap (λ (k : DeliveryKey). Some k.sender) found.2)

-- the transactions of the indices are there
pub within : (transactions : List Planned) (a : AddressParts) (indices : List ℕ) → AreIndices transactions a indices → (index : ℕ) → Contains indices index → index < length transactions
within transactions a indices all index there = let has = (all index).0 there in slice_get_within transactions index has.0 has.1

-- the same of equal lists
pub indices_along : (transactions others : List Planned) (a : AddressParts) (indices more : List ℕ) → others ≡ transactions → more ≡ indices → AreIndices transactions a indices → AreIndices others a more
indices_along transactions others a indices more same_transactions same_indices all =
    subst (λ (ts : List Planned). AreIndices ts a more) (sym same_transactions) (subst (AreIndices transactions a) (sym same_indices) all)

-- the sender of a transaction that is read
pub sender_read : (transactions : List Planned) (i : ℕ) (t : Planned) (sender : Sender) → i < length transactions → t ≡ get_or transactions i t → t.from ≡ sender
    → option_map (λ (p : Planned). p.from) (slice_get transactions i) ≡ Some sender
sender_read transactions i t sender below is from =
    ap (option_map (λ (p : Planned). p.from)) (slice_get_read transactions (length transactions) i t refl below is) ∙ ap (λ (s : Sender). Some s) from

pub sender_back : (transactions : List Planned) (i : ℕ) (t : Planned) (sender : Sender) → i < length transactions → t ≡ get_or transactions i t
    → option_map (λ (p : Planned). p.from) (slice_get transactions i) ≡ Some sender → t.from ≡ sender
sender_back transactions i t sender below is e =
    same_Some t.from sender (sym (sender_read transactions i t t.from below is refl) ∙ e)
