-- What one more pair adds to what is outgoing.
use Rattle.std.proofs.Common.{◌≡◌, ◌⊎◌, ℕ, ◌+◌, ◌<◌, List, [], ◌∷◌, ◌++◌, length, get_or, take, sym, ap, subst, ◌∙◌, inl, inr, arith}
use Rattle.std.specs.Prelude.{All, Contains, ◌↔◌, slice_get, Some}
use Rattle.std.proofs.lemmas.List.{take_more}
use Rattle.std.proofs.lemmas.List.Elements.{Contains-push, Contains-push_cases, Contains-append_left}
use Rattle.std.proofs.lemmas.Option.{same_Some, get_or_from_slice_get, slice_get_within}
use Rattle.relay_routes.specs.declared.route.Route.{Route}
use Rattle.relay_tables.specs.GraphParts.{GraphParts}
use Rattle.relay_pairs.specs.declared.reached.Reached.{Reached}
use Rattle.relay_delivery.specs.declared.delivery.Delivery.{Delivery}
use Rattle.relay_job.specs.declared.job.Job.{Job}
use Rattle.relay_planning.specs.declared.outgoing.Known.{Known}
use Rattle.relay_planning.specs.declared.outgoing.Known.TheVariants.{Unseen, Recipient}
use Rattle.relay_planning.specs.Routes.{IsWhatIsKnown, AreKnown, IsDeliveryOfPair, AreOutgoing, StayKnown}

-- some element is one of these and has P
abbrev pub Some_has : {X : Type 0} → (X → Type 0) → List X → Type 0
Some_has {X} P xs = (x : X) × Contains xs x × P x

module _ {X : Type 0} (P : X → Type 0) where
  pub some_push : (xs : List X) (y : X) → (Some_has P xs ⊎ P y) → Some_has P (xs ++ y ∷ [])
  some_push xs y (inl old) = (old.0, Contains-append_left xs (y ∷ []) old.0 old.1, old.2)
  some_push xs y (inr new) = (y, Contains-push xs y, new)

  pub some_from_push : (xs : List X) (y : X) → Some_has P (xs ++ y ∷ []) → Some_has P xs ⊎ P y
  some_from_push xs y h = elim (Contains-push_cases xs y h.0 h.1) [ inl old ↦ inl (h.0, old, h.2) | inr here ↦ inr (subst P (sym here) h.2) ]

  -- one more element of a list: what holds besides is P of it, and was O; A is what held at the start
  pub some_more : (ws : List X) (i : ℕ) (w : X) (A O N : Type 0) → i < length ws → get_or ws i w ≡ w
      → (O ↔ (A ⊎ Some_has P (take i ws))) → (N ↔ (O ⊎ P w)) → N ↔ (A ⊎ Some_has P (take (i + 1) ws))
  some_more ws i w A O N inside is old new =
      let pushed : take (i + 1) ws ≡ take i ws ++ w ∷ [] = take_more ws i w inside ∙ ap (λ x. take i ws ++ x ∷ []) is in
      let R : List X → Type 0 = λ xs. N ↔ (A ⊎ Some_has P xs) in
      subst R (sym pushed) (
        λ n. elim (new.0 n) [ inl o ↦ elim (old.0 o) [ inl a ↦ inl a | inr s ↦ inr (some_push (take i ws) w (inl s)) ] | inr p ↦ inr (some_push (take i ws) w (inr p)) ],
        λ either. elim either [
          | inl a ↦ new.1 (inl (old.1 (inl a)))
          | inr s ↦ elim (some_from_push (take i ws) w s) [ inl t ↦ new.1 (inl (old.1 (inr t))) | inr p ↦ new.1 (inr p) ]
        ],
      )

same_number : (m n : ℕ) → Recipient m ≡ Recipient n → m ≡ n
same_number m n e = cc

module _ (job : Job) (g : GraphParts) (pairs : List Reached) (known known' : List Known) (deliveries : List Delivery) (old : AreOutgoing job g pairs known deliveries) (stay : StayKnown known known') (pair : Reached) (k : Known) (at : slice_get known' pair.node ≡ Some k) (fresh : k ≡ Unseen → ⊥) where
  all_seen : (p : Reached) → Contains (pairs ++ pair ∷ []) p → (k' : Known) × (slice_get known' p.node ≡ Some k') × (k' ≡ Unseen → ⊥)
  all_seen p c =
      elim (Contains-push_cases pairs pair p c) [
        | inl early ↦ let s = old.seen p early in (s.0, stay p.node s.0 s.1 s.2, s.2)
        | inr here ↦ (k, ap (λ (x : Reached). slice_get known' x.node) (sym here) ∙ at, fresh)
      ]

  -- the deliveries of pairs that were seen stay what they are
  delivery_stays : (delivery : Delivery) (p : Reached) → IsDeliveryOfPair job g known delivery p → IsDeliveryOfPair job g known' delivery p
  delivery_stays delivery p h = record { under = h.under; goes = stay p.node (Recipient delivery.recipient) h.goes (λ e. absurd (let no : ⊥ = cc in no)) }

  delivery_was : (delivery : Delivery) (p : Reached) → Contains pairs p → IsDeliveryOfPair job g known' delivery p → IsDeliveryOfPair job g known delivery p
  delivery_was delivery p c h =
      let s = old.seen p c in
      let same : s.0 ≡ Recipient delivery.recipient = same_Some s.0 (Recipient delivery.recipient) (sym (stay p.node s.0 s.1 s.2) ∙ h.goes) in
      record { under = h.under; goes = s.1 ∙ ap (λ x. Some x) same }

  abbrev HasPair : List Reached → List Known → Delivery → Type 0
  HasPair ps ks delivery = (p : Reached) × Contains ps p × IsDeliveryOfPair job g ks delivery p

  from_new : (delivery : Delivery) → HasPair (pairs ++ pair ∷ []) known' delivery → Contains deliveries delivery ⊎ IsDeliveryOfPair job g known' delivery pair
  from_new delivery h =
      elim (Contains-push_cases pairs pair h.0 h.1) [
        | inl early ↦ inl ((old.deliveries_are delivery).1 (h.0, early, delivery_was delivery h.0 early h.2))
        | inr here ↦ inr (subst (λ x. IsDeliveryOfPair job g known' delivery x) (sym here) h.2)
      ]

  from_old : (delivery : Delivery) → Contains deliveries delivery → HasPair (pairs ++ pair ∷ []) known' delivery
  from_old delivery c =
      let h = (old.deliveries_are delivery).0 c in
      (h.0, Contains-append_left pairs (pair ∷ []) h.0 h.1, delivery_stays delivery h.0 h.2)

  -- a pair of a node that goes nowhere
  pub outgoing_none : ((n : ℕ) → k ≡ Recipient n → ⊥) → AreOutgoing job g (pairs ++ pair ∷ []) known' deliveries
  outgoing_none nowhere = record {
    seen = all_seen;
    deliveries_are = λ delivery. (
      from_old delivery,
      λ h. elim (from_new delivery h) [ inl early ↦ early | inr here ↦ absurd (nowhere delivery.recipient (same_Some k (Recipient delivery.recipient) (sym at ∙ here.goes))) ],
    );
  }

  -- a pair of a recipient
  pub outgoing_more : (n : ℕ) → k ≡ Recipient n → AreOutgoing job g (pairs ++ pair ∷ []) known' (deliveries ++ record { sender = pair.sender; recipient = n } ∷ [])
  outgoing_more n is = record {
    seen = all_seen;
    deliveries_are = λ delivery.
        let more : Delivery = record { sender = pair.sender; recipient = n } in (
          λ c. elim (Contains-push_cases deliveries more delivery c) [
            | inl early ↦ from_old delivery early
            | inr here ↦ (pair, Contains-push pairs pair, record { under = ap (λ (x : Delivery). x.sender) here; goes = at ∙ ap (λ x. Some x) (is ∙ ap (λ (x : Delivery). Recipient x.recipient) here) })
          ],
          λ h. elim (from_new delivery h) [
            | inl early ↦ Contains-append_left deliveries (more ∷ []) delivery early
            | inr here ↦
                let number : n ≡ delivery.recipient = same_number n delivery.recipient (sym is ∙ same_Some k (Recipient delivery.recipient) (sym at ∙ here.goes)) in
                let same : more ≡ delivery = ap (λ s. record { sender = s; recipient = n }) here.under ∙ ap (λ r. record { sender = delivery.sender; recipient = r }) number in
                subst (λ x. Contains (deliveries ++ more ∷ []) x) same (Contains-push deliveries more)
          ],
        );
  }

-- ---- nothing outgoing yet
module _ (job : Job) (g : GraphParts) where
  pub known_first : (routes : List Route) (known : List Known) (lines : List (List ℕ)) → length known ≡ length g.nodes → All (λ k. k ≡ Unseen) known → AreKnown job g routes [] known lines
  known_first routes known lines len unseen = record {
    len = len;
    each = λ n k node is here. subst (λ x. IsWhatIsKnown job g routes [] node x) (sym (unseen_at known n k unseen is)) tt;
    reported = λ n k node q is seen here line. absurd (seen (unseen_at known n k unseen is));
    in_routes = λ k d below. absurd (omega (arith, below));
  } where
    unseen_at : (known : List Known) (n : ℕ) (k : Known) → All (λ k. k ≡ Unseen) known → slice_get known n ≡ Some k → k ≡ Unseen
    unseen_at known n k unseen is = sym (get_or_from_slice_get known n k k is) ∙ unseen n k (slice_get_within known n k is)

  pub outgoing_first : (known : List Known) → AreOutgoing job g [] known []
  outgoing_first known = record {
    seen = λ p c. absurd (omega (arith, c.1));
    deliveries_are = λ delivery. (λ c. absurd (omega (arith, c.1)), λ h. absurd (omega (arith, h.1.1)));
  }
