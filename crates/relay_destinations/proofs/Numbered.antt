-- Routes by destination, as more of them are found.
use Rattle.std.proofs.Common.{◌≡◌, ℕ, ◌<◌, List, [], ◌∷◌, ◌++◌, length, get_or, refl, sym, ap, ◌∙◌, subst, arith, inl, inr, Bool, true, false}
use Rattle.std.specs.Prelude.{◌≢◌, ◌⊎◌, Some, None, Result, Ok, slice_get, AllPairs}
use Rattle.std.specs.Str.{bytes_eq}
use Rattle.std.proofs.lemmas.Slice.Eq.{bytes_eq-Decides}
use Rattle.std.proofs.lemmas.Bool.{true≢false}
use Rattle.std.proofs.lemmas.Option.{slice_get-get_or}
use Rattle.relay_routes.specs.declared.route.Route.{Route}
use Rattle.relay_routes.specs.declared.transport.Transport.{Transport}
use Rattle.relay_routes.specs.declared.transport.Transport.TheVariants.{Smtp, Relay, Lmtp}
use Rattle.relay_routes.specs.declared.unrouted.Unrouted.{Unrouted}
use Rattle.relay_routes.specs.declared.unrouted.Unrouted.TheVariants.{Memory}
use Rattle.relay_routes.specs.Routes.{route_to}
use Rattle.relay_destinations.specs.declared.way.Way.{Way}
use Rattle.relay_destinations.specs.declared.way.Way.TheVariants.{To}
use Rattle.relay_destinations.specs.RoutesFound.{RoutesFound}
use Rattle.relay_destinations.specs.Ways.{Means, Keeps}
use Rattle.relay_destinations.specs.KnownWays.{way_in}
use Rattle.relay_destinations.specs.Numbering.{key_of, AreNumbered}
use Rattle.relay_destinations.proofs.Pairs.{pair_cases, pair_kept, pair_last}
use Rattle.relay_destinations.proofs.Meanings.{get_kept, get_last, get_cases, means_kept}

-- ---- a key is that of one destination
pub one_key : (t u : Transport) (n m : List ℕ) → key_of t n ≡ key_of u m → (t ≡ u) × (n ≡ m)
one_key Smtp Smtp n m h = (refl, (let same : n ≡ m = cc in same))
one_key Smtp Relay n m h = absurd (let bad : 115 ≡ 114 = ap (λ (key : List ℕ). get_or key 0 0) h in omega (arith, bad))
one_key Smtp Lmtp n m h = absurd (let bad : 115 ≡ 108 = ap (λ (key : List ℕ). get_or key 0 0) h in omega (arith, bad))
one_key Relay Smtp n m h = absurd (let bad : 114 ≡ 115 = ap (λ (key : List ℕ). get_or key 0 0) h in omega (arith, bad))
one_key Relay Relay n m h = (refl, (let same : n ≡ m = cc in same))
one_key Relay Lmtp n m h = absurd (let bad : 114 ≡ 108 = ap (λ (key : List ℕ). get_or key 0 0) h in omega (arith, bad))
one_key Lmtp Smtp n m h = absurd (let bad : 108 ≡ 115 = ap (λ (key : List ℕ). get_or key 0 0) h in omega (arith, bad))
one_key Lmtp Relay n m h = absurd (let bad : 108 ≡ 114 = ap (λ (key : List ℕ). get_or key 0 0) h in omega (arith, bad))
one_key Lmtp Lmtp n m h = (refl, (let same : n ≡ m = cc in same))

-- ---- routes are apart
same_number : (i j : ℕ) → Some (To i) ≡ Some (To j) → i ≡ j
same_number i j e = cc

transport_cases : (t u : Transport) → (t ≡ u) ⊎ (t ≢ u)
transport_cases Smtp Smtp = inl refl
transport_cases Smtp Relay = inr (λ h. let bad : ⊥ = cc in bad)
transport_cases Smtp Lmtp = inr (λ h. let bad : ⊥ = cc in bad)
transport_cases Relay Smtp = inr (λ h. let bad : ⊥ = cc in bad)
transport_cases Relay Relay = inl refl
transport_cases Relay Lmtp = inr (λ h. let bad : ⊥ = cc in bad)
transport_cases Lmtp Smtp = inr (λ h. let bad : ⊥ = cc in bad)
transport_cases Lmtp Relay = inr (λ h. let bad : ⊥ = cc in bad)
transport_cases Lmtp Lmtp = inl refl

nexthop_cases : (n m : List ℕ) → (n ≡ m) ⊎ (n ≢ m)
nexthop_cases n m = at (bytes_eq n m) refl where
  at : (b : Bool) → bytes_eq n m ≡ b → (n ≡ m) ⊎ (n ≢ m)
  at true e = inl ((bytes_eq-Decides n m).0 e)
  at false e = inr (λ same. true≢false (sym ((bytes_eq-Decides n m).1 same) ∙ e))

pub all_apart : (found : RoutesFound) (known : List (List ℕ × Way)) → AreNumbered found known
    → AllPairs (λ (r q : Route). (r.transport ≢ q.transport) ⊎ (r.nexthop ≢ q.nexthop)) found.routes
all_apart found known numbered i j d before within =
    let r = get_or found.routes i d in
    let q = get_or found.routes j d in
    let first : i < length found.routes = omega (arith, before, within) in
    let at_first = numbered.listed i r (slice_get-get_or found.routes i d first) in
    let at_second = numbered.listed j q (slice_get-get_or found.routes j d within) in
    elim (transport_cases r.transport q.transport) [
      | inr other ↦ inl other
      | inl transport ↦ elim (nexthop_cases r.nexthop q.nexthop) [
        | inr other ↦ inr other
        | inl nexthop ↦
            let key : key_of r.transport r.nexthop ≡ key_of q.transport q.nexthop = ap (λ (t : Transport). key_of t r.nexthop) transport ∙ ap (key_of q.transport) nexthop in
            let same : i ≡ j = same_number i j (sym at_first ∙ ap (way_in known) key ∙ at_second) in
            absurd (omega (arith, same, before))
      ]
    ]

-- ---- a new route, and a new reason
-- what is found with one route more, and with one reason more
abbrev pub with_route : RoutesFound → Route → RoutesFound
with_route found route = record { routing = found.routing; via = found.via; routes = found.routes ++ route ∷ []; reasons = found.reasons }

abbrev pub with_reason : RoutesFound → Unrouted → RoutesFound
with_reason found reason = record { routing = found.routing; via = found.via; routes = found.routes; reasons = found.reasons ++ reason ∷ [] }

pub route_kept : (found : RoutesFound) (route : Route) → Keeps found (with_route found route)
route_kept found route = record { routing = refl; via = refl; routes = λ n r h. get_kept found.routes route n r h; reasons = λ n r h. h }

pub reason_kept : (found : RoutesFound) (reason : Unrouted) → Keeps found (with_reason found reason)
reason_kept found reason = record { routing = refl; via = refl; routes = λ n r h. h; reasons = λ n r h. get_kept found.reasons reason n r h }

pub reason_numbered : (found : RoutesFound) (known : List (List ℕ × Way)) (reason : Unrouted) → AreNumbered found known → reason ≢ Memory → AreNumbered (with_reason found reason) known
reason_numbered found known reason numbered lasting = record {
  answers = λ transport nexthop way has. means_kept way (route_to found.routing transport nexthop) (reason_kept found reason) (numbered.answers transport nexthop way has);
  listed = numbered.listed;
  lasting = λ n r h. elim (get_cases found.reasons reason n r h) [ inl before ↦ numbered.lasting n r before | inr last ↦ subst (λ (x : Unrouted). x ≢ Memory) last.1 lasting ];
}

pub route_numbered : (found : RoutesFound) (known : List (List ℕ × Way)) (route : Route) (number : ℕ) → AreNumbered found known → number ≡ length found.routes
    → way_in known (key_of route.transport route.nexthop) ≡ None → route_to found.routing route.transport route.nexthop ≡ Ok route
    → AreNumbered (with_route found route) (known ++ (key_of route.transport route.nexthop, To number) ∷ [])
route_numbered found known route number numbered count new is =
    let key : List ℕ = key_of route.transport route.nexthop in
    let here : slice_get (found.routes ++ route ∷ []) number ≡ Some route = ap (slice_get (found.routes ++ route ∷ [])) count ∙ get_last found.routes route in
    record {
      answers = λ transport nexthop way has. elim (pair_cases known key (To number) (key_of transport nexthop) way has) [
        | inl before ↦ means_kept way (route_to found.routing transport nexthop) (route_kept found route) (numbered.answers transport nexthop way before)
        | inr last ↦
            let same = one_key transport route.transport nexthop route.nexthop last.0 in
            let there : route_to found.routing route.transport route.nexthop ≡ route_to found.routing transport nexthop =
            ap (λ (t : Transport). route_to found.routing t route.nexthop) (sym same.0) ∙ ap (route_to found.routing transport) (sym same.1) in
            subst (λ (t : Way). Means (with_route found route) t (route_to found.routing transport nexthop)) last.1
            (subst (λ (given : Result Route Unrouted). Means (with_route found route) (To number) given) (sym is ∙ there) here)
      ];
      listed = λ n r h. elim (get_cases found.routes route n r h) [
        | inl before ↦ pair_kept known key (To number) (key_of r.transport r.nexthop) (To n) (numbered.listed n r before)
        | inr last ↦
            ap (λ (x : Route). way_in (known ++ (key, To number) ∷ []) (key_of x.transport x.nexthop)) (sym last.1)
            ∙ pair_last known key (To number) new
            ∙ ap (λ (k : ℕ). Some (To k)) (count ∙ sym last.0)
      ];
      lasting = numbered.lasting;
    }

pub failure_numbered : (found : RoutesFound) (known : List (List ℕ × Way)) (transport : Transport) (nexthop : List ℕ) (way : Way) → AreNumbered found known
    → Means found way (route_to found.routing transport nexthop) → AreNumbered found (known ++ (key_of transport nexthop, way) ∷ [])
failure_numbered found known transport nexthop way numbered means = record {
  answers = λ t n other has. elim (pair_cases known (key_of transport nexthop) way (key_of t n) other has) [
    | inl before ↦ numbered.answers t n other before
    | inr last ↦
        let same = one_key t transport n nexthop last.0 in
        let there : route_to found.routing transport nexthop ≡ route_to found.routing t n =
        ap (λ (u : Transport). route_to found.routing u nexthop) (sym same.0) ∙ ap (route_to found.routing t) (sym same.1) in
        subst (λ (u : Way). Means found u (route_to found.routing t n)) last.1 (subst (λ (given : Result Route Unrouted). Means found way given) there means)
  ];
  listed = λ n r h. pair_kept known (key_of transport nexthop) way (key_of r.transport r.nexthop) (To n) (numbered.listed n r h);
  lasting = numbered.lasting;
}
