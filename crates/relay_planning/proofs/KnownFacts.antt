-- What becomes known of nodes.
use Rattle.std.proofs.Common.{◌≡◌, ◌≢◌, ◌⊎◌, ℕ, ◌<◌, List, [], ◌∷◌, ◌++◌, length, set, sym, ap, subst, ◌∙◌, inl, inr, arith, length-set, length-append, get_or, get_or-set_same, get_or-set_other}
use Rattle.std.specs.Prelude.{All, slice_get, Some, ◌↔◌, IsTrue}
use Rattle.std.proofs.lemmas.Bool.{cases_eq, cases_lt}
use Rattle.std.proofs.Math.ListN.{get_or-append}
use Rattle.std.proofs.Math.Seq.{get_or-append_seam}
use Rattle.std.proofs.lemmas.List.Elements.{All-push}
use Rattle.std.proofs.lemmas.Option.{same_Some, get_or_from_slice_get, slice_get-get_or, slice_get_past, slice_get_within}
use Rattle.relay_text.specs.Bytes.{has_text}
use Rattle.relay_routes.specs.declared.route.Route.{Route}
use Rattle.relay_tables.specs.declared.node.Node.{Node}
use Rattle.relay_tables.specs.GraphParts.{GraphParts}
use Rattle.relay_delivery.specs.declared.routed.Routed.{Routed}
use Rattle.relay_job.specs.declared.job.Job.{Job}
use Rattle.relay_planning.specs.declared.outgoing.Known.{Known}
use Rattle.relay_planning.specs.declared.outgoing.Known.TheVariants.{Unseen, Unrouted as NoRoute, Recipient}
use Rattle.relay_planning.specs.Routes.{IsLineOfNode, IsRecipient, IsWhatIsKnown, AreKnown, StayKnown}

pub get_set_same : {X : Type 0} (xs : List X) (i : ℕ) (x : X) → i < length xs → slice_get (set xs i x) i ≡ Some x
get_set_same xs i x inside = slice_get-get_or (set xs i x) i x (omega (arith, length-set xs i x, inside)) ∙ ap (λ y. Some y) (get_or-set_same xs i x x inside)

pub get_set_other : {X : Type 0} (xs : List X) (i j : ℕ) (x : X) → j ≢ i → slice_get (set xs i x) j ≡ slice_get xs j
get_set_other xs i j x apart =
    elim (cases_lt j (length xs)) [
      | inl inside ↦ slice_get-get_or (set xs i x) j x (omega (arith, length-set xs i x, inside)) ∙ ap (λ y. Some y) (get_or-set_other xs i j x x apart) ∙ sym (slice_get-get_or xs j x inside)
      | inr past ↦ slice_get_past (set xs i x) j (omega (arith, length-set xs i x, past)) ∙ sym (slice_get_past xs j past)
    ]

-- the elements of one list stand in the other at their places
abbrev pub Grows : {X : Type 0} → List X → List X → Type 0
Grows {X} xs ys = (n : ℕ) (x : X) → slice_get xs n ≡ Some x → slice_get ys n ≡ Some x

pub within_grows : {X : Type 0} (xs ys : List X) (n : ℕ) → Grows xs ys → n < length xs → n < length ys
within_grows [] ys n grows inside = absurd (omega (arith, inside))
within_grows (x ∷ xs) ys n grows inside =
    let at = slice_get-get_or (x ∷ xs) n x inside in
    slice_get_within ys n _ (grows n _ at)

pub grows_itself : {X : Type 0} (xs : List X) → Grows xs xs
grows_itself xs n x is = is

pub grows_push : {X : Type 0} (xs : List X) (y : X) → Grows xs (xs ++ y ∷ [])
grows_push xs y n x is =
    let inside = slice_get_within xs n x is in
    slice_get-get_or (xs ++ y ∷ []) n x (omega (arith, length-append xs (y ∷ []), inside)) ∙ ap (λ z. Some z) (get_or-append xs (y ∷ []) x n inside ∙ get_or_from_slice_get xs n x x is)

pub get_pushed : {X : Type 0} (xs : List X) (y : X) → slice_get (xs ++ y ∷ []) (length xs) ≡ Some y
get_pushed xs y = slice_get-get_or (xs ++ y ∷ []) (length xs) y (omega (arith, length-append xs (y ∷ []))) ∙ ap (λ z. Some z) (get_or-append_seam xs y [] y)

module _ (job : Job) where
  module _ (g : GraphParts) where
    pub known_grows : (routes routes' : List Route) (recipients recipients' : List Routed) (node : Node) (k : Known) → Grows routes routes' → Grows recipients recipients' → IsWhatIsKnown job g routes recipients node k → IsWhatIsKnown job g routes' recipients' node k
    known_grows routes routes' recipients recipients' node Unseen more further h = tt
    known_grows routes routes' recipients recipients' node NoRoute more further h = h
    known_grows routes routes' recipients recipients' node (Recipient n) more further h =
        (h.0, further n h.0 h.1, record { route = h.2.route; route_is = more h.0.route h.2.route h.2.route_is; address_is = h.2.address_is; routed = h.2.routed })

    pub recipient_pushed : (routes : List Route) (recipients : List Routed) (node : Node) (r : Routed) (n : ℕ) → n ≡ length recipients → IsRecipient job routes node r → IsWhatIsKnown job g routes (recipients ++ r ∷ []) node (Recipient n)
    recipient_pushed routes recipients node r n e is = (r, ap (slice_get (recipients ++ r ∷ [])) e ∙ get_pushed recipients r, is)

    -- recipients go by routes that were found, also when there are more of both
    pub routed_inside : (routes routes' : List Route) (recipients : List Routed) → Grows routes routes' → All (λ r. r.route < length routes) recipients → All (λ r. r.route < length routes') recipients
    routed_inside routes routes' recipients more inside k d below = within_grows routes routes' (get_or recipients k d).route more (inside k d below)

    pub routed_push : (routes routes' : List Route) (recipients : List Routed) (node : Node) (r : Routed) → Grows routes routes' → All (λ r. r.route < length routes) recipients → IsRecipient job routes' node r → All (λ r. r.route < length routes') (recipients ++ r ∷ [])
    routed_push routes routes' recipients node r more inside is = All-push (λ (x : Routed). x.route < length routes') recipients r (routed_inside routes routes' recipients more inside) (slice_get_within routes' r.route is.route is.route_is)

    -- a node that becomes known, with its line
    pub known_after : (routes routes' : List Route) (recipients recipients' : List Routed) (known : List Known) (lines lines' : List (List ℕ)) (i : ℕ) (node : Node) (k : Known)
        → AreKnown job g routes recipients known lines → Grows routes routes' → Grows recipients recipients' → All (λ r. r.route < length routes') recipients'
        → ((q : List ℕ) → IsTrue (has_text lines' q) ↔ (IsTrue (has_text lines q) ⊎ IsLineOfNode job node q))
        → slice_get g.nodes i ≡ Some node → i < length known → IsWhatIsKnown job g routes' recipients' node k → AreKnown job g routes' recipients' (set known i k) lines'
    known_after routes routes' recipients recipients' known lines lines' i node k old more further inside all at within new = record {
      len = length-set known i k ∙ old.len;
      each = λ n k' node' is here.
          elim (cases_eq n i) [
            | inl e ↦
                let same_k : k ≡ k' = same_Some k k' (sym (get_set_same known i k within) ∙ ap (slice_get (set known i k)) (sym e) ∙ is) in
                let same_node : node ≡ node' = same_Some node node' (sym at ∙ ap (slice_get g.nodes) (sym e) ∙ here) in
                subst (λ m. IsWhatIsKnown job g routes' recipients' m k') same_node (subst (λ x. IsWhatIsKnown job g routes' recipients' node x) same_k new)
            | inr apart ↦ known_grows routes routes' recipients recipients' node' k' more further (old.each n k' node' (sym (get_set_other known i n k apart) ∙ is) here)
          ];
      reported = λ n k' node' q is seen here line.
          elim (cases_eq n i) [
            | inl e ↦
                let same_node : node' ≡ node = same_Some node' node (sym here ∙ ap (slice_get g.nodes) e ∙ at) in
                (all q).1 (inr (subst (λ m. IsLineOfNode job m q) same_node line))
            | inr apart ↦ (all q).1 (inl (old.reported n k' node' q (sym (get_set_other known i n k apart) ∙ is) seen here line))
          ];
      in_routes = inside;
    }

pub stay_set : (known : List Known) (i : ℕ) (k : Known) → slice_get known i ≡ Some Unseen → StayKnown known (set known i k)
stay_set known i k unseen n k' is seen =
    elim (cases_eq n i) [
      | inl e ↦ absurd (seen (same_Some k' Unseen (sym is ∙ ap (slice_get known) e ∙ unseen)))
      | inr apart ↦ get_set_other known i n k apart ∙ is
    ]
