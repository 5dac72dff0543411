-- What a finder of routes keeps of the domains that it looked up.
use Rattle.std.proofs.Common.{◌≡◌, ℕ, ◌<◌, List, [], length, map, get_or, refl, sym, ap, ◌∙◌, arith}
use Rattle.std.specs.Prelude.{Result, Ok, Err, Some}
use Rattle.std.specs.Str.{bytes_eq}
use Rattle.std.proofs.lemmas.List.{get_or-map, length-map}
use Rattle.std.proofs.lemmas.List.Quantifiers.{position-Some}
use Rattle.std.proofs.lemmas.Slice.Eq.{bytes_eq-Decides}
use Rattle.relay_chains.specs.Keys.{number_of}
use Rattle.relay_routes.specs.declared.unrouted.Unrouted.{Unrouted}
use Rattle.relay_routes.specs.declared.unrouted.Unrouted.TheVariants.{Domain, MxSelf, Transport, Refused, NullMx, Memory}
use Rattle.relay_routes.specs.Routing.{Routing}
use Rattle.relay_routes.specs.Routes.{Answers, exchangers_of}

-- a domain that has a number stands there
domain_there : (ds : List (List ℕ)) (d : List ℕ) (n : ℕ) → number_of bytes_eq ds d ≡ Some n → (n < length ds) × (d ≡ get_or ds n [])
domain_there ds d n h = let at = position-Some (bytes_eq d) ds n [] h in (at.0, (bytes_eq-Decides d (get_or ds n [])).0 at.1)

-- an answer answers itself
pub answers_itself : {A : Type 0} (given : Result A Unrouted) → Answers given given
answers_itself (Ok a) = refl
answers_itself (Err Domain) = refl
answers_itself (Err MxSelf) = refl
answers_itself (Err Transport) = refl
answers_itself (Err (Refused text)) = refl
answers_itself (Err NullMx) = refl
answers_itself (Err Memory) = tt

module _ (r : Routing) (domains : List (List ℕ)) (found : List (Result (List (List ℕ)) Unrouted)) (kept : found ≡ map (exchangers_of r) domains) where
  -- what stands at a domain's number
  pub found_at : (domain : List ℕ) (number : ℕ) (d : Result (List (List ℕ)) Unrouted) → number_of bytes_eq domains domain ≡ Some number → (number < length found) × (get_or found number d ≡ exchangers_of r domain)
  found_at domain number d has =
      let there = domain_there domains domain number has in
      let count : length found ≡ length domains = ap length kept ∙ length-map domains (exchangers_of r) in (
        omega (arith, there.0, count),
        ap (λ fs. get_or fs number d) kept ∙ get_or-map (exchangers_of r) domains number [] d there.0 ∙ ap (exchangers_of r) (sym there.1),
      )
