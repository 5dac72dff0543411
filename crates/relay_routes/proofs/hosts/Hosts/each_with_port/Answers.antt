use Rattle.std.proofs.Common.{◌≡◌, ℕ, List, [], ◌∷◌, ◌++◌, map, refl, sym, ap, ◌∙◌, arith}
use Rattle.std.proofs.lemmas.Bool.Decides.{nat_tests}
use Rattle.std.proofs.lemmas.List.{append-nil, nil_from_length}
use Rattle.std.proofs.lemmas.Result.{IfOk-weaker}
use Rattle.relay_text.specs.Bytes.{folded}
use Rattle.relay_routes.proofs.hosts.Hosts.each_with_port.Goals as goal

with_nothing : (hosts : List (List ℕ)) → hosts ≡ map (λ host. host ++ []) hosts
with_nothing [] = refl
with_nothing (host ∷ hosts) = rw (append-nil host) (ap (λ rest. host ∷ rest) (with_nothing hosts))

pub returns-then-is_empty : goal.returns-then-is_empty
returns-then-is_empty c =
    let none : c.args.port.now ≡ [] = nil_from_length c.args.port.now (grind (arith, nat_tests)) in
    with_nothing c.args.self ∙ ap (λ port. map (λ host. host ++ folded port) c.args.self) (sym none)

pub returns : goal.returns
returns c =
    IfOk-weaker c.each_followed_by-hosts.result _ _ (λ made is. is ∙ ap (λ (port : List ℕ). map (λ (host : List ℕ). host ++ port) c.args.self) (c.as_bytes.ensures ∙ c.in_ok-port.ensures)) c.each_followed_by-hosts.ensures
