use Rattle.std.proofs.Common.{◌≡◌, ℕ, List, [], ◌∷◌, ◌++◌, codes, length, ap, append_assoc, ◌∙◌}
use Rattle.std.proofs.lemmas.Result.{on_ok_weaker}
use Rattle.relay_wire.specs.Json.{json_member, with_commas}
use Rattle.relay_wire.specs.JsonPlan.{counts_json, findings_member, transactions_json}
use Rattle.relay_wire.specs.PlanText.{recipient_count}
use Rattle.relay_returns.specs.Returns.{returns_member}
use Rattle.relay_returns.proofs.json.put_returned_json_members.Goals as goal

two_behind : (out a b c d : List ℕ) → ((((out ++ with_commas (a ∷ b ∷ [])) ++ 44 ∷ []) ++ c) ++ 44 ∷ []) ++ d ≡ out ++ with_commas (a ∷ b ∷ c ∷ d ∷ [])
two_behind out a b c d =
    let front : List ℕ = out ++ with_commas (a ∷ b ∷ []) in
    let more : List ℕ = 44 ∷ (c ++ 44 ∷ d) in
    ap (λ (l : List ℕ). (l ++ 44 ∷ []) ++ d) (append_assoc front (44 ∷ []) c)
    ∙ append_assoc (front ++ 44 ∷ c) (44 ∷ []) d
    ∙ append_assoc front (44 ∷ c) (44 ∷ d)
    ∙ append_assoc out (a ++ 44 ∷ b) more
    ∙ ap (λ (l : List ℕ). out ++ l) (append_assoc a (44 ∷ b) more)

pub returns : goal.returns
returns c =
    let p = c.args.plan.now in
    on_ok_weaker c.put_json_findings.result
    (λ put. put ∙ rw (c.in_ok-push-2.ensures.items, c.in_ok-put_returns.ensures, c.in_ok-push.ensures.items, c.in_ok-put_json_front.ensures, c.as_slice.ensures)
    (two_behind c.args.out.now.items
    (json_member (codes "plan") (counts_json (length p.transactions) (recipient_count p) (length p.findings)))
    (json_member (codes "transactions") (transactions_json p.transactions))
    (returns_member c.args.returns.now)
    (findings_member p.findings)))
    c.put_json_findings.ensures
