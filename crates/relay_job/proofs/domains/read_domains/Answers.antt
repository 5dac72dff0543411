use Rattle.std.proofs.Common.{◌≡◌, ℕ, true, false, not, ◌||◌, ◌==◌, List, [], ◌∷◌, length, map, Some, refl, sym, ap, ◌∙◌, rules, tests, arith}
use Rattle.std.specs.List.{list_all}
use Rattle.std.proofs.lemmas.Bool.{ne_eqb}
use Rattle.std.proofs.lemmas.Iterator.Splits.{YieldsList-from_slice_split}
use Rattle.std.proofs.lemmas.Iterator.Consumers.{YieldsList-at, YieldsList-from_filter, YieldsList-turn, YieldsList-end}
use Rattle.std.proofs.lemmas.List.Folds.{list_all_at}
use Rattle.relay_text.specs.Bytes.{is_white, folded}
use Rattle.relay_text.specs.Addresses.{is_domain, is_empty}
use Rattle.relay_job.specs.Settings.{domain_texts}
use Rattle.relay_job.proofs.domains.read_domains.Goals as goal

empty-is : (text : List ℕ) → (length text == 0) ≡ is_empty text
empty-is [] = refl
empty-is (b ∷ bs) = ne_eqb (length (b ∷ bs)) 0 (omega arith)

pub returns-then-not-is_domain : goal.returns-then-not-is_domain
returns-then-not-is_domain c =
    let turn = YieldsList-turn
    (YieldsList-at c.into_iter-domain-iterator.ensures.into_iter_gives
    (YieldsList-from_filter _ (λ piece. not (is_empty piece))
    (YieldsList-at c.filter-domain-items.ensures.source
    (YieldsList-from_slice_split _ (λ b. is_white b || (b == 44)) c.args.list.now c.split-pieces.ensures.rest c.split-pieces.ensures.done c.split-pieces.ensures.closure (λ x b q k. search (rules, tests))))
    c.filter-domain-items.ensures.closure (λ x b q k. search (rules, tests, empty-is))))
    c.loop-domain.yielded c.loop-domain.domain-iterator c.loop-domain.yielded_by c.next.result c.next.new.self c.in-Some.domain c.in-Some.is c.next.ensures.steps in
    let bad : list_all is_domain (domain_texts c.args.list.now) ≡ false = list_all_at is_domain (domain_texts c.args.list.now) (length c.loop-domain.yielded) c.in-Some.domain.now turn.0 (ap is_domain (sym turn.1) ∙ sym c.is_domain.ensures ∙ c.if-not-is_domain.true) in
    sym (rw bad)

pub returns : goal.returns
returns c =
    let end = YieldsList-end
    (YieldsList-at c.into_iter-domain-iterator.ensures.into_iter_gives
    (YieldsList-from_filter _ (λ piece. not (is_empty piece))
    (YieldsList-at c.filter-domain-items.ensures.source
    (YieldsList-from_slice_split _ (λ b. is_white b || (b == 44)) c.args.list.now c.split-pieces.ensures.rest c.split-pieces.ensures.done c.split-pieces.ensures.closure (λ x b q k. search (rules, tests))))
    c.filter-domain-items.ensures.closure (λ x b q k. search (rules, tests, empty-is))))
    c.loop-domain.yielded c.loop-domain.domain-iterator c.loop-domain.yielded_by c.next.result c.next.new.self c.in-None.is c.next.ensures.steps in
    let good : list_all is_domain (domain_texts c.args.list.now) ≡ true = ap (list_all is_domain) (sym end.0) ∙ c.loop-domain.invariant.good in
    rw (good, c.of.ensures) (ap Some (c.loop-domain.invariant.kept ∙ ap (map folded) end.0))
