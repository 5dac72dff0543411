use Rattle.std.proofs.Common.{List, ℕ, Err, refl, subst}
use Rattle.relay_text.specs.Addresses.{Answers, is_origin, is_domain, result_map, spelling_of}
use Rattle.relay_explain.specs.AskedTexts.{asked_as, asked_of}
use Rattle.relay_explain.proofs.AskedFacts.{asked-fault}
use Rattle.relay_explain.proofs.asked.Asked.parse.Goals as goal

pub parse_address-requires : goal.parse_address-requires
unfolding is_origin is_domain
parse_address-requires c = refl

pub returns-in-Err : goal.returns-in-Err
unfolding asked_of
returns-in-Err c =
    subst (λ (text : List ℕ). Answers (Err c.in-Err.fault) (result_map asked_as (spelling_of text))) c.inner_text-text.ensures
    (asked-fault c.inner_text-text.result.now c.in-Err.fault c.in-Err.ensures.spelled)
