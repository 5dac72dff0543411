use Rattle.std.proofs.Common.{arith, ◌≡◌, ◌<◌, ℕ, List, length, get_or, take, true, ap, ◌∙◌, subst, length-set}
use Rattle.std.proofs.lemmas.List.{take_all}
use Rattle.relay_tables.specs.Marks.{domain_mark, AreMarksOf}
use Rattle.relay_tables.proofs.Marks.{marks_more, marks_all}
use Rattle.relay_tables.proofs.marking.marks_of.Goals as goal

pub loop-domain-preserved : goal.loop-domain-preserved
loop-domain-preserved c =
    let l = c.loop-domain in
    let domains = c.args.local.now.domains in
    let domain = c.domain-item.result in
    let mark : c.domain_mark.result ≡ domain_mark domain = c.domain_mark.ensures.value ∙ ap domain_mark c.as_bytes.ensures in
    let below : l.domain-index < length domains = let t = c.loop-domain-test.true in omega (arith, ap length c.as_slice-domain-items.ensures) in
    let at : domain ≡ get_or domains l.domain-index domain = c.domain-item.is ∙ ap (λ (ds : List (List ℕ)). get_or ds l.domain-index domain) c.as_slice-domain-items.ensures in
    let within : domain_mark domain < length l.marks = omega (arith, mark, c.domain_mark.ensures.below, l.invariant.long) in
    record {
      long = length-set l.marks c.domain_mark.result true ∙ l.invariant.long;
      marked = rw mark (marks_more domains l.marks l.domain-index domain below at within l.invariant.marked);
    }

pub returns : goal.returns
returns c =
    let l = c.loop-domain in
    let local = c.args.local.now in
    let mark : c.domain_mark-2.result ≡ domain_mark local.origin = c.domain_mark-2.ensures.value ∙ ap domain_mark c.as_bytes-2.ensures in
    let all : take l.domain-index local.domains ≡ local.domains = take_all l.domain-index local.domains (let t = c.loop-domain-test.false in omega (arith, ap length c.as_slice-domain-items.ensures)) in
    let within : domain_mark local.origin < length l.marks = omega (arith, mark, c.domain_mark-2.ensures.below, l.invariant.long) in
    rw mark (marks_all local l.marks within (subst (λ (ds : List (List ℕ)). AreMarksOf ds l.marks) all l.invariant.marked))
