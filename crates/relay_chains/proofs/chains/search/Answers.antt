use Rattle.std.proofs.Common.{◌≡◌, ℕ, ◌%◌, ◌<◌, ◌-◌, suc, length, nat_eq, get_or, arith, sym, ap, ◌∙◌, subst}
use Rattle.std.proofs.lemmas.Bool.Decides.{Decides-eqb}
use Rattle.std.proofs.lemmas.List.{length-map}
use Rattle.relay_chains.specs.Chains.{keys_of, links_of}
use Rattle.relay_chains.proofs.Linked.{IsPassed, passed-none, passed-more, link_le}
use Rattle.relay_chains.proofs.Nodes.{key_at, link_at}
use Rattle.relay_chains.proofs.Places.{number_of-none, number_of-at}
use Rattle.relay_chains.proofs.chains.search.Goals as goal

pub loop-word-init : goal.loop-word-init
loop-word-init c =
    passed-none c.args.heads.now (links_of c.args.nodes.now) (keys_of c.args.nodes.now) c.args.bucket _ c.requires.linked
    (λ k below other same. other (ap (λ (key : ℕ). key % length c.args.heads.now) same ∙ sym c.requires.bucket))
    (omega (arith, c.requires.linked.some_bucket))

pub loop-word-preserved : goal.loop-word-preserved
loop-word-preserved c =
    let number : ℕ = c.loop-word.word - 1 in
    let below : number < length c.args.nodes.now = omega (arith, c.loop-word.invariant.within, length-map c.args.nodes.now (λ node. node.key)) in
    let word : c.loop-word.word ≡ suc number = omega arith in
    let P : ℕ → Type 0 = IsPassed (length c.args.heads.now) (keys_of c.args.nodes.now) c.args.bucket (λ k. get_or (keys_of c.args.nodes.now) k 0 ≡ c.args.key → ⊥) in
    subst P (link_at c.args.nodes.now number _ below)
    (passed-more c.args.heads.now (links_of c.args.nodes.now) (keys_of c.args.nodes.now) c.args.bucket _ c.requires.linked
    (λ k below other same. other (ap (λ (key : ℕ). key % length c.args.heads.now) same ∙ sym c.requires.bucket))
    (omega (arith, c.requires.linked.some_bucket))
    number (subst P word c.loop-word.invariant)
    (λ same. c.if-node-key.false (sym (key_at c.args.nodes.now number _ below) ∙ same)))

pub loop-word-smaller : goal.loop-word-smaller
loop-word-smaller c =
    let below : c.loop-word.word - 1 < length c.args.nodes.now = omega (arith, c.loop-word.invariant.within, length-map c.args.nodes.now (λ node. node.key)) in
    let lower = link_le _ _ _ c.requires.linked (c.loop-word.word - 1) (omega arith) in
    omega (arith, link_at c.args.nodes.now (c.loop-word.word - 1) (record { key = 0; link = 0 }) below)

pub returns-then-node-key : goal.returns-then-node-key
returns-then-node-key c =
    let below : c.loop-word.word - 1 < length c.args.nodes.now = omega (arith, c.loop-word.invariant.within, length-map c.args.nodes.now (λ node. node.key)) in
    sym (number_of-at nat_eq Decides-eqb (keys_of c.args.nodes.now) c.args.key 0 c.requires.distinct (c.loop-word.word - 1) (omega arith)
    (key_at c.args.nodes.now (c.loop-word.word - 1) _ below ∙ c.if-node-key.true))

pub returns : goal.returns
returns c =
    sym (number_of-none nat_eq Decides-eqb (keys_of c.args.nodes.now) c.args.key 0 (λ k below. c.loop-word.invariant.passed k (omega arith) below))
