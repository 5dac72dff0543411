use Rattle.std.proofs.Common.{◌≡◌, ℕ, ◌-◌, ◌^◌, ◌<◌, ◌≤◌, suc, List, length, get_or, sym, ap, ◌∙◌, arith}
use Rattle.relay_chains.specs.Links.{hashes_of, links_of, bucket_under, buckets_of, last_under}
use Rattle.relay_chains.specs.Buckets.{last_in, AreLinked}
use Rattle.relay_chains.specs.declared.links.LinkNode.{LinkNode}
use Rattle.relay_chains.proofs.LinkNodes.{hash_at, link_at, length-hashes_of}
use Rattle.relay_chains.proofs.Linked.{bucket_of_last}
use Rattle.relay_chains.proofs.Under.{LeadsOn, leads-link, last_under-here, last_under-else, last_under-none, bucket_under_lt}
use Rattle.relay_chains.proofs.links.walk.Goals as goal

-- the next word of the walk leads on from the node that it comes from
next_word : (heads : List ℕ) (nodes : List LinkNode) (start hash word : ℕ) → AreLinked heads (links_of nodes) (buckets_of (length heads) (hashes_of nodes)) → hash < 2 ^ 32
    → (word ≡ 0 → ⊥) → word ≤ length nodes → last_in (length heads) (buckets_of (length heads) (hashes_of nodes)) (bucket_under (length heads) hash) word ≡ word
    → LeadsOn (length heads) (hashes_of nodes) hash (word - 1) (get_or nodes (word - 1) (record { hash = 0; link = 0 })).link
next_word heads nodes start hash word linked small some within on_chain =
    let below : word - 1 < length nodes = omega arith in
    let count = length-hashes_of nodes in
    let word_is : word ≡ suc (word - 1) = omega arith in
    let inside = bucket_under_lt (length heads) hash linked.some_bucket small in
    let here = bucket_of_last (length heads) (buckets_of (length heads) (hashes_of nodes)) (bucket_under (length heads) hash) (word - 1) (rw word_is at on_chain) in
    rw (← link_at nodes (word - 1) (record { hash = 0; link = 0 }) below)
    (leads-link heads (links_of nodes) (hashes_of nodes) hash (word - 1) linked inside (omega (arith, count)) here)

pub loop-word-smaller : goal.loop-word-smaller
loop-word-smaller c =
    let leads = next_word c.args.heads.now c.args.nodes.now c.args.start c.args.hash c.loop-word.word c.requires.linked (c.ranges.hash.fits) c.loop-word-test.true c.loop-word.invariant.within c.loop-word.invariant.on_chain in
    omega (arith, leads.within, c.loop-word-test.true)

pub loop-word-preserved : goal.loop-word-preserved
loop-word-preserved c =
    let hashes = hashes_of c.args.nodes.now in
    let number = c.loop-word.word - 1 in
    let leads = next_word c.args.heads.now c.args.nodes.now c.args.start c.args.hash c.loop-word.word c.requires.linked (c.ranges.hash.fits) c.loop-word-test.true c.loop-word.invariant.within c.loop-word.invariant.on_chain in
    let below : number < length c.args.nodes.now = omega (arith, c.loop-word.invariant.within, c.loop-word-test.true) in
    let word : suc number ≡ c.loop-word.word = omega (arith, c.loop-word-test.true) in
    let past = last_under-else hashes c.args.hash number (λ here. c.if-node-hash.false (sym (hash_at c.args.nodes.now number _ below) ∙ here)) in
    record {
      within = omega (arith, leads.within, below);
      on_chain = leads.on_chain;
      same = leads.same ∙ sym past ∙ ap (last_under hashes c.args.hash) word ∙ c.loop-word.invariant.same;
    }

pub returns-after-loop-word : goal.returns-after-loop-word
returns-after-loop-word c =
    let hashes = hashes_of c.args.nodes.now in
    let done : c.loop-word.word ≡ 0 = c.loop-word-test.false in
    done ∙ sym (last_under-none hashes c.args.hash) ∙ ap (last_under hashes c.args.hash) (sym done) ∙ c.loop-word.invariant.same

pub returns-then-node-hash : goal.returns-then-node-hash
returns-then-node-hash c =
    let hashes = hashes_of c.args.nodes.now in
    let number = c.loop-word.word - 1 in
    let below : number < length c.args.nodes.now = omega (arith, c.loop-word.invariant.within, c.loop-word-test.true) in
    let word : suc number ≡ c.loop-word.word = omega (arith, c.loop-word-test.true) in
    sym word ∙ sym (last_under-here hashes c.args.hash number (hash_at c.args.nodes.now number _ below ∙ c.if-node-hash.true))
    ∙ ap (last_under hashes c.args.hash) word ∙ c.loop-word.invariant.same
