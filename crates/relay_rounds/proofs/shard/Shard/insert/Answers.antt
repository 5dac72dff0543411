use Rattle.std.proofs.Common.{rules, arith, ◌≡◌, ◌≢◌, ℕ, ◌<◌, ◌/◌, ◌%◌, ◌++◌, ◌∷◌, [], Bool, true, false, Ok, List, length, get_or, set, sym, ap, ◌∙◌, subst}
use Rattle.std.proofs.lemmas.List.{get_or_read}
use Rattle.relay_rounds.specs.Bits.{is_set}
use Rattle.relay_rounds.specs.Blocks.{blocks_of, ArePaired}
use Rattle.relay_rounds.specs.Shards.{Inserted, Grows}
use Rattle.relay_rounds.proofs.Numbers.{put_once, found_at}
use Rattle.relay_rounds.proofs.ShardKeys.{paired_more, paired_set, grows_new, grows_set, grows_not, bit_is_some}
use Rattle.relay_rounds.proofs.shard.Shard.insert.Goals as goal

pub invariant_of-self-then-new : goal.invariant_of-self-then-new
invariant_of-self-then-new c =
    let k : ℕ = c.args.key in
    let inv = c.self.invariant in
    let ns = c.self.inside.chains.keys in
    let ws = c.self.inside.words.items in
    let more = c.insert.new.self.keys in
    let put : Inserted ns (k / 64) c.in-Ok.new more = put_once ns c.self.inside.chains.limit (k / 64) (Ok (c.in-Ok.number, c.in-Ok.new)) more c.in-Ok.ensures.inserts in
    let done : Inserted ns (k / 64) true more = subst (λ (b : Bool). Inserted ns (k / 64) b more) c.if-new.true put in
    let words : c.push_reserved.new.self.items ≡ ws ++ c.with_bit.result ∷ [] = search rules in
    record {
      some_head = inv.some_head;
      wide = c.in-Ok.ensures.limit ∙ inv.wide;
      pairs = subst (λ (vs : List ℕ). ArePaired more vs) (sym words) (paired_more ns ws more (k / 64) c.with_bit.result inv.pairs done (let f = c.ranges.key.fits in omega arith) (bit_is_some c.with_bit.result (k % 64) c.with_bit.ensures.set));
    }

pub returns-then-new-clause-ok : goal.returns-then-new-clause-ok
returns-then-new-clause-ok c =
    let k : ℕ = c.args.key in
    let inv = c.self.invariant in
    let ns = c.self.inside.chains.keys in
    let ws = c.self.inside.words.items in
    let more = c.insert.new.self.keys in
    let put : Inserted ns (k / 64) c.in-Ok.new more = put_once ns c.self.inside.chains.limit (k / 64) (Ok (c.in-Ok.number, c.in-Ok.new)) more c.in-Ok.ensures.inserts in
    let done : Inserted ns (k / 64) true more = subst (λ (b : Bool). Inserted ns (k / 64) b more) c.if-new.true put in
    let words : c.push_reserved.new.self.items ≡ ws ++ c.with_bit.result ∷ [] = search rules in
    subst (λ bs. Grows bs k true (blocks_of more c.push_reserved.new.self.items)) (c.self.view_is ∙ c.make_room.ensures)
    (subst (λ (vs : List ℕ). Grows (blocks_of ns ws) k true (blocks_of more vs)) (sym words)
    (grows_new ns ws more k c.with_bit.result inv.pairs done (let f = c.ranges.key.fits in omega arith) c.with_bit.ensures.set c.with_bit.ensures.others))

pub returns-then-has_bit-clause-ok : goal.returns-then-has_bit-clause-ok
returns-then-has_bit-clause-ok c =
    let k : ℕ = c.args.key in
    let inv = c.self.invariant in
    let ns = c.self.inside.chains.keys in
    let ws = c.self.inside.words.items in
    let i : ℕ = c.in-Ok.number in
    let found = found_at ns c.self.inside.chains.limit (k / 64) (i, c.in-Ok.new) c.insert.new.self.keys c.in-Ok.ensures.inserts c.if-new.false in
    let low : i < length ws = (let h = found.0 in let e = inv.pairs.count in omega arith) in
    let words : c.reserve.new.self.items ≡ ws = c.in_ok-reserve.ensures.items in
    let word : c.index-word.result.now ≡ get_or ws i 0 = get_or_read ws i c.index-word.result.now low (subst (λ (vs : List ℕ). c.index-word.result.now ≡ get_or vs i c.index-word.result.now) words c.index-word.ensures) 0 in
    let on : is_set (get_or ws i 0) (k % 64) ≡ true = ap (λ (v : ℕ). is_set v (k % 64)) (sym word) ∙ sym c.has_bit.ensures ∙ c.if-has_bit.true in
    subst (λ bs. Grows bs k false (blocks_of c.insert.new.self.keys c.reserve.new.self.items)) (c.self.view_is ∙ c.make_room.ensures)
    (rw (words, found.2) (grows_not ns ws k i inv.pairs found.0 found.1 on))

pub returns-clause-ok : goal.returns-clause-ok
returns-clause-ok c =
    let k : ℕ = c.args.key in
    let inv = c.self.invariant in
    let ns = c.self.inside.chains.keys in
    let ws = c.self.inside.words.items in
    let i : ℕ = c.in-Ok.number in
    let found = found_at ns c.self.inside.chains.limit (k / 64) (i, c.in-Ok.new) c.insert.new.self.keys c.in-Ok.ensures.inserts c.if-new.false in
    let low : i < length ws = (let h = found.0 in let e = inv.pairs.count in omega arith) in
    let words : c.reserve.new.self.items ≡ ws = c.in_ok-reserve.ensures.items in
    let word : c.index-word.result.now ≡ get_or ws i 0 = get_or_read ws i c.index-word.result.now low (subst (λ (vs : List ℕ). c.index-word.result.now ≡ get_or vs i c.index-word.result.now) words c.index-word.ensures) 0 in
    let off : is_set (get_or ws i 0) (k % 64) ≡ false = ap (λ (v : ℕ). is_set v (k % 64)) (sym word) ∙ sym c.has_bit.ensures ∙ c.if-has_bit.false in
    let w : ℕ = c.with_bit-2.result in
    let others : (j : ℕ) → j ≢ k % 64 → is_set w j ≡ is_set (get_or ws i 0) j = λ j ne. c.with_bit-2.ensures.others j ne ∙ ap (λ (v : ℕ). is_set v j) word in
    subst (λ bs. Grows bs k true (blocks_of c.insert.new.self.keys (set c.reserve.new.self.items i w))) (c.self.view_is ∙ c.make_room.ensures)
    (rw (words, found.2) (grows_set ns ws k i w inv.pairs found.0 found.1 off c.with_bit-2.ensures.set others))

pub invariant_of-self-2 : goal.invariant_of-self-2
invariant_of-self-2 c =
    let k : ℕ = c.args.key in
    let inv = c.self.invariant in
    let ns = c.self.inside.chains.keys in
    let ws = c.self.inside.words.items in
    let i : ℕ = c.in-Ok.number in
    let found = found_at ns c.self.inside.chains.limit (k / 64) (i, c.in-Ok.new) c.insert.new.self.keys c.in-Ok.ensures.inserts c.if-new.false in
    let words : c.reserve.new.self.items ≡ ws = c.in_ok-reserve.ensures.items in
    record {
      some_head = inv.some_head;
      wide = c.in-Ok.ensures.limit ∙ inv.wide;
      pairs = rw (words, found.2) (paired_set ns ws i c.with_bit-2.result inv.pairs (bit_is_some c.with_bit-2.result (k % 64) c.with_bit-2.ensures.set));
    }
