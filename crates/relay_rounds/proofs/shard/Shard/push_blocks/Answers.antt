use Rattle.std.proofs.Common.{rules, arith, ◌≡◌, ℕ, ◌+◌, ◌<◌, ◌≤◌, ◌++◌, ◌∷◌, [], List, length, get_or, take, sym, ap, ◌∙◌, append_assoc}
use Rattle.std.proofs.lemmas.List.{take_more, take_all, get_or_read}
use Rattle.std.proofs.lemmas.Option.{slice_get_within, get_or_from_slice_get}
use Rattle.relay_rounds.specs.declared.block.Block.{Block}
use Rattle.relay_rounds.specs.Blocks.{blocks_of}
use Rattle.relay_rounds.proofs.ShardKeys.{blocks_len, blocks_at}
use Rattle.relay_rounds.proofs.shard.Shard.push_blocks.Goals as goal

pub loop-at-preserved : goal.loop-at-preserved
loop-at-preserved c =
    let p = c.self.invariant.pairs in
    let ns = c.self.inside.chains.keys in
    let ws = c.self.inside.words.items in
    let i : ℕ = c.loop-at.at in
    let old = c.args.blocks.now.items in
    let size = blocks_len ns ws p.count in
    let d : Block = record { number = 0; word = 0 } in
    let below : i < length ns = slice_get_within ns i c.in-Some.number (sym c.in-Some.ensures) in
    let number : get_or ns i 0 ≡ c.in-Some.number = get_or_from_slice_get ns i c.in-Some.number 0 (sym c.in-Some.ensures) in
    let low : i < length ws = (let e = p.count in omega arith) in
    let word : c.index-word.result.now ≡ get_or ws i 0 = get_or_read ws i c.index-word.result.now low c.index-word.ensures 0 in
    let made : record { number = c.in-Some.number; word = c.index-word.result.now } ≡ get_or (blocks_of ns ws) i d =
    (λ t. record { number = sym number t; word = word t }) ∙ sym (blocks_at ns ws i d p.count below) in
    c.in_ok-push.ensures.items ∙ ap (λ (bs : List Block). bs ++ (record { number = c.in-Some.number; word = c.index-word.result.now }) ∷ []) c.loop-at.invariant
    ∙ append_assoc old (take i c.args.self.now) ((record { number = c.in-Some.number; word = c.index-word.result.now }) ∷ [])
    ∙ ap (λ (b : Block). old ++ (take i c.args.self.now ++ b ∷ [])) made
    ∙ ap (λ (bs : List Block). old ++ (take i bs ++ get_or (blocks_of ns ws) i d ∷ [])) (sym c.self.view_is)
    ∙ ap (λ (bs : List Block). old ++ bs) (sym (take_more (blocks_of ns ws) i d (omega arith)))
    ∙ ap (λ (bs : List Block). old ++ take (i + 1) bs) c.self.view_is

pub returns : goal.returns
returns c =
    let p = c.self.invariant.pairs in
    let ns = c.self.inside.chains.keys in
    let size = blocks_len ns c.self.inside.words.items p.count in
    let all : length c.args.self.now ≤ c.loop-at.at = (let e = ap length c.self.view_is in let t = c.loop-at-test.false in let z : c.len-at-end.result ≡ length ns = search rules in omega arith) in
    c.loop-at.invariant ∙ ap (λ (bs : List Block). c.args.blocks.now.items ++ bs) (take_all c.loop-at.at c.args.self.now all)
