use Rattle.std.proofs.Common.{ℕ, ◌%◌, ◌/◌, ◌<◌, ◌∙◌, ap, sym, ◌≡◌, nat_eq, length, get_or, arith}
use Rattle.std.proofs.lemmas.List.{get_or_read}
use Rattle.std.proofs.lemmas.List.Quantifiers.{position-Some}
use Rattle.relay_rounds.specs.Bits.{is_set}
use Rattle.relay_rounds.specs.Blocks.{keys_of}
use Rattle.relay_rounds.specs.Shards.{is_there}
use Rattle.relay_rounds.proofs.ShardKeys.{there_found, there_not}
use Rattle.relay_rounds.proofs.shard.Shard.contains.Goals as goal

pub returns-in-Some : goal.returns-in-Some
returns-in-Some c =
    let p = c.self.invariant.pairs in
    let ns = c.self.inside.chains.keys in
    let ws = c.self.inside.words.items in
    let low : c.in-Some.number < length ws = (let h = (position-Some (nat_eq (c.args.key / 64)) ns c.in-Some.number 0 (sym c.in-Some.ensures)).0 in let e = p.count in omega arith) in
    let word : c.index.result.now ≡ get_or ws c.in-Some.number 0 = get_or_read ws c.in-Some.number c.index.result.now low c.index.ensures 0 in
    c.has_bit.ensures ∙ ap (λ (w : ℕ). is_set w (c.args.key % 64)) word
    ∙ there_found ns ws p.count c.args.key c.in-Some.number p.distinct (sym c.in-Some.ensures) ∙ ap (λ bs. is_there (keys_of bs) c.args.key) c.self.view_is

pub returns-in-None : goal.returns-in-None
returns-in-None c =
    let p = c.self.invariant.pairs in
    there_not c.self.inside.chains.keys c.self.inside.words.items p.count c.args.key (sym c.in-None.ensures) ∙ ap (λ bs. is_there (keys_of bs) c.args.key) c.self.view_is
