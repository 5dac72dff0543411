use Rattle.std.proofs.Common.{rules, arith, ℕ, ◌+◌, ◌<◌, ◌∙◌, length, get_or, take, sym, subst}
use Rattle.std.proofs.lemmas.List.{take_all}
use Rattle.relay_rounds.specs.Shards.{HasTaken}
use Rattle.relay_rounds.proofs.Sharding.{takes_none, takes_more, takes_other}
use Rattle.relay_rounds.proofs.part.Part.add_own.Goals.{then-home_of-place, else-home_of-place}
use Rattle.relay_rounds.proofs.part.Part.add_own.Goals as goal

pub loop-key-init : goal.loop-key-init
loop-key-init c = takes_none c.args.keys.now c.args.parts c.args.place c.args.self.now c.requires.lawful c.requires.home

pub loop-key-preserved : goal.loop-key-preserved
loop-key-preserved c =
    let keys = c.args.keys.now in
    let i : ℕ = c.loop-key.key-index in
    let below : i < length keys = omega arith in
    let key : ℕ = get_or keys i 0 in
    elim c.if-home_of-place.branch [
      | then-home_of-place w ↦ subst (λ q. HasTaken (take (i + 1) keys) c.args.parts c.args.place c.args.self.now q) (sym w.self-is)
          (takes_more keys i key c.args.parts c.args.place c.args.self.now c.loop-key.self w.add.new.self below (search rules) (sym c.home_of.ensures.value ∙ w.if-home_of-place.true) c.loop-key.invariant w.add.ensures)
      | else-home_of-place w ↦ subst (λ q. HasTaken (take (i + 1) keys) c.args.parts c.args.place c.args.self.now q) (sym w.self-is)
          (takes_other keys i key c.args.parts c.args.place c.args.self.now c.loop-key.self below (search rules) (λ e. w.if-home_of-place.false (c.home_of.ensures.value ∙ e)) c.loop-key.invariant)
    ]

pub returns : goal.returns
returns c =
    let keys = c.args.keys.now in
    subst (λ ks. HasTaken ks c.args.parts c.args.place c.args.self.now c.loop-key.self) (take_all c.loop-key.key-index keys (omega arith)) c.loop-key.invariant
