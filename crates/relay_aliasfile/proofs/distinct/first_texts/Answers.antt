use Rattle.std.proofs.Common.{◌≡◌, ℕ, ◌<◌, ◌≤◌, List, [], length, get_or, arith, sym, ap, ◌∙◌}
use Rattle.std.proofs.lemmas.List.{length_push, get_or-map, take_all}
use Rattle.std.proofs.lemmas.Iterator.Adapters.{YieldsList-from_vec}
use Rattle.std.proofs.lemmas.Iterator.Consumers.{YieldsList-turn, YieldsList-end}
use Rattle.relay_text.specs.FirstPlaces.{first_place}
use Rattle.relay_aliasfile.specs.DistinctTexts.{with_texts}
use Rattle.relay_aliasfile.proofs.FirstTexts.{kept_more, with_texts-none}
use Rattle.relay_aliasfile.proofs.distinct.first_texts.Goals as goal

pub put_first-requires : goal.put_first-requires
put_first-requires c =
    let texts = c.args.texts.items in
    let given = c.into_iter-text-iterator.ensures.into_iter_gives in
    let road = YieldsList-from_vec {s = c.into_iter-text-iterator.result} texts given.0 (given.1 ∙ c.args.texts.ok.0) in
    let turn = YieldsList-turn road c.loop-text.yielded c.loop-text.text-iterator c.loop-text.yielded_by c.next.result c.next.new.self c.in-Some.text c.in-Some.is c.next.ensures.steps in
    omega (arith, turn.0, c.loop-text.invariant.counted, c.loop-text.invariant.few, c.loop-text.invariant.room)

pub loop-text-preserved : goal.loop-text-preserved
loop-text-preserved c =
    let texts = c.args.texts.items in
    let given = c.into_iter-text-iterator.ensures.into_iter_gives in
    let road = YieldsList-from_vec {s = c.into_iter-text-iterator.result} texts given.0 (given.1 ∙ c.args.texts.ok.0) in
    let turn = YieldsList-turn road c.loop-text.yielded c.loop-text.text-iterator c.loop-text.yielded_by c.next.result c.next.new.self c.in-Some.text c.in-Some.is c.next.ensures.steps in
    let place = c.loop-text.place in
    let x = c.in-Some.text in
    let counted = c.loop-text.invariant.counted in
    let inside : place < length texts = omega (arith, turn.0, counted) in
    let is : x ≡ get_or texts place x = turn.1 ∙ ap (λ k. get_or texts k x) (sym counted) in
    let number = get_or c.args.places.now place 0 in
    let first : number ≡ first_place texts x =
    ap (λ (l : List ℕ). get_or l place 0) c.requires ∙ get_or-map (first_place texts) texts place x 0 inside ∙ ap (first_place texts) (sym is) in
    record {
      counted = omega (arith, counted, length_push c.loop-text.yielded x);
      kept = kept_more texts c.loop-text.distinct.items c.put_first.new.distinct.items x place number inside is c.loop-text.invariant.kept first c.put_first.ensures.items;
      few = omega (arith, c.loop-text.invariant.few, c.put_first.ensures.len);
      room = omega (arith, c.loop-text.invariant.room, c.put_first.ensures.capacity);
    }

pub returns : goal.returns
returns c =
    let texts = c.args.texts.items in
    let given = c.into_iter-text-iterator.ensures.into_iter_gives in
    let road = YieldsList-from_vec {s = c.into_iter-text-iterator.result} texts given.0 (given.1 ∙ c.args.texts.ok.0) in
    let ended = YieldsList-end road c.loop-text.yielded c.loop-text.text-iterator c.loop-text.yielded_by c.next.result c.next.new.self c.in-None.is c.next.ensures.steps in
    let past : length texts ≤ c.loop-text.place = omega (arith, ended.1, c.loop-text.invariant.counted) in
    c.of.ensures ∙ c.loop-text.invariant.kept ∙ ap (with_texts []) (take_all c.loop-text.place texts past) ∙ with_texts-none texts
