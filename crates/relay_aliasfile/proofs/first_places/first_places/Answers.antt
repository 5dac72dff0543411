use Rattle.std.proofs.Common.{◌≡◌, ℕ, ◌<◌, List, length, map, sym, ap, ◌∙◌, subst, arith}
use Rattle.std.specs.Prelude.{All}
use Rattle.std.specs.List.{range_with_len}
use Rattle.std.proofs.lemmas.List.{with_items_is, length-map}
use Rattle.std.proofs.lemmas.List.FromFn.{length-range_with_len}
use Rattle.relay_chains.specs.TextHash.{text_hash, fixed_key}
use Rattle.relay_text.specs.FirstPlaces.{first_place}
use Rattle.relay_aliasfile.specs.Twins.{texts_of, texts_at, AreTwinPlaces, ArePutFirst}
use Rattle.relay_aliasfile.proofs.FirstByTwins.{within_texts, firsts_within, all_first}
use Rattle.relay_aliasfile.proofs.first_places.first_places.Goals as goal

pub put_firsts-requires-clause-within : goal.put_firsts-requires-clause-within
put_firsts-requires-clause-within c =
    let texts = texts_of c.args.texts.now in
    let places = c.in_ok-twins.twins.items in
    let twins : AreTwinPlaces (map (text_hash fixed_key) texts) places = subst (λ hs. AreTwinPlaces hs places) (c.deref.ensures.value ∙ c.in_ok-hashes.ensures) c.in_ok-twins.ensures in
    let inside = within_texts texts fixed_key places twins in
    let long : length c.deref_mut.result.now ≡ length texts = ap length (c.deref_mut.ensures.value ∙ c.in_ok-places.ensures) ∙ length-range_with_len 0 (length c.args.texts.now) ∙ sym (length-map c.args.texts.now (λ text. text.now)) in
    subst (λ (n : ℕ). All (λ p. p < n) c.deref-3.result.now) (sym long) (subst (λ (ps : List ℕ). All (λ p. p < length texts) ps) (sym c.deref-3.ensures.value) inside)

pub put_firsts-requires-clause-among : goal.put_firsts-requires-clause-among
put_firsts-requires-clause-among c =
    let texts = texts_of c.args.texts.now in
    let places = c.in_ok-twins.twins.items in
    let twins : AreTwinPlaces (map (text_hash fixed_key) texts) places = subst (λ hs. AreTwinPlaces hs places) (c.deref.ensures.value ∙ c.in_ok-hashes.ensures) c.in_ok-twins.ensures in
    let firsts_are = subst (λ ps. c.in_ok-firsts.firsts.items ≡ map (first_place (texts_at texts ps)) (texts_at texts ps)) c.deref-2.ensures.value c.in_ok-firsts.ensures in
    let inside = firsts_within texts fixed_key places twins c.in_ok-firsts.firsts.items firsts_are in
    subst (λ (ps : List ℕ). All (λ f. f < length ps) c.deref-4.result.now) (sym c.deref-3.ensures.value) (subst (λ (fs : List ℕ). All (λ f. f < length places) fs) (sym c.deref-4.ensures.value) inside)

pub returns : goal.returns
returns c =
    let texts = texts_of c.args.texts.now in
    let places = c.in_ok-twins.twins.items in
    let firsts = c.in_ok-firsts.firsts.items in
    let twins : AreTwinPlaces (map (text_hash fixed_key) texts) places = subst (λ hs. AreTwinPlaces hs places) (c.deref.ensures.value ∙ c.in_ok-hashes.ensures) c.in_ok-twins.ensures in
    let firsts_are = subst (λ ps. firsts ≡ map (first_place (texts_at texts ps)) (texts_at texts ps)) c.deref-2.ensures.value c.in_ok-firsts.ensures in
    let new = c.put_firsts.new.all in
    let start : c.deref_mut.result.now ≡ range_with_len 0 (length texts) = c.deref_mut.ensures.value ∙ c.in_ok-places.ensures ∙ ap (range_with_len 0) (sym (length-map c.args.texts.now (λ text. text.now))) in
    let put : ArePutFirst places firsts (length places) (range_with_len 0 (length texts)) new =
    subst (λ old. ArePutFirst places firsts (length places) old new) start
    (subst (λ fs. ArePutFirst places fs (length places) c.deref_mut.result.now new) c.deref-4.ensures.value
    (subst (λ ps. ArePutFirst ps c.deref-4.result.now (length ps) c.deref_mut.result.now new) c.deref-3.ensures.value c.put_firsts.ensures)) in
    with_items_is c.in_ok-places.places new (omega (arith, c.deref_mut.ensures.len, c.put_firsts.ensures.long)) ∙ all_first texts fixed_key places twins firsts firsts_are new put
