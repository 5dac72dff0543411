use Rattle.std.proofs.Common.{◌≡◌, ◌∙◌, List, ℕ, ap, sym}
use Rattle.std.specs.Prelude.{Some, slice_get, option_copied}
use Rattle.std.proofs.lemmas.Slice.Eq.{bytes_eq-Decides}
use Rattle.relay_destinations.specs.declared.way.Way.{Way}
use Rattle.relay_destinations.specs.KnownWays.{way_in}
use Rattle.relay_destinations.proofs.Pairs.{pair_at}
use Rattle.relay_destinations.proofs.known_ways.KnownWays.latest_way.Goals as goal

pub returns : goal.returns
returns c =
    let i = c.self.inside in
    let text = c.args.text.now in
    let latest = c.in_ok-text.field-0.now in
    let same : latest ≡ text = (bytes_eq-Decides latest text).0 (sym c.same_bytes.ensures ∙ c.if-not-same_bytes.false) in
    let has : slice_get i.texts.keys i.latest ≡ Some text = sym c.text.ensures ∙ ap option_copied c.in_ok-text.was ∙ ap (λ (t : List ℕ). Some t) same in
    ap (λ (ps : List (List ℕ × Way)). way_in ps text) (sym c.self.view_is)
    ∙ pair_at i.texts.keys i.ways.items text i.latest c.index.result.now c.self.invariant c.len.ensures.distinct has ∙ sym (ap (λ (t : Way). Some t) c.index.ensures)
