use Rattle.std.proofs.Common.{◌≡◌, ◌∙◌, ◌<◌, ◌-◌, ◌++◌, [], List, Bor, map, take, ap, sym, arith, get_or}
use Rattle.std.specs.Prelude.{filter_map, reverse, option_copied}
use Rattle.std.specs.List.{cons_option}
use Rattle.std.proofs.lemmas.List.{map_push, append-nil}
use Rattle.relay_routes.specs.declared.exchange.Exchange.{Exchange}
use Rattle.relay_routes.specs.MxRecords.{domain_hash, own_exchange}
use Rattle.relay_routes.proofs.MxLookups.{starts_within, exchanges_at_start, next_smaller, next_within, exchanges_from, found_more, found_none, map-reverse, own_exchangers}
use Rattle.relay_routes.proofs.mx_records.MxRecords.exchangers_of.Goals as goal
use Rattle.relay_routes.proofs.mx_records.MxRecords.exchangers_of.Goals.{in-Some+in_ok-push, in_default}

pub loop-word-init : goal.loop-word-init
loop-word-init c =
    let i = c.self.inside in
    let d = c.args.domain.now in
    let rs = c.args.self.now in
    let hashed : i.links ≡ map (domain_hash i.key) rs = c.self.invariant ∙ ap (map (domain_hash i.key)) c.self.view_is in
    let starts = starts_within i.key d rs i.links hashed c.hash_text.result c.newest-word.result c.hash_text.ensures c.newest-word.ensures in
    record {
      within = starts.0;
      under = starts.1;
      found = rw c.new-exchangers.ensures.items (append-nil (filter_map (own_exchange d) (take c.newest-word.result rs)) ∙ exchanges_at_start i.key d rs i.links hashed c.hash_text.result c.newest-word.result c.hash_text.ensures c.newest-word.ensures);
    }

pub loop-word-smaller : goal.loop-word-smaller
loop-word-smaller c =
    let i = c.self.inside in
    let hashed : i.links ≡ map (domain_hash i.key) c.args.self.now = c.self.invariant ∙ ap (map (domain_hash i.key)) c.self.view_is in
    next_smaller i.key c.args.domain.now c.args.self.now i.links hashed c.loop-word.word c.before-word.result (omega (arith, c.loop-word-test.true)) c.loop-word.invariant.within c.loop-word.invariant.under c.before-word.ensures

pub loop-word-preserved : goal.loop-word-preserved
loop-word-preserved c =
    let i = c.self.inside in
    let d = c.args.domain.now in
    let rs = c.args.self.now in
    let word = c.loop-word.word in
    let next = c.before-word.result in
    let r = c.index.result.now in
    let found = c.loop-word.exchangers.items in
    let some : 0 < word = omega (arith, c.loop-word-test.true) in
    let hashed : i.links ≡ map (domain_hash i.key) rs = c.self.invariant ∙ ap (map (domain_hash i.key)) c.self.view_is in
    let within = next_within i.key d rs i.links hashed word next some c.loop-word.invariant.within c.loop-word.invariant.under c.before-word.ensures in
    let here = c.index.ensures ∙ ap (λ rs. get_or rs (word - 1) r) c.self.view_is in
    let before = filter_map (own_exchange d) (take next rs) in
    let shows : List (Bor Exchange) → List Exchange = λ es. reverse (map (λ e. e.now) es) in
    let whole : (before ++ cons_option (own_exchange d r) []) ++ shows found ≡ filter_map (own_exchange d) rs =
    ap (λ es. es ++ shows found) (sym (exchanges_from i.key d rs i.links hashed word next some c.loop-word.invariant.within c.loop-word.invariant.under c.before-word.ensures r here)) ∙ c.loop-word.invariant.found in
    record {
      within = within.0;
      under = within.1;
      found = elim c.match-own_exchange.branch [
        | in-Some+in_ok-push w ↦
            let e = w.in-Some.exchange in
            ap (λ v. before ++ shows v.items) w.exchangers-is
            ∙ ap (λ es. before ++ shows es) w.in_ok-push.ensures.items
            ∙ ap (λ es. before ++ reverse es) (map_push (λ (e : Bor Exchange). e.now) found e)
            ∙ found_more before (map (λ e. e.now) found) (filter_map (own_exchange d) rs) (own_exchange d r) e.now (sym c.own_exchange.ensures ∙ ap option_copied w.in-Some.is) whole
        | in_default w ↦
            ap (λ v. before ++ shows v.items) w.exchangers-is
            ∙ found_none before (shows found) (filter_map (own_exchange d) rs) (own_exchange d r) (sym c.own_exchange.ensures ∙ ap option_copied w.in_default.is) whole
      ];
    }

pub returns : goal.returns
returns c =
    let d = c.args.domain.now in
    let rs = c.args.self.now in
    let found = c.loop-word.exchangers.items in
    ap (map (λ (e : Bor Exchange). e.now)) c.reverse.ensures.items
    ∙ map-reverse (λ (e : Bor Exchange). e.now) found
    ∙ ap (λ n. filter_map (own_exchange d) (take n rs) ++ reverse (map (λ e. e.now) found)) (sym c.loop-word-test.false)
    ∙ c.loop-word.invariant.found
    ∙ own_exchangers d rs
