use Rattle.std.proofs.Common.{◌≡◌, ◌∙◌, ◌<◌, ◌-◌, map, take, ap, sym, refl, arith, get_or}
use Rattle.std.specs.List.{list_any}
use Rattle.relay_chains.specs.Links.{last_under}
use Rattle.relay_routes.specs.MxRecords.{domain_hash, is_own_address}
use Rattle.relay_routes.proofs.MxLookups.{starts_within, addresses_at_start, next_smaller, next_within, addresses_from, address_here, no_address_here, own_addresses}
use Rattle.relay_routes.proofs.mx_records.MxRecords.has_address.Goals as goal

pub loop-word-init : goal.loop-word-init
loop-word-init c =
    let i = c.self.inside in
    let rs = c.args.self.now in
    let hashed : i.links ≡ map (domain_hash i.key) rs = c.self.invariant ∙ ap (map (domain_hash i.key)) c.self.view_is in
    let starts = starts_within i.key c.args.domain.now rs i.links hashed c.hash_text.result c.newest-word.result c.hash_text.ensures c.newest-word.ensures in
    record {
      within = starts.0;
      under = starts.1;
      left = addresses_at_start i.key c.args.domain.now rs i.links hashed c.hash_text.result c.newest-word.result c.hash_text.ensures c.newest-word.ensures;
    }

pub returns-then-is_own_address : goal.returns-then-is_own_address
returns-then-is_own_address c =
    let i = c.self.inside in
    let d = c.args.domain.now in
    let rs = c.args.self.now in
    let word = c.loop-word.word in
    let r = c.index.result.now in
    let some : 0 < word = omega (arith, c.loop-word-test.true) in
    let hashed : i.links ≡ map (domain_hash i.key) rs = c.self.invariant ∙ ap (map (domain_hash i.key)) c.self.view_is in
    let next = last_under i.links (get_or i.links (word - 1) 0) (word - 1) in
    let here = c.index.ensures ∙ ap (λ rs. get_or rs (word - 1) r) c.self.view_is in
    address_here (list_any (is_own_address d) (take next rs)) (is_own_address d r) (sym c.is_own_address.ensures ∙ c.if-is_own_address.true)
    ∙ sym (addresses_from i.key d rs i.links hashed word next some c.loop-word.invariant.within c.loop-word.invariant.under refl r here)
    ∙ c.loop-word.invariant.left
    ∙ own_addresses d rs

pub loop-word-smaller : goal.loop-word-smaller
loop-word-smaller c =
    let i = c.self.inside in
    let hashed : i.links ≡ map (domain_hash i.key) c.args.self.now = c.self.invariant ∙ ap (map (domain_hash i.key)) c.self.view_is in
    next_smaller i.key c.args.domain.now c.args.self.now i.links hashed c.loop-word.word c.before-word.result (omega (arith, c.loop-word-test.true)) c.loop-word.invariant.within c.loop-word.invariant.under c.before-word.ensures

pub loop-word-preserved : goal.loop-word-preserved
loop-word-preserved c =
    let i = c.self.inside in
    let d = c.args.domain.now in
    let rs = c.args.self.now in
    let word = c.loop-word.word in
    let next = c.before-word.result in
    let r = c.index.result.now in
    let some : 0 < word = omega (arith, c.loop-word-test.true) in
    let hashed : i.links ≡ map (domain_hash i.key) rs = c.self.invariant ∙ ap (map (domain_hash i.key)) c.self.view_is in
    let within = next_within i.key d rs i.links hashed word next some c.loop-word.invariant.within c.loop-word.invariant.under c.before-word.ensures in
    let here = c.index.ensures ∙ ap (λ rs. get_or rs (word - 1) r) c.self.view_is in
    record {
      within = within.0;
      under = within.1;
      left = no_address_here (list_any (is_own_address d) (take next rs)) (is_own_address d r) (sym c.is_own_address.ensures ∙ c.if-is_own_address.false)
          ∙ sym (addresses_from i.key d rs i.links hashed word next some c.loop-word.invariant.within c.loop-word.invariant.under c.before-word.ensures r here)
          ∙ c.loop-word.invariant.left;
    }

pub returns : goal.returns
returns c =
    let d = c.args.domain.now in
    let rs = c.args.self.now in
    ap (λ n. list_any (is_own_address d) (take n rs)) (sym c.loop-word-test.false) ∙ c.loop-word.invariant.left ∙ own_addresses d rs
