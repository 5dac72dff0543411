-- The hosts of a domain are those of its lines.
use Rattle.std.proofs.Common.{◌≡◌, ℕ, Bool, true, false, not, ◌&&◌, ◌||◌, cond, eqb, ltb, List, [], ◌∷◌, ◌++◌, map, filter, Option, Some, None, Ok, Err, refl, sym, ap, ◌∙◌, arith}
use Rattle.std.specs.Prelude.{Result, is_some}
use Rattle.std.specs.List.{list_all, list_any}
use Rattle.std.specs.Str.{bytes_eq}
use Rattle.std.proofs.lemmas.Bool.{true≢false, and_right, eqb-true, ltb-true}
use Rattle.std.proofs.lemmas.List.{append-nil, append_assoc, map-append}
use Rattle.std.proofs.lemmas.List.Elements.{filter-append, filter_agree}
use Rattle.std.proofs.lemmas.List.Folds.{list_all-append}
use Rattle.relay_text.specs.Bytes.{each_after, firsts, has_text}
use Rattle.relay_text.specs.Lines.{kept_lines}
use Rattle.relay_routes.specs.declared.exchange.Exchange.{Exchange}
use Rattle.relay_routes.specs.declared.exchanger_fates.Numbered.{Numbered}
use Rattle.relay_routes.specs.declared.exchanger_fates.ExchangerLine.{ExchangerLine}
use Rattle.relay_routes.specs.declared.unrouted.Unrouted.{Unrouted}
use Rattle.relay_routes.specs.declared.unrouted.Unrouted.TheVariants.{NullMx}
use Rattle.relay_routes.specs.Exchanges.{exchangers, hosts_before_relay, hosts_of, in_preference_order, is_before_relay, is_null, mx_table_of, null_host, some_hosts}
use Rattle.relay_routes.specs.ExchangerLines.{exchange_by, exchanger_lines_of, exchangers_on, exchangers_or, fate_by, fate_of, first_address, good_exchanges, hosts_by, is_host, is_null_line, is_same, line_with, numbered, with_fates}
use Rattle.relay_routes.proofs.FirstHosts.{both_tests, firsts-filter, firsts-firsts, unseen, unseen-none}
use Rattle.relay_routes.proofs.HostChoices.{is_live}
use Rattle.relay_routes.proofs.MxLookups.{bytes_eq_swap}
use Rattle.relay_routes.proofs.ReadExchangers.{exchange_at, exchanges_on, has_address_on, address_not_null}
use Rattle.relay_routes.proofs.Runs.{hosts_of_preference, map_kept, order_same}

-- ---- what a fate says
fate_is_host : (null own before new : Bool) (n : Numbered) → is_host (line_with (fate_by null own before new) n) ≡ (not null && (not own && (before && new)))
fate_is_host true own before new n = refl
fate_is_host false true before new n = refl
fate_is_host false false false new n = refl
fate_is_host false false true true n = refl
fate_is_host false false true false n = refl

fate_is_null : (null own before new : Bool) (n : Numbered) → is_null_line (line_with (fate_by null own before new) n) ≡ null
fate_is_null true own before new n = refl
fate_is_null false true before new n = refl
fate_is_null false false false new n = refl
fate_is_null false false true true n = refl
fate_is_null false false true false n = refl

-- the lines of exchangers behind earlier ones
abbrev lines_after : List (List ℕ) → List Numbered → List Numbered → List Numbered → List ExchangerLine
lines_after own_names all earlier rest = each_after (λ earlier n. line_with (fate_of own_names all earlier n.exchange) n ∷ []) earlier rest

null_lines : (own_names : List (List ℕ)) (all earlier rest : List Numbered) → list_all is_null_line (lines_after own_names all earlier rest) ≡ list_all is_null (map exchange_at rest)
null_lines own_names all earlier [] = refl
null_lines own_names all earlier (n ∷ rest) =
    let e = n.exchange in
    ap (λ t. t && list_all is_null_line (lines_after own_names all (earlier ++ n ∷ []) rest)) (fate_is_null (is_null e) (has_text own_names e.host) (is_before_relay own_names (good_exchanges all) e) (not (list_any (is_same e) earlier)) n)
    ∙ ap (λ t. is_null e && t) (null_lines own_names all (earlier ++ n ∷ []) rest)

-- The relay itself doesn't come before itself.
own_not_before : (own_names : List (List ℕ)) (xs ys : List Exchange) (e : Exchange) → is_null e ≡ false → has_text own_names e.host ≡ true → is_before_relay own_names (filter is_live (xs ++ e ∷ ys)) e ≡ false
own_not_before own_names xs ys e live own =
    let is_own = λ (x : Exchange). has_text own_names x.host in
    let is_ahead = λ (x : Exchange). ltb e.preference x.preference in
    let lives : filter is_live (e ∷ ys) ≡ e ∷ filter is_live ys = ap (λ t. cond (not t) (e ∷ filter is_live ys) (filter is_live ys)) live in
    let owns : filter is_own (e ∷ filter is_live ys) ≡ e ∷ filter is_own (filter is_live ys) = ap (λ t. cond t (e ∷ filter is_own (filter is_live ys)) (filter is_own (filter is_live ys))) own in
    ap (λ zs. list_all is_ahead (filter is_own zs)) (filter-append is_live xs (e ∷ ys) ∙ ap (λ zs. filter is_live xs ++ zs) lives)
    ∙ ap (list_all is_ahead) (filter-append is_own (filter is_live xs) (e ∷ filter is_live ys) ∙ ap (λ zs. filter is_own (filter is_live xs) ++ zs) owns)
    ∙ list_all-append is_ahead (filter is_own (filter is_live xs)) (e ∷ filter is_own (filter is_live ys))
    ∙ and_right (list_all is_ahead (filter is_own (filter is_live xs))) _ (ap (λ t. t && list_all is_ahead (filter is_own (filter is_live ys))) (not_below e.preference)) where
      not_below : (p : ℕ) → ltb p p ≡ false
      not_below p = at (ltb p p) refl where
        at : (t : Bool) → ltb p p ≡ t → t ≡ false
        at true h = absurd (omega (arith, ltb-true p p h))
        at false h = refl

-- ---- the hosts of one preference
module _ (own_names : List (List ℕ)) (all : List Numbered) (q : ℕ) where
  abbrev before_at : ℕ → Bool
  before_at p = list_all (λ (own : Exchange). ltb p own.preference) (filter (λ (x : Exchange). has_text own_names x.host) (good_exchanges all))

  -- whether a host of the preference is tried
  abbrev is_tried : List ℕ → Bool
  is_tried host = not (bytes_eq host null_host) && before_at q

  both_same : (live before here at : Bool) → (here ≡ true → before ≡ at) → ((live && before) && here) ≡ (here && (live && at))
  both_same true true true at same = same refl
  both_same true false true at same = same refl
  both_same true true false at same = refl
  both_same true false false at same = refl
  both_same false before true at same = refl
  both_same false before false at same = refl

  tried_hosts : (es : List Exchange) → hosts_of_preference q (filter (is_before_relay own_names (good_exchanges all)) (filter is_live es)) ≡ filter is_tried (hosts_of_preference q es)
  tried_hosts es =
      let is_before = λ (e : Exchange). before_at e.preference in
      let is_here = λ (e : Exchange). eqb e.preference q in
      let host = λ (e : Exchange). e.host in
      ap (λ xs. map host (filter is_here xs)) (both_tests is_before is_live (λ e. is_live e && is_before e) (λ e. refl) es)
      ∙ ap (map host) (both_tests is_here (λ e. is_live e && is_before e) (λ e. (is_live e && is_before e) && is_here e) (λ e. refl) es)
      ∙ ap (map host) (filter_agree (λ e. (is_live e && is_before e) && is_here e) (λ e. is_here e && is_tried e.host)
      (λ e. both_same (is_live e) (is_before e) (is_here e) (before_at q) (λ here. ap before_at (eqb-true e.preference q here))) es)
      ∙ ap (map host) (sym (both_tests (λ e. is_tried e.host) is_here (λ e. is_here e && is_tried e.host) (λ e. refl) es))
      ∙ sym (map_kept host is_tried (filter is_here es))

  -- the hosts that lines give
  abbrev line_hosts : List ℕ → List ExchangerLine → List (List ℕ)
  line_hosts domain ls = hosts_of_preference q (map (exchange_by domain) (filter is_host ls))

  one_line : (domain : List ℕ) (l : ExchangerLine) (ls : List ExchangerLine) → line_hosts domain (l ∷ ls) ≡ cond (is_host l && eqb l.preference q) (l.host ∷ line_hosts domain ls) (line_hosts domain ls)
  one_line domain l ls = at (is_host l) where
    by_test : (t : Bool) → map (λ (e : Exchange). e.host) (cond t (exchange_by domain l ∷ filter (λ (e : Exchange). eqb e.preference q) (map (exchange_by domain) (filter is_host ls))) (filter (λ (e : Exchange). eqb e.preference q) (map (exchange_by domain) (filter is_host ls))))
        ≡ cond t (l.host ∷ line_hosts domain ls) (line_hosts domain ls)
    by_test true = refl
    by_test false = refl

    at : (t : Bool) → hosts_of_preference q (map (exchange_by domain) (cond t (l ∷ filter is_host ls) (filter is_host ls))) ≡ cond (t && eqb l.preference q) (l.host ∷ line_hosts domain ls) (line_hosts domain ls)
    at true = by_test (eqb l.preference q)
    at false = refl

  -- the hosts of exchangers of the preference
  abbrev hosts_here : List Numbered → List (List ℕ)
  hosts_here ns = hosts_of_preference q (map exchange_at ns)

  hosts_more : (earlier : List Numbered) (n : Numbered) → hosts_here (earlier ++ n ∷ []) ≡ hosts_here earlier ++ cond (eqb n.exchange.preference q) (n.exchange.host ∷ []) []
  hosts_more earlier n =
      let is_here = λ (e : Exchange). eqb e.preference q in
      ap (hosts_of_preference q) (map-append exchange_at earlier (n ∷ []))
      ∙ ap (map (λ (e : Exchange). e.host)) (filter-append is_here (map exchange_at earlier) (n.exchange ∷ []))
      ∙ map-append (λ (e : Exchange). e.host) (filter is_here (map exchange_at earlier)) (filter is_here (n.exchange ∷ []))
      ∙ ap (λ hs. hosts_here earlier ++ hs) (at (eqb n.exchange.preference q)) where
        at : (t : Bool) → map (λ (e : Exchange). e.host) (cond t (n.exchange ∷ []) []) ≡ cond t (n.exchange.host ∷ []) []
        at true = refl
        at false = refl

  -- An earlier one has the same preference and host where its host is among theirs.
  among_hosts : (e : Exchange) (earlier : List Numbered) → e.preference ≡ q → list_any (is_same e) earlier ≡ has_text (hosts_here earlier) e.host
  among_hosts e [] here = refl
  among_hosts e (n ∷ earlier) here =
      ap (λ p. (eqb n.exchange.preference p && bytes_eq n.exchange.host e.host) || list_any (is_same e) earlier) here
      ∙ ap (λ t. (eqb n.exchange.preference q && bytes_eq n.exchange.host e.host) || t) (among_hosts e earlier here)
      ∙ at (eqb n.exchange.preference q) where
        at : (t : Bool) → ((t && bytes_eq n.exchange.host e.host) || has_text (hosts_here earlier) e.host)
            ≡ has_text (map (λ (x : Exchange). x.host) (cond t (n.exchange ∷ filter (λ (x : Exchange). eqb x.preference q) (map exchange_at earlier)) (filter (λ (x : Exchange). eqb x.preference q) (map exchange_at earlier)))) e.host
        at true = ap (λ t. t || has_text (hosts_here earlier) e.host) (bytes_eq_swap n.exchange.host e.host)
        at false = refl

  -- What one exchanger of the preference adds.
  adds_host : (null own before : Bool) (host : List ℕ) (seen left hosts : List (List ℕ)) → null ≡ bytes_eq host null_host → before ≡ before_at q → (null ≡ false → own ≡ true → before ≡ false)
      → hosts ≡ filter is_tried left
      → cond ((not null && (not own && (before && not (has_text seen host)))) && true) (host ∷ hosts) hosts ≡ filter is_tried (cond (has_text seen host) left (host ∷ left))
  adds_host null own before host seen left hosts null_is before_is own_is later = at (has_text seen host) where
    tried : (not null && before) ≡ is_tried host
    tried = ap (λ t. not t && before) null_is ∙ ap (λ t. not (bytes_eq host null_host) && t) before_is

    was_seen : (null own before : Bool) → ((not null && (not own && (before && false))) && true) ≡ false
    was_seen true own before = refl
    was_seen false true before = refl
    was_seen false false true = refl
    was_seen false false false = refl

    is_new : (null own before : Bool) → (null ≡ false → own ≡ true → before ≡ false) → ((not null && (not own && (before && true))) && true) ≡ (not null && before)
    is_new true own before h = refl
    is_new false true before h = sym (h refl refl)
    is_new false false true h = refl
    is_new false false false h = refl

    by_test : (t : Bool) → cond t (host ∷ hosts) hosts ≡ cond t (host ∷ filter is_tried left) (filter is_tried left)
    by_test true = ap (λ hs. host ∷ hs) later
    by_test false = later

    at : (t : Bool) → cond ((not null && (not own && (before && not t))) && true) (host ∷ hosts) hosts ≡ filter is_tried (cond t left (host ∷ left))
    at true = ap (λ t. cond t (host ∷ hosts) hosts) (was_seen null own before) ∙ later
    at false = ap (λ t. cond t (host ∷ hosts) hosts) (is_new null own before own_is ∙ tried) ∙ by_test (is_tried host)

  -- the exchangers before one, itself and those behind it
  own_before_none : (earlier rest : List Numbered) (n : Numbered) → all ≡ earlier ++ n ∷ rest → is_null n.exchange ≡ false → has_text own_names n.exchange.host ≡ true → before_at n.exchange.preference ≡ false
  own_before_none earlier rest n split live own =
      ap (λ xs. is_before_relay own_names (filter is_live xs) n.exchange) (ap (map exchange_at) split ∙ map-append exchange_at earlier (n ∷ rest))
      ∙ own_not_before own_names (map exchange_at earlier) (map exchange_at rest) n.exchange live own

  adds_one : (earlier rest : List Numbered) (n : Numbered) (hosts : List (List ℕ)) → all ≡ earlier ++ n ∷ rest → hosts ≡ filter is_tried (unseen (hosts_here (earlier ++ n ∷ [])) (hosts_here rest))
      → (t : Bool) → eqb n.exchange.preference q ≡ t
      → cond ((not (is_null n.exchange) && (not (has_text own_names n.exchange.host) && (before_at n.exchange.preference && not (list_any (is_same n.exchange) earlier)))) && t) (n.exchange.host ∷ hosts) hosts
      ≡ filter is_tried (unseen (hosts_here earlier) (map (λ (x : Exchange). x.host) (cond t (n.exchange ∷ filter (λ (x : Exchange). eqb x.preference q) (map exchange_at rest)) (filter (λ (x : Exchange). eqb x.preference q) (map exchange_at rest)))))
  adds_one earlier rest n hosts split later true h =
      let e = n.exchange in
      let seen : hosts_here (earlier ++ n ∷ []) ≡ hosts_here earlier ++ e.host ∷ [] = hosts_more earlier n ∙ ap (λ t. hosts_here earlier ++ cond t (e.host ∷ []) []) h in
      ap (λ t. cond ((not (is_null e) && (not (has_text own_names e.host) && (before_at e.preference && not t))) && true) (e.host ∷ hosts) hosts) (among_hosts e earlier (eqb-true e.preference q h))
      ∙ adds_host (is_null e) (has_text own_names e.host) (before_at e.preference) e.host (hosts_here earlier) (unseen (hosts_here earlier ++ e.host ∷ []) (hosts_here rest)) hosts
      refl (ap before_at (eqb-true e.preference q h)) (own_before_none earlier rest n split) (later ∙ ap (λ hs. filter is_tried (unseen hs (hosts_here rest))) seen)
  adds_one earlier rest n hosts split later false h =
      let e = n.exchange in
      let seen : hosts_here (earlier ++ n ∷ []) ≡ hosts_here earlier = hosts_more earlier n ∙ ap (λ t. hosts_here earlier ++ cond t (e.host ∷ []) []) h ∙ append-nil (hosts_here earlier) in
      ap (λ t. cond t (e.host ∷ hosts) hosts) (and_right (not (is_null e) && (not (has_text own_names e.host) && (before_at e.preference && not (list_any (is_same e) earlier)))) false refl)
      ∙ later ∙ ap (λ hs. filter is_tried (unseen hs (hosts_here rest))) seen

  -- The hosts of the lines are those of the exchangers that are tried, each once.
  hosts_after : (domain : List ℕ) (earlier rest : List Numbered) → all ≡ earlier ++ rest → line_hosts domain (lines_after own_names all earlier rest) ≡ filter is_tried (unseen (hosts_here earlier) (hosts_here rest))
  hosts_after domain earlier [] split = refl
  hosts_after domain earlier (n ∷ rest) split =
      let e = n.exchange in
      let more = lines_after own_names all (earlier ++ n ∷ []) rest in
      one_line domain (line_with (fate_of own_names all earlier e) n) more
      ∙ ap (λ t. cond (t && eqb e.preference q) (e.host ∷ line_hosts domain more) (line_hosts domain more)) (fate_is_host (is_null e) (has_text own_names e.host) (before_at e.preference) (not (list_any (is_same e) earlier)) n)
      ∙ adds_one earlier rest n (line_hosts domain more) split (hosts_after domain (earlier ++ n ∷ []) rest (split ∙ sym (append_assoc earlier (n ∷ []) rest))) (eqb e.preference q) refl

  -- so each is there once
  pub firsts_same : (domain : List ℕ) → firsts bytes_eq (line_hosts domain (with_fates own_names all))
      ≡ firsts bytes_eq (hosts_of_preference q (filter (is_before_relay own_names (good_exchanges all)) (good_exchanges all)))
  firsts_same domain =
      ap (firsts bytes_eq) (hosts_after domain [] all refl ∙ ap (filter is_tried) (unseen-none (hosts_here all)))
      ∙ sym (firsts-filter is_tried (firsts bytes_eq (hosts_here all)))
      ∙ ap (filter is_tried) (firsts-firsts (hosts_here all))
      ∙ firsts-filter is_tried (hosts_here all)
      ∙ ap (firsts bytes_eq) (sym (tried_hosts (map exchange_at all)))

-- ---- what a domain's lines give, and what its exchangers give
order_by_lines : (own_names : List (List ℕ)) (all : List Numbered) (domain : List ℕ) (seed : ℕ)
    → in_preference_order seed (map (exchange_by domain) (filter is_host (with_fates own_names all))) ≡ in_preference_order seed (filter (is_before_relay own_names (good_exchanges all)) (good_exchanges all))
order_by_lines own_names all domain seed = order_same _ _ seed (λ q. firsts_same own_names all q domain)

-- where there are exchangers
abbrev hosts_of_some : List (List ℕ) → ℕ → Bool → List Exchange → Result (List (List ℕ)) Unrouted
hosts_of_some own_names seed none good = cond none (Err NullMx) (some_hosts (in_preference_order seed (filter (is_before_relay own_names good) good)))

some_lines : (own_names : List (List ℕ)) (domain : List ℕ) (seed : ℕ) (n : Numbered) (ns : List Numbered)
    → hosts_by domain seed (with_fates own_names (n ∷ ns)) ≡ hosts_of_some own_names seed (list_all is_null (map exchange_at (n ∷ ns))) (good_exchanges (n ∷ ns))
some_lines own_names domain seed n ns =
    ap (λ t. cond t (Err NullMx) (some_hosts (in_preference_order seed (map (exchange_by domain) (filter is_host (with_fates own_names (n ∷ ns))))))) (null_lines own_names (n ∷ ns) [] (n ∷ ns))
    ∙ ap (λ hs. cond (list_all is_null (map exchange_at (n ∷ ns))) (Err NullMx) (some_hosts hs)) (order_by_lines own_names (n ∷ ns) domain seed)

some_exchangers : (own_names : List (List ℕ)) (domain : List ℕ) (seed : ℕ) (e : Exchange) (es : List Exchange) (has : Bool)
    → hosts_before_relay (exchangers (e ∷ es) has domain) own_names seed ≡ hosts_of_some own_names seed (list_all is_null (e ∷ es)) (filter is_live (e ∷ es))
some_exchangers own_names domain seed e es has = at (list_all is_null (e ∷ es)) where
  at : (t : Bool) → hosts_before_relay (cond t (Err NullMx) (Ok (filter is_live (e ∷ es)))) own_names seed ≡ hosts_of_some own_names seed t (filter is_live (e ∷ es))
  at true = refl
  at false = refl

-- a domain that is its own exchanger
itself : (own_names : List (List ℕ)) (seed : ℕ) (e : Exchange) (t : Bool) → t ≡ false
    → some_hosts (in_preference_order seed (filter (is_before_relay own_names (e ∷ [])) (e ∷ []))) ≡ hosts_of_some own_names seed (t && true) (cond (not t) (e ∷ []) [])
itself own_names seed e true named = absurd (true≢false named)
itself own_names seed e false named = refl

by_parts : (own_names : List (List ℕ)) (domain : List ℕ) (seed : ℕ) (ns : List Numbered) (o : Option ℕ) (es : List Exchange) (has : Bool)
    → (is_some o ≡ true → bytes_eq domain null_host ≡ false) → map exchange_at ns ≡ es → has ≡ is_some o
    → hosts_before_relay (exchangers es has domain) own_names seed ≡ hosts_by domain seed (with_fates own_names (exchangers_or ns o domain))
by_parts own_names domain seed (n ∷ ns) o es has named same there =
    ap (λ xs. hosts_before_relay (exchangers xs has domain) own_names seed) (sym same)
    ∙ some_exchangers own_names domain seed n.exchange (map exchange_at ns) has
    ∙ sym (some_lines own_names domain seed n ns)
by_parts own_names domain seed [] None es has named same there =
    ap (λ xs. hosts_before_relay (exchangers xs has domain) own_names seed) (sym same)
    ∙ ap (λ t. hosts_before_relay (exchangers [] t domain) own_names seed) there
by_parts own_names domain seed [] (Some number) es has named same there =
    let e : Exchange = record { domain = domain; preference = 0; host = domain } in
    ap (λ xs. hosts_before_relay (exchangers xs has domain) own_names seed) (sym same)
    ∙ ap (λ t. hosts_before_relay (exchangers [] t domain) own_names seed) there
    ∙ itself own_names seed e (bytes_eq domain null_host) (named refl)
    ∙ sym (some_lines own_names domain seed (numbered number e) [])

pub hosts_are : (table domain : List ℕ) (own_names : List (List ℕ)) (seed : ℕ) → hosts_of (mx_table_of table) domain own_names seed ≡ hosts_by domain seed (exchanger_lines_of table domain own_names)
unfolding hosts_of mx_table_of exchanger_lines_of
hosts_are table domain own_names seed =
    let lines = kept_lines table in
    by_parts own_names domain seed (exchangers_on domain lines) (first_address domain lines) _ _ (address_not_null domain lines) (exchanges_on domain lines) (has_address_on domain lines)
