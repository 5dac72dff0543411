-- What becomes of a domain's exchangers, one after another.
use Rattle.std.proofs.Common.{◌≡◌, ℕ, ◌<◌, ◌^◌, None, Bool, true, false, not, ◌||◌, eqb, List, [], ◌∷◌, ◌++◌, map, take, drop, refl, sym, ap, ◌∙◌}
use Rattle.std.specs.Prelude.{Option, nat_lt}
use Rattle.std.specs.Int.{to_be_bytes, from_be_bytes, w16}
use Rattle.std.specs.List.{All, list_all, list_any}
use Rattle.std.specs.Str.{bytes_eq}
use Rattle.std.proofs.lemmas.Bool.{true≢false, and_from, and_parts, eqb-true, eq-eqb}
use Rattle.std.proofs.lemmas.List.{append-nil, append_assoc, map-append}
use Rattle.std.proofs.lemmas.List.Folds.{list_any-append}
use Rattle.std.proofs.lemmas.List.Elements.{All-head, All-nil, All-push, All-tail}
use Rattle.std.proofs.lemmas.Nat.{from_be_bytes-to_be_bytes_2}
use Rattle.std.proofs.lemmas.Slice.Eq.{bytes_eq-Decides}
use Rattle.relay_text.specs.Bytes.{each_after, has_text}
use Rattle.relay_routes.specs.declared.exchange.Exchange.{Exchange}
use Rattle.relay_routes.specs.declared.fate.Fate.{Fate}
use Rattle.relay_routes.specs.declared.exchanger_fates.Numbered.{Numbered}
use Rattle.relay_routes.specs.declared.exchanger_fates.ExchangerLine.{ExchangerLine}
use Rattle.relay_routes.specs.Exchanges.{is_before_relay, is_null}
use Rattle.relay_routes.specs.ExchangerLines.{exchange_key, fate_behind, fate_by, fate_of, good_exchanges, is_same, line_with, with_fates}
use Rattle.relay_routes.specs.Preferences.{is_within, least_own}
use Rattle.relay_routes.proofs.HostChoices.{within_least}
use Rattle.relay_routes.proofs.OwnNames.{filter-same}

-- one more in the row
each_after-push : {X Y : Type 0} (f : List X → X → List Y) (before xs : List X) (x : X) → each_after f before (xs ++ x ∷ []) ≡ each_after f before xs ++ f (before ++ xs) x
each_after-push f before [] x = append-nil (f before x) ∙ ap (λ b. f b x) (sym (append-nil before))
each_after-push f before (y ∷ ys) x =
    ap (λ t. f before y ++ t) (each_after-push f (before ++ y ∷ []) ys x)
    ∙ sym (append_assoc (f before y) (each_after f (before ++ y ∷ []) ys) (f ((before ++ y ∷ []) ++ ys) x))
    ∙ ap (λ b. (f before y ++ each_after f (before ++ y ∷ []) ys) ++ f b x) (append_assoc before (y ∷ []) ys)

each_after-same : {X Y : Type 0} (f g : List X → X → List Y) → ((before : List X) (x : X) → f before x ≡ g before x) → (before xs : List X) → each_after f before xs ≡ each_after g before xs
each_after-same f g same before [] = refl
each_after-same f g same before (x ∷ xs) = ap (λ t. t ++ each_after f (before ++ x ∷ []) xs) (same before x) ∙ ap (λ t. g before x ++ t) (each_after-same f g same (before ++ x ∷ []) xs)

-- what becomes of the first exchangers of all
abbrev pub fates_of_first : List (List ℕ) → List Numbered → List Numbered → List ExchangerLine
fates_of_first own_names all first = each_after (λ earlier n. line_with (fate_of own_names all earlier n.exchange) n ∷ []) [] first

pub one_more_fate : (own_names : List (List ℕ)) (all first : List Numbered) (n : Numbered) → fates_of_first own_names all (first ++ n ∷ []) ≡ fates_of_first own_names all first ++ line_with (fate_of own_names all first n.exchange) n ∷ []
one_more_fate own_names all first n = each_after-push (λ earlier n. line_with (fate_of own_names all earlier n.exchange) n ∷ []) [] first n

-- Two lists with the same names give the same fates.
abbrev row : List (List ℕ) → List Numbered → List Numbered → Numbered → List ExchangerLine
row own_names all earlier n = line_with (fate_of own_names all earlier n.exchange) n ∷ []

row-same : (a b : List (List ℕ)) → ((q : List ℕ) → has_text a q ≡ has_text b q) → (all earlier : List Numbered) (n : Numbered) → row a all earlier n ≡ row b all earlier n
row-same a b same all earlier n =
    let e = n.exchange in
    let is_new = not (list_any (is_same e) earlier) in
    ap (λ own. line_with (fate_by (is_null e) own (is_before_relay a (good_exchanges all) e) is_new) n ∷ []) (same e.host)
    ∙ ap (λ owns. line_with (fate_by (is_null e) (has_text b e.host) (list_all (λ (own : Exchange). nat_lt e.preference own.preference) owns) is_new) n ∷ [])
    (filter-same (λ (x : Exchange). has_text a x.host) (λ (x : Exchange). has_text b x.host) (λ x. same x.host) (good_exchanges all))

pub with_fates-same : (a b : List (List ℕ)) → ((q : List ℕ) → has_text a q ≡ has_text b q) → (es : List Numbered) → with_fates a es ≡ with_fates b es
with_fates-same a b same es = each_after-same (row a es) (row b es) (row-same a b same es) [] es

-- ---- Exchangers have the same key where they have the same preference and host.
abbrev pub PreferenceFits : Numbered → Type 0
PreferenceFits n = n.exchange.preference < 2 ^ 16

abbrev key_by : ℕ → List ℕ → List ℕ
key_by preference host = to_be_bytes w16 preference ++ host

key_parts : (p q : ℕ) (h k : List ℕ) → p < 2 ^ 16 → q < 2 ^ 16 → key_by p h ≡ key_by q k → (q ≡ p) × (k ≡ h)
key_parts p q h k p_fits q_fits same =
    let bytes : to_be_bytes w16 q ≡ to_be_bytes w16 p = sym (ap (take 2) same) in
    (sym (from_be_bytes-to_be_bytes_2 q q_fits) ∙ ap (from_be_bytes w16) bytes ∙ from_be_bytes-to_be_bytes_2 p p_fits, sym (ap (drop 2) same))

same_keys : (e : Exchange) (n : Numbered) → e.preference < 2 ^ 16 → PreferenceFits n → bytes_eq (exchange_key e) (exchange_key n.exchange) ≡ is_same e n
same_keys e n fits also = at (bytes_eq (exchange_key e) (exchange_key n.exchange)) refl (is_same e n) refl where
  at : (s : Bool) → bytes_eq (exchange_key e) (exchange_key n.exchange) ≡ s → (t : Bool) → is_same e n ≡ t → s ≡ t
  at true k true i = refl
  at false k false i = refl
  at true k false i =
      let parts = key_parts e.preference n.exchange.preference e.host n.exchange.host fits also ((bytes_eq-Decides (exchange_key e) (exchange_key n.exchange)).0 k) in
      absurd (true≢false (sym (and_from _ _ (eq-eqb n.exchange.preference e.preference parts.0) ((bytes_eq-Decides n.exchange.host e.host).1 parts.1)) ∙ i))
  at false k true i =
      let parts = and_parts (eqb n.exchange.preference e.preference) (bytes_eq n.exchange.host e.host) i in
      let same : exchange_key e ≡ exchange_key n.exchange =
      ap (λ p. key_by p e.host) (sym (eqb-true n.exchange.preference e.preference parts.0)) ∙ ap (key_by n.exchange.preference) (sym ((bytes_eq-Decides n.exchange.host e.host).0 parts.1)) in
      absurd (true≢false (sym ((bytes_eq-Decides (exchange_key e) (exchange_key n.exchange)).1 same) ∙ k))

-- the keys of exchangers
abbrev pub keys : List Numbered → List (List ℕ)
keys ns = map (λ (n : Numbered). exchange_key n.exchange) ns

pub among_keys : (e : Exchange) (ns : List Numbered) → e.preference < 2 ^ 16 → All PreferenceFits ns → has_text (keys ns) (exchange_key e) ≡ list_any (is_same e) ns
among_keys e [] fits also = refl
among_keys e (n ∷ ns) fits also =
    ap (λ t. t || has_text (keys ns) (exchange_key e)) (same_keys e n fits (All-head PreferenceFits n ns also))
    ∙ ap (λ t. is_same e n || t) (among_keys e ns fits (All-tail PreferenceFits n ns also))

-- one more key
pub key_more : (ns : List Numbered) (n : Numbered) (q : List ℕ) → has_text (keys (ns ++ n ∷ [])) q ≡ (bytes_eq q (exchange_key n.exchange) || has_text (keys ns) q)
key_more ns n q =
    ap (λ ks. has_text ks q) (map-append (λ (m : Numbered). exchange_key m.exchange) ns (n ∷ []))
    ∙ list_any-append (bytes_eq q) (keys ns) (exchange_key n.exchange ∷ [])
    ∙ turned (has_text (keys ns) q) (bytes_eq q (exchange_key n.exchange)) where
      turned : (a b : Bool) → (a || (b || false)) ≡ (b || a)
      turned true true = refl
      turned true false = refl
      turned false true = refl
      turned false false = refl

-- The fate that is found for one behind earlier ones, by the least own preference and the keys of these.
pub fate_found : (own_names : List (List ℕ)) (all earlier : List Numbered) (e : Exchange) (limit : Option ℕ) (seen : List (List ℕ)) → e.preference < 2 ^ 16 → All PreferenceFits earlier
    → limit ≡ least_own own_names (good_exchanges all) → ((q : List ℕ) → has_text seen q ≡ has_text (keys earlier) q)
    → fate_by (is_null e) (has_text own_names e.host) (is_within limit e.preference) (not (has_text seen (exchange_key e))) ≡ fate_of own_names all earlier e
fate_found own_names all earlier e limit seen fits also limit_is seen_is =
    ap (λ (l : Option ℕ). fate_by (is_null e) (has_text own_names e.host) (is_within l e.preference) (not (has_text seen (exchange_key e)))) limit_is
    ∙ ap (λ before. fate_by (is_null e) (has_text own_names e.host) before (not (has_text seen (exchange_key e)))) (within_least own_names None (good_exchanges all) e.preference)
    ∙ ap (λ is_seen. fate_by (is_null e) (has_text own_names e.host) (is_before_relay own_names (good_exchanges all) e) (not is_seen)) (seen_is (exchange_key e) ∙ among_keys e earlier fits also)

-- ---- exchanger after exchanger
-- what is known after the first exchangers: what became of them, and their keys
pub record AreFated (own_names : List (List ℕ)) (all first : List Numbered) (lines : List ExchangerLine) (seen : List (List ℕ)) : Type 0 where
  pub fits : All PreferenceFits first
  pub made : lines ≡ fates_of_first own_names all first
  pub keys_are : (q : List ℕ) → has_text seen q ≡ has_text (keys first) q

pub none_fated : (own_names : List (List ℕ)) (all : List Numbered) (lines : List ExchangerLine) (seen : List (List ℕ)) → lines ≡ [] → seen ≡ [] → AreFated own_names all [] lines seen
none_fated own_names all lines seen no_lines no_keys = record {
  fits = All-nil PreferenceFits;
  made = no_lines;
  keys_are = λ q. ap (λ (ks : List (List ℕ)). has_text ks q) no_keys;
}

pub one_fated : (own_names : List (List ℕ)) (all first : List Numbered) (n : Numbered) (lines more : List ExchangerLine) (seen later : List (List ℕ)) (limit : Option ℕ) (fate : Fate) (line : ExchangerLine)
    → AreFated own_names all first lines seen → PreferenceFits n → limit ≡ least_own own_names (good_exchanges all)
    → fate ≡ fate_behind own_names limit seen n.exchange → line ≡ line_with fate n → more ≡ lines ++ line ∷ []
    → ((q : List ℕ) → has_text later q ≡ (bytes_eq q (exchange_key n.exchange) || has_text seen q)) → AreFated own_names all (first ++ n ∷ []) more later
one_fated own_names all first n lines more seen later limit fate line was fits limit_is fate_is line_is more_is later_is =
    let e = n.exchange in
    let found : fate ≡ fate_of own_names all first e = fate_is ∙ fate_found own_names all first e limit seen fits was.fits limit_is was.keys_are in
    record {
      fits = All-push PreferenceFits first n was.fits fits;
      made =
          more_is
          ∙ ap (λ l. lines ++ l ∷ []) (line_is ∙ ap (λ f. line_with f n) found)
          ∙ ap (λ ls. ls ++ line_with (fate_of own_names all first e) n ∷ []) was.made
          ∙ sym (one_more_fate own_names all first n);
      keys_are = λ q.
          later_is q
          ∙ ap (λ t. bytes_eq q (exchange_key e) || t) (was.keys_are q)
          ∙ sym (key_more first n q);
    }

-- what is found of one, by what was asked of it
pub behind : (own_names seen : List (List ℕ)) (limit : Option ℕ) (e : Exchange) (null own before is_new : Bool) (key : List ℕ) (fate : Fate) → fate ≡ fate_by null own before is_new
    → null ≡ is_null e → own ≡ has_text own_names e.host → before ≡ is_within limit e.preference → is_new ≡ not (has_text seen key) → key ≡ exchange_key e → fate ≡ fate_behind own_names limit seen e
behind own_names seen limit e null own before is_new key fate fate_is null_is own_is before_is new_is key_is =
    fate_is
    ∙ ap (λ t. fate_by t own before is_new) null_is
    ∙ ap (λ t. fate_by (is_null e) t before is_new) own_is
    ∙ ap (λ t. fate_by (is_null e) (has_text own_names e.host) t is_new) before_is
    ∙ ap (λ t. fate_by (is_null e) (has_text own_names e.host) (is_within limit e.preference) t) (new_is ∙ ap (λ k. not (has_text seen k)) key_is)
