-- How the settings follow from a pass over their lines.
use Rattle.std.proofs.Common.{◌≡◌, ℕ, suc, ◌+◌, Bool, true, false, not, cond, ◌&&◌, ◌||◌, ◌⊎◌, inl, inr, ltb, List, [], ◌∷◌, ◌++◌, codes, length, take, drop, Option, Some, None, refl, sym, ap, ◌∙◌, subst, arith}
use Rattle.std.specs.List.{list_any, slice_get, position, position_or_len}
use Rattle.std.specs.Option.{option_and_then, option_map, option_or, is_some}
use Rattle.std.specs.Str.{bytes_eq}
use Rattle.std.proofs.Math.Path.{fun_ext}
use Rattle.std.proofs.lemmas.Bool.{and_parts, or_parts, not-true, false_from_ne_true, lt-ltb}
use Rattle.std.proofs.lemmas.Bool.Decides.{nat_tests}
use Rattle.std.proofs.lemmas.Option.{cond_some, same_Some}
use Rattle.std.proofs.lemmas.Slice.Eq.{bytes_eq-Decides}
use Rattle.std.proofs.lemmas.List.Folds.{list_any-append}
use Rattle.relay_text.specs.Bytes.{trimmed, each_after, first_of}
use Rattle.relay_text.specs.Lines.{is_ignored}
use Rattle.relay_text.specs.declared.lines.Line.{Line}
use Rattle.relay_job.specs.declared.fault.RunFault.{RunFault}
use Rattle.relay_job.specs.declared.fault.RunFault.TheVariants.{BadSetting, Memory}
use Rattle.relay_job.specs.declared.setting_values.SettingValues.{SettingValues}
use Rattle.relay_job.specs.Settings.{Setting, is_equals, setting_of, is_good_setting, has_key, breaks_settings, setting_lines, value_at}
use Rattle.relay_job.specs.SettingValues.{values_by, with_setting, takes_memory, AreRead, HasSet, HasSetBy, AreValuesOf}
use Rattle.relay_job.specs.Reasons.{is_limit_key}
use Rattle.relay_job.specs.JobParts.{first_bad_setting, Stops}

or_false : (b : Bool) → (b || false) ≡ b
or_false true = refl
or_false false = refl

-- Where a line's first `=` stands.
ltb_suc : (m n : ℕ) → ltb m n ≡ ltb (1 + m) (suc n)
ltb_suc m n = grind (arith, nat_tests)

any_is_place : (test : ℕ → Bool) (xs : List ℕ) → list_any test xs ≡ ltb (position_or_len test xs) (length xs)
any_is_place test [] = refl
any_is_place test (x ∷ xs) = at (test x) (position_or_len test xs) (any_is_place test xs) where
  at : (t : Bool) (m : ℕ) → list_any test xs ≡ ltb m (length xs) → (t || list_any test xs) ≡ ltb (cond (not t) (1 + m) 0) (suc (length xs))
  at true m e = sym (lt-ltb 0 (suc (length xs)) (omega arith))
  at false m e = e ∙ ltb_suc m (length xs)

pub setting_of-found : (line : List ℕ) (n : ℕ) (key value : List ℕ) → Some n ≡ position is_equals line → key ≡ trimmed (take n line) → value ≡ trimmed (drop (n + 1) line) → ◌≡◌ {A = Option Setting} (Some (record { key = key; value = value })) (setting_of line)
setting_of-found line n key value h k v =
    let found = cond_some (ltb (position_or_len is_equals line) (length line)) (position_or_len is_equals line) n (sym h) in
    let any : list_any is_equals line ≡ true = any_is_place is_equals line ∙ found.0 in
    let place : position_or_len is_equals line ≡ n = found.1 in
    sym (rw (any, place, ← k, ← v))

pub setting_of-missing : (line : List ℕ) → None ≡ position is_equals line → None ≡ setting_of line
setting_of-missing line h = at (ltb (position_or_len is_equals line) (length line)) (any_is_place is_equals line) h where
  at : (t : Bool) → list_any is_equals line ≡ t → None ≡ cond t (Some (position_or_len is_equals line)) None → None ≡ setting_of line
  at true e f = cc
  at false e f = sym (rw e)

-- the numbers of the lines that break the settings, after those before them
abbrev pub bad_after : List Line → List Line → List ℕ
bad_after done rest = each_after (λ earlier x. cond (breaks_settings earlier x) (x.number ∷ []) []) done rest

breaks-setting : (done : List Line) (x : Line) (s : Setting) → is_ignored x.text ≡ false → setting_of x.text ≡ Some s → breaks_settings done x ≡ (not (is_good_setting s) || has_key done s.key)
breaks-setting done x s e f = rw (e, f)

breaks-nameless : (done : List Line) (x : Line) → is_ignored x.text ≡ false → setting_of x.text ≡ None → breaks_settings done x ≡ true
breaks-nameless done x e f = rw (e, f)

first-bad : (lines done : List Line) (x : Line) (xs : List Line) → bad_after done (setting_lines (x ∷ xs)) ≡ bad_after [] (setting_lines lines) → is_ignored x.text ≡ false → breaks_settings done x ≡ true → first_bad_setting lines ≡ Some x.number
first-bad lines done x xs h e b = ap (λ (ns : List ℕ). slice_get ns 0) (sym (rw e at h)) ∙ at (breaks_settings done x) b where
  at : (t : Bool) → t ≡ true → slice_get (cond t (x.number ∷ []) [] ++ bad_after (done ++ x ∷ []) (setting_lines xs)) 0 ≡ Some x.number
  at t g = rw g

not-bad : (done : List Line) (x : Line) (xs : List Line) (all : List ℕ) → bad_after done (setting_lines (x ∷ xs)) ≡ all → is_ignored x.text ≡ false → breaks_settings done x ≡ false → bad_after (done ++ x ∷ []) (setting_lines xs) ≡ all
not-bad done x xs all h e b = at (breaks_settings done x) b (rw e at h) where
  at : (t : Bool) → t ≡ false → (cond t (x.number ∷ []) [] ++ bad_after (done ++ x ∷ []) (setting_lines xs)) ≡ all → bad_after (done ++ x ∷ []) (setting_lines xs) ≡ all
  at t g k = rw g at k

-- One more setting.
same_text : (xs ys : List ℕ) → bytes_eq xs ys ≡ true → xs ≡ ys
same_text xs ys e = (bytes_eq-Decides xs ys).0 e

pub is_other : (key : List ℕ) {name shown : List ℕ} {same : Bool} → shown ≡ name → same ≡ bytes_eq key shown → same ≡ false → bytes_eq name key ≡ false
is_other key {name} h e f = false_from_ne_true (bytes_eq name key) (λ g. let back : bytes_eq key name ≡ true = (bytes_eq-Decides key name).1 (sym (same_text name key g)) in let no : ⊥ = cc in no)

-- a good text is read
is_some_read : {X : Type 0} (f : List ℕ → Option X) (o : Option (List ℕ)) → ((text : List ℕ) → o ≡ Some text → is_some (f text) ≡ true) → is_some (option_and_then f o) ≡ is_some o
is_some_read f None h = refl
is_some_read f (Some text) h = h text refl

-- a key by its name, whose texts f reads
pub HasSet-known : {X : Type 0} (f : List ℕ → Option X) (at : List ℕ → Option (List ℕ)) {name shown : List ℕ} {same good : Bool} {v new : SettingValues} {s : Setting} {held value : Option X} → AreRead at v → shown ≡ name → same ≡ bytes_eq s.key shown → same ≡ true
    → held ≡ option_and_then f (at name) → ((text : List ℕ) → is_good_setting (record { key = name; value = text }) ≡ (is_some (f text) || false)) → value ≡ f s.value → good ≡ (is_some value && not (is_some held))
    → (good ≡ true → new ≡ values_by (with_setting at (record { key = name; value = s.value }))) → HasSet at s good new
HasSet-known f at {name} {shown} {same} {good} {v} {new} {s} {held} read n e t h g w j p =
    let key : s.key ≡ name = same_text s.key shown (sym e ∙ t) ∙ n in
    let is_good : (text : List ℕ) → is_good_setting (record { key = name; value = text }) ≡ is_some (f text) = λ text. g text ∙ or_false (is_some (f text)) in
    let set : is_some held ≡ is_some (at name) = ap is_some h ∙ is_some_read f (at name) (λ text k. sym (is_good text) ∙ read.good (record { key = name; value = text }) k) in
    let fresh : good ≡ (is_good_setting (record { key = name; value = s.value }) && not (is_some (at name))) = cc (is_good s.value) in
    let At : List ℕ → Type 0 = λ k. HasSet at (record { key = k; value = s.value }) good new in
    subst At (sym key) (record { fresh = fresh; set = p })

-- a key that is none of the known ones
other_turned : (key name : List ℕ) → bytes_eq key name ≡ false → bytes_eq name key ≡ false
other_turned key name f = is_other key {name = name} refl refl f

pub unknown_key : (s : Setting) → takes_memory s.key ≡ false → is_limit_key s.key ≡ false → bytes_eq (codes "recipient_delimiter") s.key ≡ false → bytes_eq (codes "default_transport") s.key ≡ false → bytes_eq (codes "seed") s.key ≡ false → bytes_eq (codes "expand_owner_alias") s.key ≡ false
    → (known : Bool) → (is_good_setting s && not known) ≡ false
unknown_key s text limit delimiter transport seed expand known =
    let is = bytes_eq s.key in
    let t0 = or_parts (is (codes "myhostname") || is (codes "myorigin") || is (codes "mydestination")) (is (codes "mailbox_transport")) text in
    let t1 = or_parts (is (codes "myhostname") || is (codes "myorigin")) (is (codes "mydestination")) t0.0 in
    let t2 = or_parts (is (codes "myhostname")) (is (codes "myorigin")) t1.0 in
    let l0 = or_parts (is (codes "default_destination_recipient_limit") || is (codes "smtp_destination_recipient_limit") || is (codes "relay_destination_recipient_limit")) (is (codes "lmtp_destination_recipient_limit")) limit in
    let l1 = or_parts (is (codes "default_destination_recipient_limit") || is (codes "smtp_destination_recipient_limit")) (is (codes "relay_destination_recipient_limit")) l0.0 in
    let l2 = or_parts (is (codes "default_destination_recipient_limit")) (is (codes "smtp_destination_recipient_limit")) l1.0 in
    rw (
      other_turned s.key (codes "myhostname") t2.0,
      other_turned s.key (codes "myorigin") t2.1,
      other_turned s.key (codes "mydestination") t1.1,
      delimiter,
      other_turned s.key (codes "default_destination_recipient_limit") l2.0,
      other_turned s.key (codes "smtp_destination_recipient_limit") l2.1,
      other_turned s.key (codes "relay_destination_recipient_limit") l1.1,
      other_turned s.key (codes "lmtp_destination_recipient_limit") l0.1,
      transport,
      other_turned s.key (codes "mailbox_transport") t0.1,
      seed,
      expand,
    )

-- What a pass over the lines knows before the lines of `rest`.
pub record ValuesScanned (lines rest : List Line) (v : SettingValues) : Type 0 where
  pub done : List Line
  pub at : List ℕ → Option (List ℕ)
  pub unbroken : bad_after done (setting_lines rest) ≡ bad_after [] (setting_lines lines)
  pub keys : (name : List ℕ) → has_key done name ≡ is_some (at name)
  pub values : (name : List ℕ) → option_or (at name) (value_at rest name) ≡ value_at lines name
  pub read : AreRead at v

pub none_read : (v : SettingValues)
    → (v.hostname ≡ None) × ((v.origin ≡ None) × ((v.destinations ≡ None) × ((v.delimiter ≡ None) × ((v.limit ≡ None) × ((v.smtp_limit ≡ None) × ((v.relay_limit ≡ None) × ((v.lmtp_limit ≡ None) × ((v.default_transport ≡ None) × ((v.mailbox_transport ≡ None) × ((v.seed ≡ None) × (v.expand ≡ None)))))))))))
    → v ≡ values_by (λ name. None)
none_read v h =
    let fields : v ≡ record { hostname = v.hostname; origin = v.origin; destinations = v.destinations; delimiter = v.delimiter; limit = v.limit; smtp_limit = v.smtp_limit; relay_limit = v.relay_limit; lmtp_limit = v.lmtp_limit; default_transport = v.default_transport; mailbox_transport = v.mailbox_transport; seed = v.seed; expand = v.expand } = refl in
    fields ∙ rw (h.0, h.1.0, h.1.1.0, h.1.1.1.0, h.1.1.1.1.0, h.1.1.1.1.1.0, h.1.1.1.1.1.1.0, h.1.1.1.1.1.1.1.0, h.1.1.1.1.1.1.1.1.0, h.1.1.1.1.1.1.1.1.1.0, h.1.1.1.1.1.1.1.1.1.1.0, h.1.1.1.1.1.1.1.1.1.1.1)

pub ValuesScanned-start : (lines : List Line) (v : SettingValues) → v ≡ values_by (λ name. None) → ValuesScanned lines lines v
ValuesScanned-start lines v h = record {
  done = [];
  at = λ name. None;
  unbroken = refl;
  keys = λ name. refl;
  values = λ name. refl;
  read = record { values = h; good = λ s e. absurd (let no : ⊥ = cc in no) };
}

pub ValuesScanned-ignored : (lines : List Line) (x : Line) (xs : List Line) (v : SettingValues) → ValuesScanned lines (x ∷ xs) v → is_ignored x.text ≡ true → ValuesScanned lines xs v
ValuesScanned-ignored lines x xs v h e = record {
  done = h.done;
  at = h.at;
  unbroken = rw e at h.unbroken;
  keys = h.keys;
  values = λ name. rw e at (h.values name);
  read = h.read;
}

has_key-added : (done : List Line) (x : Line) (s : Setting) (name : List ℕ) → setting_of x.text ≡ Some s → has_key (done ++ x ∷ []) name ≡ (has_key done name || bytes_eq s.key name)
has_key-added done x s name f = list_any-append _ done (x ∷ []) ∙ rw f (ap (λ (t : Bool). has_key done name || t) (or_false (bytes_eq s.key name)))

is_some-with : (t : Bool) (o : Option (List ℕ)) (value : List ℕ) → (is_some o || t) ≡ is_some (cond t (Some value) o)
is_some-with true None value = refl
is_some-with true (Some x) value = refl
is_some-with false None value = refl
is_some-with false (Some x) value = refl

none_from_is_some : {X : Type 0} (o : Option X) → is_some o ≡ false → o ≡ None
none_from_is_some None h = refl
none_from_is_some (Some x) h = cc

good-with : (at : List ℕ → Option (List ℕ)) (s : Setting) → ((r : Setting) → at r.key ≡ Some r.value → is_good_setting r ≡ true) → is_good_setting s ≡ true → (r : Setting) → with_setting at s r.key ≡ Some r.value → is_good_setting r ≡ true
good-with at s others good r = by (bytes_eq s.key r.key) refl where
  by : (t : Bool) → bytes_eq s.key r.key ≡ t → cond t (Some s.value) (at r.key) ≡ Some r.value → is_good_setting r ≡ true
  by true e h = let key : s.key ≡ r.key = same_text s.key r.key e in let value : s.value ≡ r.value = same_Some s.value r.value h in rw (← key, ← value) good
  by false e h = others r h

value-with : (at : List ℕ → Option (List ℕ)) (s : Setting) (name : List ℕ) (later : List (Option (List ℕ))) → at s.key ≡ None → option_or (with_setting at s name) (first_of later) ≡ option_or (at name) (first_of (cond (bytes_eq s.key name) (Some s.value) None ∷ later))
value-with at s name later none = by (bytes_eq s.key name) refl where
  by : (t : Bool) → bytes_eq s.key name ≡ t → option_or (cond t (Some s.value) (at name)) (first_of later) ≡ option_or (at name) (first_of (cond t (Some s.value) None ∷ later))
  by true e = let gone : at name ≡ None = ap at (sym (same_text s.key name e)) ∙ none in rw gone
  by false e = refl

module _ (lines : List Line) (x : Line) (xs : List Line) (v : SettingValues) (h : ValuesScanned lines (x ∷ xs) v) (e : is_ignored x.text ≡ false) where
  pub ValuesScanned-nameless : setting_of x.text ≡ None → first_bad_setting lines ≡ Some x.number
  ValuesScanned-nameless f = first-bad lines h.done x xs h.unbroken e (breaks-nameless h.done x e f)

  breaks-fresh : (s : Setting) (good : Bool) → setting_of x.text ≡ Some s → good ≡ (is_good_setting s && not (is_some (h.at s.key))) → breaks_settings h.done x ≡ not good
  breaks-fresh s good f g = breaks-setting h.done x s e f ∙ ap (λ (t : Bool). not (is_good_setting s) || t) (h.keys s.key) ∙ not_and (is_good_setting s) (is_some (h.at s.key)) ∙ ap not (sym g) where
    not_and : (a b : Bool) → (not a || b) ≡ not (a && not b)
    not_and true true = refl
    not_and true false = refl
    not_and false b = refl

  pub ValuesScanned-refused : (s : Setting) (new : SettingValues) → setting_of x.text ≡ Some s → HasSet h.at s false new → first_bad_setting lines ≡ Some x.number
  ValuesScanned-refused s new f g = first-bad lines h.done x xs h.unbroken e (breaks-fresh s false f g.fresh)

  pub ValuesScanned-bad : (new : SettingValues) (fault : RunFault) → (fault ≡ Memory) ⊎ ((fault ≡ BadSetting x.number) × ((setting_of x.text ≡ None) ⊎ HasSetBy v x.text false new)) → Stops (option_map BadSetting (first_bad_setting lines)) fault
  ValuesScanned-bad new fault (inl out) = rw out tt
  ValuesScanned-bad new fault (inr bad) = rw bad.0 (ap (option_map BadSetting) (by bad.1)) where
    by : (setting_of x.text ≡ None) ⊎ HasSetBy v x.text false new → first_bad_setting lines ≡ Some x.number
    by (inl nameless) = ValuesScanned-nameless nameless
    by (inr refused) = ValuesScanned-refused refused.setting new refused.names (refused.set h.at h.read)

  pub ValuesScanned-taken : (s : Setting) (new : SettingValues) → setting_of x.text ≡ Some s → HasSet h.at s true new → ValuesScanned lines xs new
  ValuesScanned-taken s new f g =
      let fresh = and_parts (is_good_setting s) (not (is_some (h.at s.key))) (sym g.fresh) in
      let none : h.at s.key ≡ None = none_from_is_some (h.at s.key) (not-true (is_some (h.at s.key)) fresh.1) in
      record {
        done = h.done ++ x ∷ [];
        at = with_setting h.at s;
        unbroken = not-bad h.done x xs _ h.unbroken e (breaks-fresh s true f g.fresh);
        keys = λ name. has_key-added h.done x s name f ∙ ap (λ (t : Bool). t || bytes_eq s.key name) (h.keys name) ∙ is_some-with (bytes_eq s.key name) (h.at name) s.value;
        values = λ name. value-with h.at s name _ none ∙ rw (e, f) at (h.values name);
        read = record { values = g.set refl; good = good-with h.at s h.read.good fresh.0 };
      }

pub ValuesScanned-end : (lines : List Line) (v : SettingValues) → ValuesScanned lines [] v → AreValuesOf lines v
ValuesScanned-end lines v h = record {
  unbroken = ap (λ (ns : List ℕ). slice_get ns 0) (sym h.unbroken);
  values = h.read.values ∙ ap values_by (fun_ext (λ name. sym (or_none (h.at name)) ∙ h.values name));
} where
  or_none : (o : Option (List ℕ)) → option_or o None ≡ o
  or_none None = refl
  or_none (Some x) = refl
