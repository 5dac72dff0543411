-- What a transport table holds as it is read, and what it gives at a key.
use Rattle.std.proofs.Common.{◌≡◌, ℕ, ◌+◌, ◌-◌, ◌<◌, ◌≤◌, suc, Bool, true, false, cond, ◌||◌, List, [], ◌∷◌, ◌++◌, length, get_or, map, refl, sym, ap, ◌∙◌, arith, append_assoc, append-nil, subst}
use Rattle.std.specs.Prelude.{Option, Some, None, option_map, is_some, filter_map, flat_map, position}
use Rattle.std.specs.List.{list_any, position_from, cons_option}
use Rattle.std.specs.Str.{bytes_eq}
use Rattle.std.proofs.lemmas.Bool.{true≢false}
use Rattle.std.proofs.lemmas.List.{map-append}
use Rattle.std.proofs.lemmas.List.Folds.{list_any-append}
use Rattle.std.proofs.lemmas.List.Elements.{filter_map-append}
use Rattle.std.proofs.lemmas.Slice.Eq.{bytes_eq-Decides}
use Rattle.std.proofs.lemmas.Iterator.Adapters.{position_from-zero}
use Rattle.relay_text.specs.Bytes.{has_text, each_after, first_of}
use Rattle.relay_text.specs.Lines.{logical_lines_of}
use Rattle.relay_text.specs.declared.lines.Line.{Line}
use Rattle.relay_text.specs.declared.lines.Lines.{Lines}
use Rattle.relay_routes.specs.declared.fault.LineFault.{LineFault}
use Rattle.relay_routes.specs.declared.fault.FaultKind.TheVariants.{BadLine, Duplicate}
use Rattle.relay_routes.specs.declared.transport_line.TransportLine.{TransportLine}
use Rattle.relay_routes.specs.TransportLines.{TransportLines}
use Rattle.relay_routes.specs.Transports.{line_of, fault, has_pattern, entry_in, faults_in, transport_table_of, result_at}
use Rattle.relay_routes.specs.TableSteps.{has_entry, with_line, with_lines, AreNew}
use Rattle.relay_routes.specs.PatternLines.{AreRead, entry_of, bad_line, bad_in, orphan_faults}
use Rattle.relay_routes.specs.declared.pattern_lines.PatternLines.{PatternLines}
use Rattle.relay_halves.proofs.HalvedLines.{moved_nowhere}

pub bytes_eq_swap : (xs ys : List ℕ) → bytes_eq xs ys ≡ bytes_eq ys xs
bytes_eq_swap xs ys = at (bytes_eq xs ys) refl (bytes_eq ys xs) refl where
  at : (a : Bool) → bytes_eq xs ys ≡ a → (b : Bool) → bytes_eq ys xs ≡ b → a ≡ b
  at true e true f = refl
  at false e false f = refl
  at true e false f = absurd (true≢false (sym ((bytes_eq-Decides ys xs).1 (sym ((bytes_eq-Decides xs ys).0 e))) ∙ f))
  at false e true f = absurd (true≢false (sym ((bytes_eq-Decides xs ys).1 (sym ((bytes_eq-Decides ys xs).0 f))) ∙ e))

-- the place of the entry of a pattern, where the first one has this place
abbrev place_from : ℕ → List TransportLine → List ℕ → Option ℕ
place_from first [] pattern = None
place_from first (e ∷ entries) pattern = cond (bytes_eq pattern e.pattern) (Some first) (place_from (first + 1) entries pattern)

-- An entry stands at its place, and no pattern without one has an entry.
place_found : (first : ℕ) (es : List TransportLine) (q : List ℕ) (place : ℕ) (d : TransportLine) → place_from first es q ≡ Some place → (first ≤ place) × (place < first + length es) × (result_at es q ≡ Some ((get_or es (place - first) d).result))
place_found first [] q place d h = absurd (let bad : ⊥ = cc in bad)
place_found first (e ∷ es) q place d h = at (bytes_eq q e.pattern) (bytes_eq_swap e.pattern q) (place_found (first + 1) es q place d) h where
  at : (t : Bool) → bytes_eq e.pattern q ≡ t
      → (place_from (first + 1) es q ≡ Some place → (first + 1 ≤ place) × (place < first + 1 + length es) × (result_at es q ≡ Some ((get_or es (place - (first + 1)) d).result)))
      → cond t (Some first) (place_from (first + 1) es q) ≡ Some place
      → (first ≤ place) × (place < first + suc (length es)) × (first_of ((cond (bytes_eq e.pattern q) (Some e.result) None) ∷ map (λ e. cond (bytes_eq e.pattern q) (Some e.result) None) es) ≡ Some ((get_or (e ∷ es) (place - first) d).result))
  at true same more h =
      let here : first ≡ place = cc in
      let none : place - first ≡ 0 = omega (arith, here) in
      (omega (arith, here), omega (arith, here), rw (same, none) refl)
  at false same more h =
      let later = more h in
      let next : place - first ≡ suc (place - (first + 1)) = omega (arith, later.0) in
      (omega (arith, later.0), omega (arith, later.1), rw (same, next) later.2)

place_missing : (first : ℕ) (es : List TransportLine) (q : List ℕ) → place_from first es q ≡ None → result_at es q ≡ None
place_missing first [] q h = refl
place_missing first (e ∷ es) q h = at (bytes_eq q e.pattern) (bytes_eq_swap e.pattern q) (place_missing (first + 1) es q) h where
  at : (t : Bool) → bytes_eq e.pattern q ≡ t → (place_from (first + 1) es q ≡ None → result_at es q ≡ None) → cond t (Some first) (place_from (first + 1) es q) ≡ None → result_at (e ∷ es) q ≡ None
  at true same more h = absurd (let bad : ⊥ = cc in bad)
  at false same more h = rw same (more h)

place_some : (first : ℕ) (es : List TransportLine) (q : List ℕ) → is_some (place_from first es q) ≡ has_entry es q
place_some first [] q = refl
place_some first (e ∷ es) q = at (bytes_eq q e.pattern) (place_some (first + 1) es q) where
  at : (t : Bool) → is_some (place_from (first + 1) es q) ≡ has_entry es q → is_some (cond t (Some first) (place_from (first + 1) es q)) ≡ (t || has_entry es q)
  at true later = refl
  at false later = later

place_is : (first : ℕ) (es : List TransportLine) (q : List ℕ) → place_from first es q ≡ position_from (λ (e : TransportLine). bytes_eq q e.pattern) first es
place_is first [] q = refl
place_is first (e ∷ es) q = ap (λ t. cond (bytes_eq q e.pattern) (Some first) t) (place_is (first + 1) es q)

-- the place of the first entry of a pattern
abbrev pub entry_place : List TransportLine → List ℕ → Option ℕ
entry_place es q = position (λ e. bytes_eq q e.pattern) es

placed : (es : List TransportLine) (q : List ℕ) → place_from 0 es q ≡ entry_place es q
placed es q = place_is 0 es q ∙ sym (position_from-zero (λ (e : TransportLine). bytes_eq q e.pattern) es)

pub entry_found : (es : List TransportLine) (q : List ℕ) (n : ℕ) (d : TransportLine) → entry_place es q ≡ Some n → (n < length es) × (result_at es q ≡ Some ((get_or es n d).result))
entry_found es q n d has =
    let found = place_found 0 es q n d (placed es q ∙ has) in
    let here : n - 0 ≡ n = omega arith in
    let within : n < length es = omega (arith, found.1) in
    (within, found.2 ∙ ap (λ i. Some ((get_or es i d).result)) here)

pub entry_missing : (es : List TransportLine) (q : List ℕ) → entry_place es q ≡ None → result_at es q ≡ None
entry_missing es q none = place_missing 0 es q (placed es q ∙ none)

pub entry_there : (es : List TransportLine) (q : List ℕ) (o : Option ℕ) → entry_place es q ≡ o → has_entry es q ≡ is_some o
entry_there es q o e = sym (place_some 0 es q) ∙ ap is_some (placed es q ∙ e)

-- the pattern of a line
abbrev pattern_in : Option TransportLine → List (List ℕ)
pattern_in None = []
pattern_in (Some e) = e.pattern ∷ []

has_pattern-more : (before : List Line) (l : Line) (q : List ℕ) → has_pattern (before ++ l ∷ []) q ≡ (has_pattern before q || has_text (pattern_in (line_of l.text)) q)
has_pattern-more before l q =
    ap (λ texts. has_text texts q) (filter_map-append (λ (l : Line). option_map (λ (e : TransportLine). e.pattern) (line_of l.text)) before (l ∷ []))
    ∙ list_any-append (bytes_eq q) (filter_map (λ (l : Line). option_map (λ (e : TransportLine). e.pattern) (line_of l.text)) before) (filter_map (λ (l : Line). option_map (λ (e : TransportLine). e.pattern) (line_of l.text)) (l ∷ []))
    ∙ ap (λ t. has_pattern before q || t) (at (line_of l.text)) where
      at : (o : Option TransportLine) → has_text (Rattle.std.specs.List.cons_option (option_map (λ (e : TransportLine). e.pattern) o) []) q ≡ has_text (pattern_in o) q
      at None = refl
      at (Some e) = refl

has_entry-more : (es : List TransportLine) (e : TransportLine) (q : List ℕ) → has_entry (es ++ e ∷ []) q ≡ (has_entry es q || has_text (e.pattern ∷ []) q)
has_entry-more es e q = ap (λ texts. has_text texts q) (map-append (λ (e : TransportLine). e.pattern) es (e ∷ [])) ∙ list_any-append (bytes_eq q) (map (λ (e : TransportLine). e.pattern) es) (e.pattern ∷ [])

or_false : (a : Bool) → a ≡ (a || false)
or_false true = refl
or_false false = refl

or_known : (a b : Bool) → (b ≡ true → a ≡ true) → a ≡ (a || (b || false))
or_known true b h = refl
or_known false true h = h refl
or_known false false h = refl

-- what entries and faults a line adds
abbrev entries_by : List Line → Line → List TransportLine
entries_by earlier l = entry_in earlier (line_of l.text)

abbrev faults_by : List Line → Line → List LineFault
faults_by earlier l = faults_in earlier l.number (line_of l.text)

-- what a table is once lines are added, of which these stand before
abbrev made_of : List Line → List Line → TransportLines → TransportLines
made_of before lines table = record { entries = table.entries ++ each_after entries_by before lines; faults = table.faults ++ each_after faults_by before lines }

line_step : (table : TransportLines) (before : List Line) (l : Line) (lines : List Line)
    → ((t : TransportLines) → ((q : List ℕ) → has_entry t.entries q ≡ has_pattern (before ++ l ∷ []) q) → with_lines t lines ≡ made_of (before ++ l ∷ []) lines t)
    → ((q : List ℕ) → has_entry table.entries q ≡ has_pattern before q) → with_lines (with_line table l.number (line_of l.text)) lines ≡ made_of before (l ∷ lines) table
line_step table before l lines make same = at (line_of l.text) refl where
  more : (o : Option TransportLine) → line_of l.text ≡ o → (q : List ℕ) → (has_pattern before q || has_text (pattern_in o) q) ≡ has_pattern (before ++ l ∷ []) q
  more o e q = sym (has_pattern-more before l q ∙ ap (λ o. has_pattern before q || has_text (pattern_in o) q) e)

  faulty : (f : LineFault) → ((q : List ℕ) → has_entry table.entries q ≡ has_pattern (before ++ l ∷ []) q)
      → with_lines (record { entries = table.entries; faults = table.faults ++ f ∷ [] }) lines
      ≡ record { entries = table.entries ++ each_after entries_by (before ++ l ∷ []) lines; faults = table.faults ++ ((f ∷ []) ++ each_after faults_by (before ++ l ∷ []) lines) }
  faulty f now =
      make (record { entries = table.entries; faults = table.faults ++ f ∷ [] }) now
      ∙ ap (λ (fs : List LineFault). let t : TransportLines = record { entries = table.entries ++ each_after entries_by (before ++ l ∷ []) lines; faults = fs } in t) (append_assoc table.faults (f ∷ []) (each_after faults_by (before ++ l ∷ []) lines))

  held : (e : TransportLine) → line_of l.text ≡ Some e → (t : Bool) → has_pattern before e.pattern ≡ t
      → with_lines (cond t (record { entries = table.entries; faults = table.faults ++ fault l.number Duplicate ∷ [] }) (record { entries = table.entries ++ e ∷ []; faults = table.faults })) lines
      ≡ record { entries = table.entries ++ (cond t [] (e ∷ []) ++ each_after entries_by (before ++ l ∷ []) lines); faults = table.faults ++ (cond t (fault l.number Duplicate ∷ []) [] ++ each_after faults_by (before ++ l ∷ []) lines) }
  held e is true known = faulty (fault l.number Duplicate) (λ q.
      same q ∙ or_known (has_pattern before q) (bytes_eq q e.pattern) (λ b. ap (has_pattern before) ((bytes_eq-Decides q e.pattern).0 b) ∙ known) ∙ more (Some e) is q)
  held e is false known =
      make (record { entries = table.entries ++ e ∷ []; faults = table.faults }) (λ q.
      has_entry-more table.entries e q ∙ ap (λ t. t || has_text (e.pattern ∷ []) q) (same q) ∙ more (Some e) is q)
      ∙ ap (λ (es : List TransportLine). let t : TransportLines = record { entries = es; faults = table.faults ++ each_after faults_by (before ++ l ∷ []) lines } in t) (append_assoc table.entries (e ∷ []) (each_after entries_by (before ++ l ∷ []) lines))

  at : (o : Option TransportLine) → line_of l.text ≡ o → with_lines (with_line table l.number o) lines
      ≡ record { entries = table.entries ++ (entry_in before o ++ each_after entries_by (before ++ l ∷ []) lines); faults = table.faults ++ (faults_in before l.number o ++ each_after faults_by (before ++ l ∷ []) lines) }
  at None e = faulty (fault l.number BadLine) (λ q. same q ∙ or_false (has_pattern before q) ∙ more None e q)
  at (Some entry) e =
      ap (λ t. with_lines (cond t (record { entries = table.entries; faults = table.faults ++ fault l.number Duplicate ∷ [] }) (record { entries = table.entries ++ entry ∷ []; faults = table.faults })) lines) (same entry.pattern)
      ∙ held entry e (has_pattern before entry.pattern) refl

-- Lines that are added one by one are the lines of the definition.
lines_make : (table : TransportLines) (before lines : List Line) → ((q : List ℕ) → has_entry table.entries q ≡ has_pattern before q)
    → with_lines table lines ≡ made_of before lines table
lines_make table before [] same =
    ap (λ (es : List TransportLine). let t : TransportLines = record { entries = es; faults = table.faults } in t) (sym (append-nil table.entries))
    ∙ ap (λ (fs : List LineFault). let t : TransportLines = record { entries = table.entries ++ []; faults = fs } in t) (sym (append-nil table.faults))
lines_make table before (l ∷ lines) same = line_step table before l lines (λ t h. lines_make t (before ++ l ∷ []) lines h) same

-- a table before its logical lines are added
abbrev pub table_of_orphans : List ℕ → TransportLines
table_of_orphans orphans = record { entries = []; faults = map (λ number. fault number BadLine) orphans }

pub table_made : (text : List ℕ) (cut : Lines) → cut ≡ logical_lines_of text → with_lines (table_of_orphans cut.orphans) cut.lines ≡ transport_table_of text
unfolding transport_table_of
table_made text cut is = rw (← is) (lines_make (table_of_orphans cut.orphans) [] cut.lines (λ q. refl))

pub same_lines : (es es' : List TransportLine) (fs fs' : List LineFault) → es ≡ es' → fs ≡ fs' → (let t : TransportLines = record { entries = es; faults = fs } in let t' : TransportLines = record { entries = es'; faults = fs' } in t ≡ t')
same_lines es es' fs fs' e f = rw (e, f) refl

-- Where no line is read yet, all lines make the table.
pub lines_start : (text : List ℕ) (cut : Lines) (start : TransportLines) (orphans : List ℕ) → cut ≡ logical_lines_of text → orphans ≡ cut.orphans → start ≡ table_of_orphans orphans → with_lines start cut.lines ≡ transport_table_of text
lines_start text cut start orphans is o s = ap (λ (t : TransportLines). with_lines t cut.lines) (s ∙ ap table_of_orphans o) ∙ table_made text cut is

-- ---- where no pattern comes again
distinct_make : (table : TransportLines) (lines : List Line) → AreNew table.entries (filter_map entry_of lines)
    → with_lines table lines ≡ record { entries = table.entries ++ filter_map entry_of lines; faults = table.faults ++ flat_map bad_in lines }
distinct_make table [] new = same_lines _ _ _ _ (sym (append-nil table.entries)) (sym (append-nil table.faults))
distinct_make table (l ∷ lines) new = at (line_of l.text) (λ t rest. distinct_make t lines rest) new where
  entries : List TransportLine
  entries = filter_map entry_of lines

  faults : List LineFault
  faults = flat_map bad_in lines

  bad : LineFault
  bad = fault l.number BadLine

  at : (o : Option TransportLine)
      → ((t : TransportLines) → AreNew t.entries entries → with_lines t lines ≡ record { entries = t.entries ++ entries; faults = t.faults ++ faults })
      → AreNew table.entries (cons_option o entries)
      → with_lines (with_line table l.number o) lines ≡ record { entries = table.entries ++ cons_option o entries; faults = table.faults ++ (bad_line l.number o ++ faults) }
  at None make rest =
      make (record { entries = table.entries; faults = table.faults ++ bad ∷ [] }) rest
      ∙ same_lines _ _ _ _ refl (append_assoc table.faults (bad ∷ []) faults)
  at (Some e) make rest =
      rw rest.0
      (make (record { entries = table.entries ++ e ∷ []; faults = table.faults }) rest.1
      ∙ same_lines _ _ _ _ (append_assoc table.entries (e ∷ []) entries) refl)

-- Then what was read one line after another is the table.
pub distinct_table : (text : List ℕ) (lines : PatternLines) → AreRead 0 text lines → AreNew [] lines.entries.items → record { entries = lines.entries.items; faults = lines.faults.items } ≡ transport_table_of text
distinct_table text lines read new =
    let cut : Lines = logical_lines_of text in
    let es : lines.entries.items ≡ filter_map entry_of cut.lines = read.entries ∙ ap (filter_map entry_of) (moved_nowhere cut.lines) in
    let fs : lines.faults.items ≡ orphan_faults cut.orphans ++ flat_map bad_in cut.lines =
    read.faults ∙ ap (λ (ls : List Line). orphan_faults (map (λ n. 0 + n) cut.orphans) ++ flat_map bad_in ls) (moved_nowhere cut.lines)
    ∙ ap (λ (ns : List ℕ). orphan_faults ns ++ flat_map bad_in cut.lines) (none_passed cut.orphans) in
    same_lines _ _ _ _ es fs
    ∙ sym (distinct_make (table_of_orphans cut.orphans) cut.lines (subst (AreNew []) es new))
    ∙ table_made text cut refl
  where
    none_passed : (ns : List ℕ) → map (λ n. 0 + n) ns ≡ ns
    none_passed [] = refl
    none_passed (n ∷ ns) =
        let here : 0 + n ≡ n = omega arith in
        ap (λ (m : ℕ). m ∷ map (λ n. 0 + n) ns) here ∙ ap (λ (ms : List ℕ). n ∷ ms) (none_passed ns)

-- A further entry whose pattern is new.
pub new_more : (before es : List TransportLine) (e : TransportLine) → AreNew before es → has_entry (before ++ es) e.pattern ≡ false → AreNew before (es ++ e ∷ [])
new_more before [] e new fresh = (ap (λ (all : List TransportLine). has_entry all e.pattern) (sym (append-nil before)) ∙ fresh, tt)
new_more before (x ∷ es) e new fresh =
    (new.0, new_more (before ++ x ∷ []) es e new.1 (ap (λ (all : List TransportLine). has_entry all e.pattern) (append_assoc before (x ∷ []) es) ∙ fresh))
