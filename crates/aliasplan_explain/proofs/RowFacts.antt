-- Items of entries and include files, one for each target.
use Rattle.std.proofs.Common.{◌≡◌, ℕ, zero, suc, ◌<◌, subst, Option, Some, None, List, [], ◌∷◌, length, get_or, map, slice_get, refl, sym, ap, ◌∙◌, inl, inr, arith}
use Rattle.std.specs.Prelude.{IsSome, AllPairs, Contains, option_map, option_and_then, unwrap_or, ◌==◌}
use Rattle.std.specs.Borrow.{Bor}
use Rattle.std.specs.Slice.{IsItemAt}
use Rattle.std.proofs.lemmas.Bool.{eq-eqb, ne_eqb, cond-true, cond-false}
use Rattle.std.proofs.lemmas.List.{length-map}
use Rattle.std.proofs.lemmas.Option.{same_Some, slice_get_past, slice_get_read, slice_get_within, slice_get-map, get_or_from_slice_get}
use Rattle.relay_text.specs.Lines.{logical_lines_of}
use Rattle.relay_text.specs.declared.lines.Line.{Line}
use Rattle.relay_aliasfile.specs.Items.{good_items}
use Rattle.relay_aliasfile.specs.AliasFiles.{Heading, alias_file_of}
use Rattle.relay_aliasfile.specs.IncludeFiles.{include_file_of}
use Rattle.relay_aliasfile.specs.ItemPlaces.{PlacedItem, IsEntryLine, IsRowOf, item_at, place_value, places_in, include_places_of}
use Rattle.relay_aliasfile.specs.declared.entry.Entry.{Entry as AliasEntry}
use Rattle.relay_aliasfile.specs.declared.item.Item.{Item}
use Rattle.relay_aliasfile.specs.declared.places.ItemPlace.{ItemPlace}
use Rattle.relay_tables.specs.declared.include_entry.IncludeEntry.{IncludeEntry}
use Rattle.relay_tables.specs.declared.node.Node.{Node}
use Rattle.relay_tables.specs.declared.node.Node.TheVariants as nodes
use Rattle.relay_tables.specs.Directory.{Directory}
use Rattle.relay_tables.specs.Targets.{targets_of, item_target, items_of_entry, items_of_include}
use Rattle.relay_job.specs.declared.job.Job.{Job}
use Rattle.relay_job.specs.declared.job.JobInclude.{JobInclude}
use Rattle.relay_explain.specs.declared.entry.Entry.{Entry}
use Rattle.relay_explain.specs.declared.entry.Entry.TheVariants as entries
use Rattle.relay_explain.specs.declared.listed.Listed.{Listed}
use Rattle.relay_planning.specs.Delivery.{directory_of, entry_of_include}
use Rattle.aliasplan_explain.specs.Targets.{entry_at}
use Rattle.aliasplan_explain.specs.Rows.{IsPartAt, line_at, list_on, entry_row, entry_row_if, include_row_if, listed_in, listed_by, row_of}

-- Numbers that ascend are distinct, so the line of a number is the one that has it.
line_from : (lines : List Line) → AllPairs (λ (a b : Line). a.number < b.number) lines → (l : Line) (k : ℕ) → k < length lines → get_or lines k l ≡ l → line_at lines l.number ≡ Some l
line_from [] ascending l k short is = absurd (omega arith)
line_from (m ∷ ms) ascending l zero short is =
    cond-true (m.number == l.number) (Some m) (line_at ms l.number) (eq-eqb m.number l.number (ap (λ (x : Line). x.number) is)) ∙ ap (λ (x : Line). Some x) is
line_from (m ∷ ms) ascending l (suc k) short is =
    let above : m.number < (get_or ms k l).number = ascending zero (suc k) l (omega arith) short in
    let same : (get_or ms k l).number ≡ l.number = ap (λ (x : Line). x.number) is in
    cond-false (m.number == l.number) (Some m) (line_at ms l.number) (ne_eqb m.number l.number (λ e. omega (arith, above, same, e)))
    ∙ line_from ms (λ i j d before within. ascending (suc i) (suc j) d (omega arith) (omega arith)) l k (omega arith) is

pub line_there : (lines : List Line) → AllPairs (λ (a b : Line). a.number < b.number) lines → (l : Line) → Contains lines l → line_at lines l.number ≡ Some l
line_there lines ascending l there = line_from lines ascending l there.0 there.1 there.2

pub entry_row_is : (lines : List Line) → AllPairs (λ (a b : Line). a.number < b.number) lines → (e : AliasEntry) (l : Line) (on : IsEntryLine lines e l) → entry_row lines e ≡ places_in e.line on.heading.list
unfolding entry_row
entry_row_is lines ascending e l on =
    let at : line_at lines e.line ≡ Some l = ap (line_at lines) (sym on.number) ∙ line_there lines ascending l on.there in
    let list : list_on l ≡ Some on.heading.list = ap (option_map (λ (h : Heading). h.list)) on.headed in
    let found : option_and_then list_on (line_at lines e.line) ≡ Some on.heading.list = ap (option_and_then list_on) at ∙ list in
    ap (λ (o : Option (List ℕ)). unwrap_or (option_map (places_in e.line) o) []) found

-- the row that a call finds is the entry's
pub row_is_entry_row : (lines : List Line) → AllPairs (λ (a b : Line). a.number < b.number) lines → (e : AliasEntry) (row : List PlacedItem) → IsRowOf lines e row → row ≡ entry_row lines e
row_is_entry_row lines ascending e row is = is.row_is ∙ sym (entry_row_is lines ascending e is.line is.on)

same_length : (places : List PlacedItem) (items : List Item) → map item_at places ≡ map (λ (item : Item). Some item) items → length places ≡ length items
same_length places items e =
    sym (length-map places item_at) ∙ ap length e ∙ length-map items (λ (item : Item). Some item)

get_of_long : {X : Type 0} (xs : List X) (i : ℕ) → i < length xs → IsSome (slice_get xs i)
get_of_long [] i below = absurd (omega arith)
get_of_long (x ∷ xs) zero below = refl
get_of_long (x ∷ xs) (suc i) below = get_of_long xs i (omega arith)

contains_got : {X : Type 0} (xs : List X) (k : ℕ) (x : X) → slice_get xs k ≡ Some x → Contains xs x
contains_got xs k x at = (k, slice_get_within xs k x at, get_or_from_slice_get xs k x x at)

-- The premises are the laws of `relay_aliasfile`.
module _ (of_list : (line : ℕ) (list : List ℕ) → map item_at (places_in line list) ≡ map (λ (item : Item). Some item) (good_items list)) (of_include : (text : List ℕ) → map item_at (include_places_of text) ≡ map (λ (item : Item). Some item) (include_file_of text).items) (there : (text : List ℕ) (e : AliasEntry) → Contains (alias_file_of text).entries e → (l : Line) × IsEntryLine (logical_lines_of text).lines e l) (ascending : (text : List ℕ) → AllPairs (λ (a b : Line). a.number < b.number) (logical_lines_of text).lines) where
  pub entry_row_length : (text : List ℕ) (e : AliasEntry) → Contains (alias_file_of text).entries e → length (entry_row (logical_lines_of text).lines e) ≡ length e.items
  entry_row_length text e has =
      let on = there text e has in
      ap length (entry_row_is (logical_lines_of text).lines (ascending text) e on.0 on.1)
      ∙ same_length (places_in e.line on.1.heading.list) (good_items on.1.heading.list) (of_list e.line on.1.heading.list)
      ∙ ap length (sym on.1.items)

  module _ (job : Job) where
    alias_length : (number : ℕ) (o : Option AliasEntry) → slice_get (directory_of job).aliases number ≡ o
        → length (unwrap_or (option_map (λ entry. map (listed_in entry) (entry_row_if (logical_lines_of job.aliases).lines o)) (option_map (λ (e : AliasEntry). entries.Alias e.name) o)) [])
        ≡ length (map (item_target (directory_of job) (Some number)) (items_of_entry (directory_of job) o))
    alias_length number None at = refl
    alias_length number (Some e) at =
        length-map (entry_row (logical_lines_of job.aliases).lines e) (listed_in (entries.Alias e.name))
        ∙ entry_row_length job.aliases e (contains_got (directory_of job).aliases number e at)
        ∙ sym (length-map e.items (item_target (directory_of job) (Some number)))

    include_length : (o : Option JobInclude)
        → length (unwrap_or (option_map (λ entry. map (listed_in entry) (include_row_if o)) (option_map (λ (e : IncludeEntry). entries.Include e.path) (option_map entry_of_include o))) [])
        ≡ length (map (item_target (directory_of job) None) (items_of_include (directory_of job) (option_map entry_of_include o)))
    include_length None = refl
    include_length (Some i) =
        length-map (include_places_of i.bytes) (listed_in (entries.Include i.path))
        ∙ same_length (include_places_of i.bytes) (include_file_of i.bytes).items (of_include i.bytes)
        ∙ sym (length-map (include_file_of i.bytes).items (item_target (directory_of job) None))

    -- as many items as targets
    pub listed_length : (node : Node) → length (listed_by job node) ≡ length (targets_of (directory_of job) node)
    listed_length (nodes.Alias number) = alias_length number (slice_get (directory_of job).aliases number) refl
    listed_length (nodes.Include number) =
        let d = directory_of job in
        let at : slice_get d.includes number ≡ option_map entry_of_include (slice_get job.includes number) = slice_get-map entry_of_include job.includes number in
        let row = include_row_if (slice_get job.includes number) in
        ap (λ (o : Option IncludeEntry). length (unwrap_or (option_map (λ entry. map (listed_in entry) row) (option_map (λ (e : IncludeEntry). entries.Include e.path) o)) [])) at
        ∙ include_length (slice_get job.includes number)
        ∙ sym (ap (λ (o : Option IncludeEntry). length (map (item_target d None) (items_of_include d o))) at)
    listed_length (nodes.Mailbox a) = refl
    listed_length (nodes.Remote a) = refl
    listed_length (nodes.Missing name) = refl
    listed_length (nodes.NoInclude path) = refl
    listed_length (nodes.Command text) = refl
    listed_length (nodes.File path) = refl

    -- an item for each target
    pub target_is_listed : (node : Node) (i : ℕ) (to : Node) → slice_get (targets_of (directory_of job) node) i ≡ Some to → IsSome (slice_get (listed_by job node) i)
    target_is_listed node i to at =
        let within = slice_get_within (targets_of (directory_of job) node) i to at in
        let same = listed_length node in
        get_of_long (listed_by job node) i (omega (arith, within, same))

-- what a look-up gives
pub item_got : {X : Type 0} (xs : List X) (i : ℕ) (r : Option (Bor X)) → IsItemAt xs i r → option_map (λ (x : Bor X). x.now) r ≡ slice_get xs i
item_got xs i None is = sym (slice_get_past xs i is.3)
item_got xs i (Some x) is = sym (slice_get_read xs (length xs) i x.now refl is.3.0 is.1)

-- the entry of a number, by a look-up among the tables' entries
pub entry_got : (job : Job) (d : Directory) → d ≡ directory_of job → (aliases : List AliasEntry) → aliases ≡ d.aliases → (number : ℕ) (r : Option (Bor AliasEntry)) → IsItemAt aliases number r → slice_get (alias_file_of job.aliases).entries number ≡ option_map (λ (x : Bor AliasEntry). x.now) r
entry_got job d is aliases are number r lookup =
    ap (λ (es : List AliasEntry). slice_get es number) (sym (are ∙ ap (λ (d : Directory). d.aliases) is)) ∙ sym (item_got aliases number r lookup)

pub all_ascend : (job : Job) (lines : List Line) → lines ≡ (logical_lines_of job.aliases).lines → ((text : List ℕ) → AllPairs (λ (a b : Line). a.number < b.number) (logical_lines_of text).lines) → AllPairs (λ (a b : Line). a.number < b.number) lines
all_ascend job lines here ascending = subst (λ (ls : List Line). AllPairs (λ (a b : Line). a.number < b.number) ls) (sym here) (ascending job.aliases)

-- The entry of a number, among lines that are those of the alias file.
module _ (job : Job) (lines : List Line) (here : lines ≡ (logical_lines_of job.aliases).lines) (number : ℕ) (e : AliasEntry) (at : slice_get (alias_file_of job.aliases).entries number ≡ Some e) where
  pub line_of_entry : ((text : List ℕ) (e : AliasEntry) → Contains (alias_file_of text).entries e → (l : Line) × IsEntryLine (logical_lines_of text).lines e l) → (l : Line) × IsEntryLine lines e l
  line_of_entry there =
      let found = there job.aliases e (contains_got (alias_file_of job.aliases).entries number e at) in
      (found.0, subst (λ (ls : List Line). IsEntryLine ls e found.0) (sym here) found.1)

  pub row_of_entry : ((text : List ℕ) → AllPairs (λ (a b : Line). a.number < b.number) (logical_lines_of text).lines) → (row : List PlacedItem) → IsRowOf lines e row → row ≡ entry_row_if (logical_lines_of job.aliases).lines (slice_get (alias_file_of job.aliases).entries number)
  row_of_entry ascending row is =
      let all = (logical_lines_of job.aliases).lines in
      row_is_entry_row all (ascending job.aliases) e row (subst (λ (ls : List Line). IsRowOf ls e row) here is)
      ∙ ap (entry_row_if all) (sym at)

-- ---- the line of a number alone
one_by : (m x : Line) (k : ℕ) → k < length (m ∷ []) → get_or (m ∷ []) k x ≡ x → m ≡ x
one_by m x zero short is = is
one_by m x (suc k) short is = absurd (omega (arith, short))

module _ (lines : List Line) (ascending : AllPairs (λ (a b : Line). a.number < b.number) lines) (number : ℕ) (part : List Line) where
  pub part_ascends : IsPartAt lines number part → AllPairs (λ (a b : Line). a.number < b.number) part
  part_ascends h =
      let P : List Line → Type 0 = λ ls. AllPairs (λ (a b : Line). a.number < b.number) ls in
      elim h [
        | inl all ↦ subst P (sym all) ascending
        | inr one ↦ subst P (sym one.3) (λ i j d before short. absurd (omega (arith, before, short)))
      ]

  -- numbers that ascend are distinct
  line_is : (l m : Line) → Contains lines l → Contains lines m → l.number ≡ m.number → m ≡ l
  line_is l m has also same = same_Some m l (sym (line_there lines ascending m also) ∙ ap (line_at lines) (sym same) ∙ line_there lines ascending l has)

  pub part_there : IsPartAt lines number part → (e : AliasEntry) → e.line ≡ number → (l : Line) × IsEntryLine lines e l → (l : Line) × IsEntryLine part e l
  part_there h e is found =
      let on = found.1 in
      elim h [
        | inl all ↦ (found.0, subst (λ (ls : List Line). IsEntryLine ls e found.0) (sym all) on)
        | inr one ↦
            let same : one.0 ≡ found.0 = line_is found.0 one.0 on.there one.1 (on.number ∙ is ∙ sym one.2) in
            let there : Contains (one.0 ∷ []) found.0 = (0, omega arith, same) in (
              found.0,
              record { there = subst (λ (ls : List Line). Contains ls found.0) (sym one.3) there; number = on.number; heading = on.heading; headed = on.headed; name = on.name; items = on.items },
            )
      ]

  pub part_row : IsPartAt lines number part → (e : AliasEntry) (row : List PlacedItem) → IsRowOf part e row → IsRowOf lines e row
  part_row h e row is =
      let on = is.on in
      elim h [
        | inl all ↦ subst (λ (ls : List Line). IsRowOf ls e row) all is
        | inr one ↦
            let here = subst (λ (ls : List Line). Contains ls is.line) one.3 on.there in
            let same : one.0 ≡ is.line = one_by one.0 is.line here.0 here.1 here.2 in
            record {
              line = is.line;
              on = record { there = subst (Contains lines) same one.1; number = on.number; heading = on.heading; headed = on.headed; name = on.name; items = on.items };
              row_is = is.row_is;
            }
      ]

-- an item of a number, by a look-up among the places of an entry's items
pub listed_got : (job : Job) (node : Node) (entry : Entry) (d : Directory) → d ≡ directory_of job → Some entry ≡ entry_at d node → (places : List ItemPlace) → map place_value places ≡ row_of job node → (read : List ItemPlace) → read ≡ places → (item : ℕ) (r : Option (Bor ItemPlace)) → IsItemAt read item r → slice_get (listed_by job node) item ≡ option_map (listed_in entry) (option_map place_value (option_map (λ (x : Bor ItemPlace). x.now) r))
listed_got job node entry d is here places row read same item r lookup =
    let entry_is : Some entry ≡ entry_at (directory_of job) node = here ∙ ap (λ (d : Directory). entry_at d node) is in
    let all : listed_by job node ≡ map (listed_in entry) (map place_value places) =
    sym (ap (λ (o : Option Entry). unwrap_or (option_map (λ entry. map (listed_in entry) (row_of job node)) o) []) entry_is) ∙ ap (map (listed_in entry)) (sym row) in
    let got : slice_get places item ≡ option_map (λ (x : Bor ItemPlace). x.now) r = ap (λ (ps : List ItemPlace). slice_get ps item) (sym same) ∙ sym (item_got read item r lookup) in
    ap (λ (ls : List Listed). slice_get ls item) all
    ∙ slice_get-map (listed_in entry) (map place_value places) item
    ∙ ap (option_map (listed_in entry)) (slice_get-map place_value places item ∙ ap (option_map place_value) got)
