-- The lines of the report that are of files and tables at fault.
use Rattle.std.proofs.Common.{◌≡◌, ℕ, Bool, true, ◌||◌, List, [], ◌∷◌, map, refl, sym, ap, ◌∙◌, inl, inr}
use Rattle.std.specs.Prelude.{IsTrue, ◌↔◌}
use Rattle.std.specs.List.{list_any}
use Rattle.std.specs.Str.{bytes_eq}
use Rattle.std.proofs.lemmas.Bool.{or_cases, or_left, or_right, true≢false}
use Rattle.std.proofs.lemmas.Slice.Eq.{bytes_eq-Decides}
use Rattle.relay_aliasfile.specs.AliasFiles.{alias_file_of}
use Rattle.relay_aliasfile.specs.IncludeFiles.{include_file_of}
use Rattle.relay_aliasfile.specs.MailboxFiles.{mailbox_file_of}
use Rattle.relay_aliasfile.specs.declared.fault.LineFault.{LineFault}
use Rattle.relay_routes.specs.declared.fault.LineFault.{LineFault as TableLineFault}
use Rattle.relay_routes.specs.Transports.{transport_table_of}
use Rattle.relay_routes.specs.Exchanges.{mx_table_of}
use Rattle.relay_wire.specs.declared.finding.LineWord.{LineWord}
use Rattle.relay_wire.specs.declared.finding.Finding.{Finding}
use Rattle.relay_wire.specs.declared.finding.Finding.TheVariants.{Missing, NoInclude, File, Command, EmptyAlias, EmptyInclude, LoopAlias, LoopInclude, Unrouted, Aliases, Include, Mailboxes, Mx, Transport}
use Rattle.relay_wire.specs.Findings.{finding_text_of}
use Rattle.relay_job.specs.declared.job.Job.{Job}
use Rattle.relay_job.specs.declared.job.JobInclude.{JobInclude}
use Rattle.relay_planning.specs.declared.job_file.JobFile.TheVariants as lookup
use Rattle.relay_planning.specs.declared.table.Table.TheVariants as tables
use Rattle.relay_planning.specs.Report.{word_of, table_word_of, file_words, table_words, texts, part_of, IsFinding, IsLineOf}
use Rattle.relay_planning.specs.Texts.{table_line}
use Rattle.relay_planning.specs.Texts.{file_line, has_include_line, has_fault_line}
use Rattle.relay_planning.proofs.Members.{In, in_from, contains_in}

-- faults by their numbers and words, and the lines that report them
module _ {F : Type 0} (number_of : F → ℕ) (kind_of : F → LineWord) (finding : ℕ → LineWord → Finding) where
  abbrev fault_words : List F → List (ℕ × LineWord)
  fault_words faults = map (λ f. (number_of f, kind_of f)) faults

  abbrev line_at : F → List ℕ
  line_at f = finding_text_of (finding (number_of f) (kind_of f))

  fault_found : (faults : List F) (q : List ℕ) → list_any (λ f. bytes_eq q (line_at f)) faults ≡ true → (number : ℕ) × (word : LineWord) × In (fault_words faults) (number, word) × (q ≡ finding_text_of (finding number word))
  fault_found [] q h = absurd (true≢false (sym h))
  fault_found (f ∷ fs) q h =
      elim (or_cases (bytes_eq q (line_at f)) (list_any (λ g. bytes_eq q (line_at g)) fs) h) [
        | inl here ↦ (number_of f, kind_of f, inl refl, (bytes_eq-Decides q (line_at f)).0 here)
        | inr there ↦
            let later = fault_found fs q there in
            (later.0, later.1, inr later.2, later.3)
      ]

  fault_has : (faults : List F) (q : List ℕ) (number : ℕ) (word : LineWord) → In (fault_words faults) (number, word) → q ≡ finding_text_of (finding number word) → list_any (λ f. bytes_eq q (line_at f)) faults ≡ true
  fault_has [] q number word h e = elim h [ ]
  fault_has (f ∷ fs) q number word h e =
      elim h [
        | inl here ↦
            let same : line_at f ≡ finding_text_of (finding number word) = ap (λ (p : ℕ × LineWord). finding_text_of (finding p.0 p.1)) here in
            or_left (bytes_eq q (line_at f)) _ ((bytes_eq-Decides q (line_at f)).1 (e ∙ sym same))
        | inr there ↦ or_right (bytes_eq q (line_at f)) _ (fault_has fs q number word there e)
      ]

-- some element passes a test
some_passes : {X : Type 0} (p : X → Bool) (xs : List X) (x : X) → In xs x → p x ≡ true → list_any p xs ≡ true
some_passes p [] x h passes = elim h [ ]
some_passes p (y ∷ ys) x h passes =
    elim h [
      | inl here ↦ or_left (p y) (list_any p ys) (ap p here ∙ passes)
      | inr there ↦ or_right (p y) (list_any p ys) (some_passes p ys x there passes)
    ]

passes_some : {X : Type 0} (p : X → Bool) (xs : List X) → list_any p xs ≡ true → (x : X) × In xs x × (p x ≡ true)
passes_some p [] h = absurd (true≢false (sym h))
passes_some p (y ∷ ys) h =
    elim (or_cases (p y) (list_any p ys) h) [
      | inl here ↦ (y, inl refl, here)
      | inr there ↦
          let later = passes_some p ys there in
          (later.0, inr later.1, later.2)
    ]

module _ (job : Job) (q : List ℕ) where
  abbrev in_aliases : Bool
  in_aliases = list_any (λ fault. bytes_eq q (file_line lookup.Aliases fault)) (alias_file_of job.aliases).faults

  abbrev in_mailboxes : Bool
  in_mailboxes = list_any (λ fault. bytes_eq q (file_line lookup.Mailboxes fault)) (mailbox_file_of job.mailboxes).faults

  abbrev in_transports : Bool
  in_transports = list_any (λ fault. bytes_eq q (table_line tables.Transport fault)) (transport_table_of job.transport).faults

  abbrev in_exchanges : Bool
  in_exchanges = list_any (λ fault. bytes_eq q (table_line tables.Mx fault)) (mx_table_of job.mx).faults

  abbrev in_includes : Bool
  in_includes = list_any (has_include_line q) job.includes

  aliases_line : in_aliases ≡ true → IsLineOf job texts q
  aliases_line h =
      let found = fault_found (λ (f : LineFault). f.line) (λ f. word_of f.kind) Aliases (alias_file_of job.aliases).faults q h in
      (Aliases found.0 found.1, refl, contains_in (file_words (alias_file_of job.aliases).faults) (found.0, found.1) found.2, found.3)

  mailboxes_line : in_mailboxes ≡ true → IsLineOf job texts q
  mailboxes_line h =
      let found = fault_found (λ (f : LineFault). f.line) (λ f. word_of f.kind) Mailboxes (mailbox_file_of job.mailboxes).faults q h in
      (Mailboxes found.0 found.1, refl, contains_in (file_words (mailbox_file_of job.mailboxes).faults) (found.0, found.1) found.2, found.3)

  transports_line : in_transports ≡ true → IsLineOf job texts q
  transports_line h =
      let found = fault_found (λ (f : TableLineFault). f.line) (λ f. table_word_of f.kind) Transport (transport_table_of job.transport).faults q h in
      (Transport found.0 found.1, refl, contains_in (table_words (transport_table_of job.transport).faults) (found.0, found.1) found.2, found.3)

  exchanges_line : in_exchanges ≡ true → IsLineOf job texts q
  exchanges_line h =
      let found = fault_found (λ (f : TableLineFault). f.line) (λ f. table_word_of f.kind) Mx (mx_table_of job.mx).faults q h in
      (Mx found.0 found.1, refl, contains_in (table_words (mx_table_of job.mx).faults) (found.0, found.1) found.2, found.3)

  includes_line : in_includes ≡ true → IsLineOf job texts q
  includes_line h =
      let i = passes_some (has_include_line q) job.includes h in
      let found = fault_found (λ (f : LineFault). f.line) (λ f. word_of f.kind) (Include i.0.path) (include_file_of i.0.bytes).faults q i.2 in
      (Include i.0.path found.0 found.1, refl, (i.0, contains_in job.includes i.0 i.1, refl, contains_in (file_words (include_file_of i.0.bytes).faults) (found.0, found.1) found.2), found.3)

  line_of : IsTrue (has_fault_line job q) → IsLineOf job texts q
  line_of h =
      elim (or_cases (in_aliases || (in_mailboxes || in_includes)) (in_transports || in_exchanges) h) [
        | inr routes ↦ elim (or_cases in_transports in_exchanges routes) [ inl transports ↦ transports_line transports | inr exchanges ↦ exchanges_line exchanges ]
        | inl named ↦
            elim (or_cases in_aliases (in_mailboxes || in_includes) named) [
              | inl aliases ↦ aliases_line aliases
              | inr others ↦ elim (or_cases in_mailboxes in_includes others) [ inl mailboxes ↦ mailboxes_line mailboxes | inr includes ↦ includes_line includes ]
            ]
      ]

  as_name : in_aliases || (in_mailboxes || in_includes) ≡ true → IsTrue (has_fault_line job q)
  as_name h = or_left (in_aliases || (in_mailboxes || in_includes)) (in_transports || in_exchanges) h

  as_route : in_transports || in_exchanges ≡ true → IsTrue (has_fault_line job q)
  as_route h = or_right (in_aliases || (in_mailboxes || in_includes)) (in_transports || in_exchanges) h

  reported : (finding : Finding) → part_of finding ≡ texts → IsFinding job finding → q ≡ finding_text_of finding → IsTrue (has_fault_line job q)
  reported (Aliases number word) part h e =
      as_name (or_left in_aliases _ (fault_has (λ (f : LineFault). f.line) (λ f. word_of f.kind) Aliases (alias_file_of job.aliases).faults q number word (in_from (file_words (alias_file_of job.aliases).faults) (number, word) h) e))
  reported (Mailboxes number word) part h e =
      let has : in_mailboxes ≡ true = fault_has (λ (f : LineFault). f.line) (λ f. word_of f.kind) Mailboxes (mailbox_file_of job.mailboxes).faults q number word (in_from (file_words (mailbox_file_of job.mailboxes).faults) (number, word) h) e in
      as_name (or_right in_aliases _ (or_left in_mailboxes _ has))
  reported (Transport number word) part h e =
      let has : in_transports ≡ true = fault_has (λ (f : TableLineFault). f.line) (λ f. table_word_of f.kind) Transport (transport_table_of job.transport).faults q number word (in_from (table_words (transport_table_of job.transport).faults) (number, word) h) e in
      as_route (or_left in_transports in_exchanges has)
  reported (Mx number word) part h e =
      let has : in_exchanges ≡ true = fault_has (λ (f : TableLineFault). f.line) (λ f. table_word_of f.kind) Mx (mx_table_of job.mx).faults q number word (in_from (table_words (mx_table_of job.mx).faults) (number, word) h) e in
      as_route (or_right in_transports in_exchanges has)
  reported (Include path number word) part h e =
      let i : JobInclude = h.0 in
      let line : q ≡ finding_text_of (Include i.path number word) = e ∙ ap (λ (p : List ℕ). finding_text_of (Include p number word)) (sym h.2) in
      let has : has_include_line q i ≡ true = fault_has (λ (f : LineFault). f.line) (λ f. word_of f.kind) (Include i.path) (include_file_of i.bytes).faults q number word (in_from (file_words (include_file_of i.bytes).faults) (number, word) h.3) line in
      as_name (or_right in_aliases _ (or_right in_mailboxes _ (some_passes (has_include_line q) job.includes i (in_from job.includes i h.1) has)))
  reported (Missing name place) part h e = absurd (let no : ⊥ = cc in no)
  reported (NoInclude path place) part h e = absurd (let no : ⊥ = cc in no)
  reported (File path place) part h e = absurd (let no : ⊥ = cc in no)
  reported (Command text place) part h e = absurd (let no : ⊥ = cc in no)
  reported (EmptyAlias name) part h e = absurd (let no : ⊥ = cc in no)
  reported (EmptyInclude path) part h e = absurd (let no : ⊥ = cc in no)
  reported (LoopAlias name) part h e = absurd (let no : ⊥ = cc in no)
  reported (LoopInclude path) part h e = absurd (let no : ⊥ = cc in no)
  reported (Unrouted a reason) part h e = absurd (let no : ⊥ = cc in no)

  -- what is reported of files and tables are the lines of such findings
  pub text_lines : IsTrue (has_fault_line job q) ↔ IsLineOf job texts q
  text_lines = (line_of, λ line. reported line.0 line.1 line.2 line.3)
