use Rattle.std.proofs.Common.{◌≡◌, ◌||◌, ℕ, true, false, List, [], ◌∷◌, ◌++◌, Option, Some, None, map, refl, sym, ap, subst, ◌∙◌}
use Rattle.std.specs.Option.{option_map}
use Rattle.std.specs.Str.{bytes_eq}
use Rattle.std.proofs.lemmas.Bool.{not-true}
use Rattle.std.proofs.lemmas.List.{map_push}
use Rattle.std.proofs.lemmas.Result.{err_from_is_err_and}
use Rattle.relay_text.specs.Bytes.{has_text}
use Rattle.relay_job.specs.declared.fault.RunFault.{RunFault}
use Rattle.relay_job.specs.declared.fault.RunFault.TheVariants.{BadJob}
use Rattle.relay_job.specs.JobParts.{Stops}
use Rattle.relay_job.specs.JobText.{text_of, is_heading}
use Rattle.relay_job.specs.Places.{line_of, lines_at}
use Rattle.relay_envelopes.specs.Headings.{id_of}
use Rattle.relay_envelopes.specs.Sections.{Section}
use Rattle.relay_envelopes.specs.Envelopes.{section_in}
use Rattle.relay_envelopes.proofs.SectionFacts.{bytes_between, section_at, bad-all, heading-first, Scanned, Scanned-start, Scanned-stray, Scanned-taken, Scanned-found}
use Rattle.relay_envelopes.proofs.parts.find_envelopes.Goals as goal

-- a bad line is the first fault
stops : (line : Option ℕ) (fault : RunFault) → option_map BadJob line ≡ Some fault → Stops (option_map BadJob line) fault
stops None fault h = absurd (let no : ⊥ = cc in no)
stops (Some n) fault h = let is : BadJob n ≡ fault = cc in subst (Stops (Some (BadJob n))) is refl

pub returns-in_err-behind-clause-refused : goal.returns-in_err-behind-clause-refused
returns-in_err-behind-clause-refused c =
    let p = err_from_is_err_and c.from_residual.result c.from_residual.ensures.1 in
    rw (p.1, p.2) (stops _ _ (ap (option_map BadJob) (bad-all (lines_at c.args.place)) ∙ c.in_err-behind.ensures.refused []))

pub loop-heading-init : goal.loop-heading-init
loop-heading-init c = record {
  at_heading = c.in_ok-behind.ensures.heading;
  scanned = Scanned-start _ _ _ _ (ap (map section_in) c.new-sections.ensures.items) c.new-ids.ensures c.in_ok-behind.ensures.unbroken c.in_ok-behind.ensures.sections;
}

pub loop-heading-preserved : goal.loop-heading-preserved
loop-heading-preserved c =
    let x = line_of c.in-Some.heading in
    let before : List Section = map section_in c.loop-heading.sections.items in
    let scanned : Scanned (lines_at c.args.place) (x ∷ lines_at c.in-Some.after) before c.loop-heading.ids = rw c.in-Some.ensures.lines at c.loop-heading.invariant.scanned in
    let first : is_heading x ≡ true = heading-first _ x _ c.in-Some.ensures.lines c.loop-heading.invariant.at_heading in
    let names : id_of (text_of x) ≡ Some c.in-Some-envelope_id.id.now = sym (rw c.text.ensures at c.in-Some-envelope_id.ensures) in
    let fresh : has_text c.loop-heading.ids c.in-Some-envelope_id.id.now ≡ false = rw c.in_ok-from_slice.ensures.items at (not-true _ (sym c.in_ok-insert.ensures.fresh ∙ c.if-not-branch.false)) in
    let adds : (q : List ℕ) → has_text c.insert.new.self q ≡ (bytes_eq q c.in-Some-envelope_id.id.now || has_text c.loop-heading.ids q) = rw c.in_ok-from_slice.ensures.items at c.in_ok-insert.ensures.ok in
    let is : map section_in c.push.new.self.items ≡ before ++ section_at x c.in-Some-envelope_id.id.now (lines_at c.in-Some.after) ∷ [] =
    ap (map section_in) c.in_ok-push.ensures.items
    ∙ map_push section_in c.loop-heading.sections.items _
    ∙ ap (λ (bytes : List ℕ). before ++ record { line = x.number; id = c.in-Some-envelope_id.id.now; bytes = bytes } ∷ []) (bytes_between c.in-Some.after.rest.now c.next_heading-next.result.rest.now _ c.next_heading-next.ensures.bytes) in
    record {
      at_heading = c.in_ok-behind-2.ensures.heading;
      scanned = Scanned-taken _ x _ _ _ _ _ scanned first names fresh c.next_heading-next.ensures.lines _ _ _ adds is c.in_ok-behind-2.ensures.unbroken c.in_ok-behind-2.ensures.sections;
    }

pub returns-in_err-behind-2-clause-refused : goal.returns-in_err-behind-2-clause-refused
returns-in_err-behind-2-clause-refused c =
    let p = err_from_is_err_and c.from_residual-in_err-behind-2.result c.from_residual-in_err-behind-2.ensures.1 in
    let x = line_of c.in-Some.heading in
    let scanned : Scanned (lines_at c.args.place) (x ∷ lines_at c.in-Some.after) (map section_in c.loop-heading.sections.items) c.loop-heading.ids = rw c.in-Some.ensures.lines at c.loop-heading.invariant.scanned in
    let first : is_heading x ≡ true = heading-first _ x _ c.in-Some.ensures.lines c.loop-heading.invariant.at_heading in
    let names : id_of (text_of x) ≡ Some c.in-Some-envelope_id.id.now = sym (rw c.text.ensures at c.in-Some-envelope_id.ensures) in
    let fresh : has_text c.loop-heading.ids c.in-Some-envelope_id.id.now ≡ false = rw c.in_ok-from_slice.ensures.items at (not-true _ (sym c.in_ok-insert.ensures.fresh ∙ c.if-not-branch.false)) in
    rw (p.1, p.2) (stops _ _ (Scanned-stray _ x _ _ _ _ _ scanned first names fresh c.next_heading-next.ensures.lines _ c.in_err-behind-2.ensures.refused))

pub returns-clause-sections : goal.returns-clause-sections
returns-clause-sections c = Scanned-found _ _ _ _ c.loop-heading.invariant.scanned c.in_default.ensures.none
