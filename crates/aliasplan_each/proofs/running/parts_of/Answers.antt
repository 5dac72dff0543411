use Rattle.std.proofs.Common.{◌≡◌, ℕ, List, [], ◌∷◌, map, Some, None, sym, ap, ◌∙◌, subst}
use Rattle.std.specs.Option.{option_map}
use Rattle.relay_text.specs.Bytes.{first_of}
use Rattle.relay_job.specs.declared.fault.RunFault.TheVariants.{BadJob}
use Rattle.relay_job.specs.JobAnswers.{Fails}
use Rattle.relay_job.specs.JobParts.{Stops}
use Rattle.relay_job.specs.JobText.{JobLine, bad_job}
use Rattle.relay_job.specs.Tables.{tables_of}
use Rattle.relay_envelopes.specs.Envelopes.{section_in}
use Rattle.relay_envelopes.specs.Sections.{front_of, envelopes_of, bad_envelopes}
use Rattle.relay_envelopes.proofs.SectionFacts.{bytes_between}
use Rattle.aliasplan_each.proofs.PartFacts.{fails_by_front, fails_by_envelopes, parts_are}
use Rattle.aliasplan_each.proofs.running.parts_of.Goals as goal

pub returns-in-Err-parse_tables-clause-refused : goal.returns-in-Err-parse_tables-clause-refused
returns-in-Err-parse_tables-clause-refused c =
    let text = c.args.input.now in
    let place = c.envelopes_place-place in
    let front = bytes_between text place.result.rest.now (front_of text) place.ensures.front in
    let fault = c.in-Err-parse_tables.fault in
    let none = subst (λ (lines : List JobLine). bad_envelopes lines ≡ None) place.ensures.lines c.in-Ok.ensures.unbroken in
    let fails = subst (λ (bytes : List ℕ). Fails fault (tables_of bytes)) front c.in-Err-parse_tables.ensures in
    fails_by_front text fault none fails

pub returns-in-Ok-parse_tables-clause-parts : goal.returns-in-Ok-parse_tables-clause-parts
returns-in-Ok-parse_tables-clause-parts c =
    let text = c.args.input.now in
    let place = c.envelopes_place-place in
    let front = bytes_between text place.result.rest.now (front_of text) place.ensures.front in
    let none = subst (λ (lines : List JobLine). bad_envelopes lines ≡ None) place.ensures.lines c.in-Ok.ensures.unbroken in
    let is = ap tables_of (sym front) ∙ c.in-Ok-parse_tables.ensures in
    parts_are text place.result.rest.now c.in-Ok-parse_tables.tables (map section_in c.in-Ok.sections.items) place.ensures.front none is (c.in-Ok.ensures.sections ∙ ap envelopes_of place.ensures.lines)

pub returns-in-Err-clause-refused : goal.returns-in-Err-clause-refused
returns-in-Err-clause-refused c =
    let text = c.args.input.now in
    let place = c.envelopes_place-place in
    let front = bytes_between text place.result.rest.now (front_of text) place.ensures.front in
    let fault = c.in-Err.fault in
    let stops = subst (λ (lines : List JobLine). Stops (option_map BadJob (bad_envelopes lines)) fault) place.ensures.lines c.in-Err.ensures.refused in
    let first = subst (λ (bytes : List ℕ). Stops (first_of (option_map BadJob (bad_job bytes) ∷ Some fault ∷ [])) c.first_fault.result) front c.first_fault.ensures in
    fails_by_envelopes text fault c.first_fault.result stops first
