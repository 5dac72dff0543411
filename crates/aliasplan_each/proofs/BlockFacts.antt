-- What becomes of an envelope, and how blocks make an answer.
use Rattle.std.proofs.Common.{◌≡◌, Bool, false, true, ℕ, zero, suc, ◌+◌, ◌<◌, ◌≤◌, inl, inr, List, [], ◌∷◌, ◌++◌, map, take, get_or, slice_get, Option, Some, None, Result, Ok, Err, OnOk, sym, ap, ◌∙◌, subst, append_assoc, length, refl, arith}
use Rattle.std.specs.Prelude.{nat_lt, if◌then◌else◌}
use Rattle.std.specs.Option.{option_map}
use Rattle.std.specs.List.{fold}
use Rattle.std.proofs.lemmas.Bool.{lt-ltb, le-ltb, cases_lt}
use Rattle.std.proofs.lemmas.List.{append-nil, map_more, take_all, length-take}
use Rattle.std.proofs.lemmas.List.Concat.{flat_map-append}
use Rattle.std.proofs.lemmas.Option.{same_Some}
use Rattle.relay_job.specs.declared.job.Job.{Job}
use Rattle.relay_job.specs.declared.envelope.Envelope.{Envelope}
use Rattle.relay_job.specs.declared.fault.RunFault.{RunFault}
use Rattle.relay_job.specs.declared.fault.RunFault.TheVariants.{Read, TooLong, BadJob, BadSetting, BadEnvelope, TooManyNames, TooManyOwners, TooManyPairs, Write, Memory}
use Rattle.relay_job.specs.Envelopes.{envelope_of, with_envelope, envelope_by, envelope_commands, envelope_unless}
use Rattle.relay_job.specs.JobParts.{first_bad_command}
use Rattle.relay_job.specs.JobAnswers.{Fails}
use Rattle.relay_envelopes.specs.declared.refusal.Refusal.{Refusal}
use Rattle.relay_envelopes.specs.declared.refusal.Refusal.TheVariants as refusals
use Rattle.relay_envelopes.specs.declared.counts.EnvelopeCounts.{EnvelopeCounts}
use Rattle.relay_envelopes.specs.declared.section.EnvelopeSection.{EnvelopeSection}
use Rattle.relay_envelopes.specs.Sections.{Section}
use Rattle.relay_envelopes.specs.Envelopes.{section_in}
use Rattle.relay_envelopes.specs.EachText.{with_planned, with_refused}
use Rattle.aliasplan_each.specs.declared.wording.Wording.{Wording}
use Rattle.relay_planning.specs.declared.options.Limits.{Limits}
use Rattle.aliasplan_each.specs.Forms.{planned_text_in, refused_text_in, returned_block_in}
use Rattle.aliasplan_each.specs.Blocks.{Block, Outcome, refusal_of, section_envelope, IsOutcome, IsPlannedWith, IsRefusedFor, IsSectionFault, IsUnplanned, IsBlock, Grows, GrowsByAll, with_outcome, texts_of}
use Rattle.aliasplan_each.specs.Blocks.Outcome.{planned, refused}
use Rattle.aliasplan_each.specs.Feeding.{kept}

-- what follows from two facts of a value
pub on_ok_both : {T E P Q R : Type 0} (r : Result T E) → OnOk r P → OnOk r Q → (P → Q → R) → OnOk r R
on_ok_both (Ok a) p q f = f p q
on_ok_both (Err e) p q f = tt

-- what a job isn't planned for
abbrev pub IsPlanFault : RunFault → Type 0
IsPlanFault TooManyNames = Unit {0}
IsPlanFault TooManyOwners = Unit {0}
IsPlanFault TooManyPairs = Unit {0}
IsPlanFault Memory = Unit {0}
IsPlanFault (BadEnvelope number) = ⊥
IsPlanFault TooLong = ⊥
IsPlanFault Read = ⊥
IsPlanFault (BadJob number) = ⊥
IsPlanFault (BadSetting number) = ⊥
IsPlanFault Write = ⊥

-- A section that is too long, or no envelope, has no other fault.
abbrev pub IsUnread : RunFault → Type 0
IsUnread (BadEnvelope number) = Unit {0}
IsUnread TooLong = Unit {0}
IsUnread Read = ⊥
IsUnread (BadJob number) = ⊥
IsUnread (BadSetting number) = ⊥
IsUnread TooManyNames = ⊥
IsUnread TooManyOwners = ⊥
IsUnread TooManyPairs = ⊥
IsUnread Write = ⊥
IsUnread Memory = ⊥

bad-alone : (o : Option ℕ) (envelope : Envelope) (fault : RunFault) → envelope_unless (option_map BadEnvelope o) envelope ≡ Err fault → IsUnread fault
bad-alone (Some n) envelope fault h = let e : BadEnvelope n ≡ fault = cc in subst IsUnread e tt
bad-alone None envelope fault h = absurd (let no : ⊥ = cc in no)

fault_of_envelope : (origin text : List ℕ) (fault : RunFault) → envelope_of origin text ≡ Err fault → IsUnread fault
unfolding envelope_of
fault_of_envelope origin text fault h = bad-alone (first_bad_command origin 0 (envelope_commands text)) (envelope_by origin (envelope_commands text)) fault h

fault_unless : (long : Bool) (origin text : List ℕ) (fault : RunFault) → (if long then Err TooLong else envelope_of origin text) ≡ Err fault → IsUnread fault
fault_unless true origin text fault h = let e : TooLong ≡ fault = cc in subst IsUnread e tt
fault_unless false origin text fault h = fault_of_envelope origin text fault h

module _ (limits : Limits) (tables : Job) (section : Section) where
  -- a section that is too long, and one that isn't
  pub long_section : limits.bytes < length section.bytes → section_envelope limits tables section ≡ Err TooLong
  long_section h = rw (lt-ltb _ _ h) refl

  pub short_section : length section.bytes ≤ limits.bytes → section_envelope limits tables section ≡ envelope_of tables.settings.origin section.bytes
  short_section h = rw (le-ltb _ _ h) refl

  unread : (fault : RunFault) → section_envelope limits tables section ≡ Err fault → IsUnread fault
  unread fault h = fault_unless (nat_lt limits.bytes (length section.bytes)) tables.settings.origin section.bytes fault h

module _ (limits : Limits) (returns : Bool) (tables : Job) (section : Section) where
  pub fault_of_section : (fault : RunFault) → Fails fault (section_envelope limits tables section) → IsSectionFault limits returns tables section fault
  fault_of_section (BadEnvelope number) h = h
  fault_of_section TooLong h = h
  fault_of_section Memory h = tt
  fault_of_section Read h = absurd (unread limits tables section Read h)
  fault_of_section (BadJob number) h = absurd (unread limits tables section (BadJob number) h)
  fault_of_section (BadSetting number) h = absurd (unread limits tables section (BadSetting number) h)
  fault_of_section TooManyNames h = absurd (unread limits tables section TooManyNames h)
  fault_of_section TooManyOwners h = absurd (unread limits tables section TooManyOwners h)
  fault_of_section TooManyPairs h = absurd (unread limits tables section TooManyPairs h)
  fault_of_section Write h = absurd (unread limits tables section Write h)

  refused_for : (fault : RunFault) (refusal : Refusal) → IsSectionFault limits returns tables section fault → refusal_of fault ≡ Some refusal → IsRefusedFor limits returns tables section refusal
  refused_for (BadEnvelope number) refusal h e = let same : refusals.BadEnvelope number ≡ refusal = cc in subst (IsRefusedFor limits returns tables section) same h
  refused_for TooManyNames refusal h e = let same : refusals.TooManyNames ≡ refusal = cc in subst (IsRefusedFor limits returns tables section) same h
  refused_for TooManyOwners refusal h e = let same : refusals.TooManyOwners ≡ refusal = cc in subst (IsRefusedFor limits returns tables section) same h
  refused_for TooManyPairs refusal h e = let same : refusals.TooManyPairs ≡ refusal = cc in subst (IsRefusedFor limits returns tables section) same h
  refused_for TooLong refusal h e = let same : refusals.TooLong ≡ refusal = cc in subst (IsRefusedFor limits returns tables section) same h
  refused_for Memory refusal h e = absurd (let no : ⊥ = cc in no)
  refused_for Read refusal h e = absurd h
  refused_for (BadJob number) refusal h e = absurd h
  refused_for (BadSetting number) refusal h e = absurd h
  refused_for Write refusal h e = absurd h

  -- an envelope whose job isn't planned, or its returns aren't told
  module _ (envelope : Envelope) (read : section_envelope limits tables section ≡ Ok envelope) where
    no_other : (with : Bool) (fault : RunFault) → IsUnplanned with limits (with_envelope tables envelope) fault → IsPlanFault fault
    no_other false (BadEnvelope number) h = h
    no_other false Memory h = tt
    no_other false Read h = h
    no_other false TooLong h = h
    no_other false (BadJob number) h = h
    no_other false (BadSetting number) h = h
    no_other false TooManyNames h = tt
    no_other false TooManyOwners h = tt
    no_other false TooManyPairs h = tt
    no_other false Write h = h
    no_other true (BadEnvelope number) h = h
    no_other true Memory h = tt
    no_other true Read h = h
    no_other true TooLong h = h
    no_other true (BadJob number) h = h
    no_other true (BadSetting number) h = h
    no_other true TooManyNames h = tt
    no_other true TooManyOwners h = tt
    no_other true TooManyPairs h = tt
    no_other true Write h = h

    pub fault_of_job : (fault : RunFault) → IsUnplanned returns limits (with_envelope tables envelope) fault → IsSectionFault limits returns tables section fault
    fault_of_job (BadEnvelope number) h = absurd (no_other returns (BadEnvelope number) h)
    fault_of_job Memory h = tt
    fault_of_job Read h = no_other returns Read h
    fault_of_job TooLong h = absurd (no_other returns TooLong h)
    fault_of_job (BadJob number) h = no_other returns (BadJob number) h
    fault_of_job (BadSetting number) h = no_other returns (BadSetting number) h
    fault_of_job TooManyNames h = record { envelope = envelope; read = read; refused = h }
    fault_of_job TooManyOwners h = record { envelope = envelope; read = read; refused = h }
    fault_of_job TooManyPairs h = record { envelope = envelope; read = read; refused = h }
    fault_of_job Write h = no_other returns Write h

module _ (limits : Limits) (wording : Wording) (tables : Job) (section : Section) (old new : List ℕ) (before after : EnvelopeCounts) where
  -- the block of a plan, and that of a refusal
  pub grows_by_plan : (text : List ℕ) (findings : ℕ) → IsPlannedWith limits wording.form tables wording.returns section text findings → new ≡ old ++ text → after ≡ with_planned before findings → Grows limits wording tables section old new before after
  grows_by_plan text findings is more counted = record {
    block = record { text = text; outcome = planned findings };
    is = is;
    written = more;
    counted = counted;
  }

  pub grows_by_refusal : (fault : RunFault) (refusal : Refusal) → IsSectionFault limits wording.returns tables section fault → refusal_of fault ≡ Some refusal → new ≡ old ++ refused_text_in wording.form section.id refusal → after ≡ with_refused before → Grows limits wording tables section old new before after
  grows_by_refusal fault refusal h e more counted = record {
    block = record { text = refused_text_in wording.form section.id refusal; outcome = refused refusal };
    is = record { refused = refused_for limits wording.returns tables section fault refusal h e; written = refl };
    written = more;
    counted = counted;
  }

-- Sections of which the same is kept have the same blocks.
module _ (limits : Limits) (wording : Wording) (tables : Job) (s t : Section) (same : kept limits.bytes s ≡ kept limits.bytes t) where
  cut-envelope : (s : Section) → section_envelope limits tables (kept limits.bytes s) ≡ section_envelope limits tables s
  cut-envelope s = elim (cases_lt limits.bytes (length s.bytes)) [
    | inl long ↦ (
        let cut : limits.bytes < length (take (limits.bytes + 1) s.bytes) = omega (arith, length-take (limits.bytes + 1) s.bytes, long) in
        long_section limits tables (kept limits.bytes s) cut ∙ sym (long_section limits tables s long)
        )
    | inr short ↦ (
        let all : take (limits.bytes + 1) s.bytes ≡ s.bytes = take_all (limits.bytes + 1) s.bytes (omega (arith, short)) in
        ap (λ (l : List ℕ). section_envelope limits tables (record { line = s.line; id = s.id; bytes = l })) all
        )
  ]

  alike : section_envelope limits tables t ≡ section_envelope limits tables s
  alike = sym (cut-envelope t) ∙ ap (section_envelope limits tables) (sym same) ∙ cut-envelope s

  ids : s.id ≡ t.id
  ids = ap (λ (q : Section). q.id) same

  refused-kept : (refusal : Refusal) → IsRefusedFor limits wording.returns tables s refusal → IsRefusedFor limits wording.returns tables t refusal
  refused-kept (refusals.BadEnvelope number) h = alike ∙ h
  refused-kept refusals.TooLong h = alike ∙ h
  refused-kept refusals.TooManyNames h = record { envelope = h.envelope; read = alike ∙ h.read; refused = h.refused }
  refused-kept refusals.TooManyOwners h = record { envelope = h.envelope; read = alike ∙ h.read; refused = h.refused }
  refused-kept refusals.TooManyPairs h = record { envelope = h.envelope; read = alike ∙ h.read; refused = h.refused }

  planned-kept : (returns : Bool) (text : List ℕ) (findings : ℕ) → IsPlannedWith limits wording.form tables returns s text findings → IsPlannedWith limits wording.form tables returns t text findings
  planned-kept false text findings h = record {
    envelope = h.envelope;
    read = alike ∙ h.read;
    within = h.within;
    plan = h.plan;
    planned = h.planned;
    sound = h.sound;
    fewest = h.fewest;
    written = h.written ∙ ap (λ id. planned_text_in wording.form id h.plan) ids;
    counted = h.counted;
  }
  planned-kept true text findings h = record {
    envelope = h.envelope;
    read = alike ∙ h.read;
    within = h.within;
    plan = h.plan;
    planned = h.planned;
    returns = h.returns;
    returned = h.returned;
    sound = h.sound;
    fewest = h.fewest;
    written = h.written ∙ ap (λ id. returned_block_in wording.form id h.plan h.returns) ids;
    counted = h.counted;
  }

  outcome-kept : (text : List ℕ) (outcome : Outcome) → IsOutcome limits wording tables s text outcome → IsOutcome limits wording tables t text outcome
  outcome-kept text (planned findings) h = planned-kept wording.returns text findings h
  outcome-kept text (refused refusal) h = record { refused = refused-kept refusal h.refused; written = h.written ∙ ap (λ id. refused_text_in wording.form id refusal) ids }

  pub IsBlock-kept : (b : Block) → IsBlock limits wording tables s b → IsBlock limits wording tables t b
  IsBlock-kept b h = outcome-kept b.text b.outcome h

abbrev pub with_block : EnvelopeCounts → Block → EnvelopeCounts
with_block counts block = with_outcome counts block.outcome

fold-append : (before : EnvelopeCounts) (blocks : List Block) (block : Block) → fold with_block before (blocks ++ block ∷ []) ≡ with_outcome (fold with_block before blocks) block.outcome
fold-append before [] block = refl
fold-append before (b ∷ bs) block = fold-append (with_block before b) bs block

module _ (limits : Limits) (wording : Wording) (tables : Job) where
  -- `AreBlocks`, by recursion
  abbrev pub Answer : List Section → List Block → Type 0
  Answer [] [] = Unit {0}
  Answer [] (block ∷ blocks) = ⊥
  Answer (section ∷ sections) [] = ⊥
  Answer (section ∷ sections) (block ∷ blocks) = IsBlock limits wording tables section block × Answer sections blocks

  answer_more : (sections : List Section) (blocks : List Block) (section : Section) (block : Block) → Answer sections blocks → IsBlock limits wording tables section block → Answer (sections ++ section ∷ []) (blocks ++ block ∷ [])
  answer_more [] [] section block h is = (is, tt)
  answer_more [] (b ∷ bs) section block h is = absurd h
  answer_more (s ∷ ss) [] section block h is = absurd h
  answer_more (s ∷ ss) (b ∷ bs) section block h is = (h.0, answer_more ss bs section block h.1 is)

  as_many : (sections : List Section) (blocks : List Block) → Answer sections blocks → length blocks ≡ length sections
  as_many [] [] h = refl
  as_many [] (b ∷ bs) h = absurd h
  as_many (s ∷ ss) [] h = absurd h
  as_many (s ∷ ss) (b ∷ bs) h = ap suc (as_many ss bs h.1)

  block_at : (sections : List Section) (blocks : List Block) → Answer sections blocks → (k : ℕ) (section : Section) (block : Block) → slice_get sections k ≡ Some section → slice_get blocks k ≡ Some block → IsBlock limits wording tables section block
  block_at [] [] h k section block e f = absurd (let no : ⊥ = cc in no)
  block_at [] (b ∷ bs) h k section block e f = absurd h
  block_at (s ∷ ss) [] h k section block e f = absurd h
  block_at (s ∷ ss) (b ∷ bs) h zero section block e f =
      let one : s ≡ section = same_Some s section e in
      let other : b ≡ block = same_Some b block f in
      subst (λ (x : Section). IsBlock limits wording tables x block) one (subst (λ (x : Block). IsBlock limits wording tables s x) other h.0)
  block_at (s ∷ ss) (b ∷ bs) h (suc k) section block e f = block_at ss bs h.1 k section block e f

  -- what has been added for the sections so far
  pub record Grown (sections : List Section) (old new : List ℕ) (before after : EnvelopeCounts) : Type 0 where
    pub blocks : List Block
    pub answer : Answer sections blocks
    pub written : new ≡ old ++ texts_of blocks
    pub counted : after ≡ fold with_block before blocks

  pub none_grown : (old : List ℕ) (before : EnvelopeCounts) → Grown [] old old before before
  none_grown old before = record { blocks = []; answer = tt; written = sym (append-nil old); counted = refl }

  grown_more : (sections : List Section) (section : Section) (old between new : List ℕ) (before middle after : EnvelopeCounts) → Grown sections old between before middle → Grows limits wording tables section between new middle after → Grown (sections ++ section ∷ []) old new before after
  grown_more sections section old between new before middle after h g = record {
    blocks = h.blocks ++ g.block ∷ [];
    answer = answer_more sections h.blocks section g.block h.answer g.is;
    written =
        g.written ∙ ap (λ bytes. bytes ++ g.block.text) h.written ∙ append_assoc old (texts_of h.blocks) g.block.text
        ∙ ap (λ bytes. old ++ bytes) (ap (λ bytes. texts_of h.blocks ++ bytes) (sym (append-nil g.block.text)) ∙ sym (flat_map-append (λ (block : Block). block.text) h.blocks (g.block ∷ [])));
    counted = g.counted ∙ ap (λ counts. with_outcome counts g.block.outcome) h.counted ∙ sym (fold-append before h.blocks g.block);
  }

  pub grown_next : (all : List EnvelopeSection) (k : ℕ) (section : EnvelopeSection) → k < length all → (old between new : List ℕ) (before middle after : EnvelopeCounts) → Grown (map section_in (take k all)) old between before middle → Grows limits wording tables (section_in (get_or all k section)) between new middle after → Grown (map section_in (take (k + 1) all)) old new before after
  grown_next all k section short old between new before middle after h g =
      subst (λ (sections : List Section). Grown sections old new before after) (sym (map_more section_in all k section short))
      (grown_more (map section_in (take k all)) (section_in (get_or all k section)) old between new before middle after h g)

  pub all_grown : (sections : List Section) (old new : List ℕ) (before after : EnvelopeCounts) → Grown sections old new before after → GrowsByAll limits wording tables sections old new before after
  all_grown sections old new before after h = record {
    blocks = h.blocks;
    are_blocks = record { len = as_many sections h.blocks h.answer; each = block_at sections h.blocks h.answer };
    written = h.written;
    counted = h.counted;
  }
