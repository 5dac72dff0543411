-- What a run over envelopes that come beside the tables has written, and why it refuses.
use Rattle.std.proofs.Common.{◌≡◌, ◌≤◌, ℕ, ◌+◌, ◌-◌, ◌^◌, Bool, true, false, not, cond, ◌&&◌, List, [], ◌∷◌, ◌++◌, length, map, take, Option, Some, None, Ok, Err, refl, sym, ap, subst, ◌∙◌}
use Rattle.std.specs.List.{list_all, list_any, flat_map, fold}
use Rattle.std.specs.Option.{IfSome}
use Rattle.std.specs.Result.{IfOk, IfErr}
use Rattle.std.specs.declared.result.Result.{Result}
use Rattle.std.specs.Io.KnownBytes.{Appends}
use Rattle.std.proofs.KnownBytes.{Appends-nil, Appends-trans}
use Rattle.std.proofs.Math.Seq.{take-append-add}
use Rattle.std.proofs.lemmas.List.{append-nil, map-append}
use Rattle.std.proofs.lemmas.List.Concat.{flat_map-append}
use Rattle.relay_text.specs.Bytes.{is_white}
use Rattle.relay_job.specs.declared.job.Job.{Job}
use Rattle.relay_job.specs.declared.fault.RunFault.{RunFault}
use Rattle.relay_job.specs.declared.fault.RunFault.TheVariants.{Read, TooLong, BadJob, BadSetting, BadEnvelope, TooManyNames, TooManyOwners, TooManyPairs, Write, Memory}
use Rattle.relay_job.specs.JobText.{JobLine, job_lines, text_of, job_unless, sections_of}
use Rattle.relay_job.specs.Tables.{without_envelope, tables_fault, tables_of, AreTablesWithin}
use Rattle.relay_job.proofs.JoinedLines.{neither-any}
use Rattle.relay_envelopes.specs.declared.counts.EnvelopeCounts.{EnvelopeCounts}
use Rattle.relay_envelopes.specs.declared.kind.LineKind.TheVariants.{Tables, Envelope, End, Blank, Other}
use Rattle.relay_envelopes.specs.Headings.{is_envelope_word, is_end, is_tables}
use Rattle.relay_envelopes.specs.Kinds.{is_long, kind_of}
use Rattle.relay_envelopes.specs.Sections.{Section}
use Rattle.aliasplan_each.specs.Forms.{tables_text_in, done_text_in}
use Rattle.aliasplan_each.specs.declared.wording.Wording.{Wording}
use Rattle.relay_planning.specs.declared.options.Limits.{Limits}
use Rattle.aliasplan.specs.Outcomes.{AreTableCountsWithin, HasRefusedTables, IsReadFault}
use Rattle.aliasplan.specs.Transfers.{Fronts}
use Rattle.aliasplan_each.specs.declared.summary.EachSummary.{EachSummary}
use Rattle.aliasplan_each.specs.Asks.{Ask, planned, asked_at, section_of, behind, asks_from, asks_in, has_tables, sections_in}
use Rattle.aliasplan_each.specs.Asks.Ask.{plan}
use Rattle.aliasplan_each.specs.Blocks.{Block, no_counts, with_outcome, AreBlocks}
use Rattle.aliasplan_each.specs.Blocks as blocks
use Rattle.aliasplan_each.specs.Runs.{IsEachAnswer}
use Rattle.aliasplan_each.specs.Beside.{PlansBeside, RefusesBeside, IsDue, WritesBesideFront}
use Rattle.aliasplan_each.specs.Beside.IsDue.{nothing as due_nothing, some as due_some, whole as due_whole}
use Rattle.aliasplan_each.specs.BesideSteps.{IsWriteFault, WritesFindings, FrontsFindings}
use Rattle.aliasplan_each.specs.Given.{Given}
use Rattle.aliasplan_each.specs.Replies.{Reply, texts_of, with_reply, counts_of, coming_behind, AreReplies, AnswersAsks, PlansChanging, IsDueChanging, WritesChangingFront}
use Rattle.aliasplan_each.specs.Replies.Reply.{block, changed}
use Rattle.aliasplan_each.specs.Replies.IsDueChanging.{nothing, some, whole}
use Rattle.aliasplan_each.specs.ReplySteps.{RepliesToAll, FrontsReplies}
use Rattle.aliasplan_each.proofs.BesideFacts.{AreBlocks-none, AreBlocks-one, AreBlocks-more}

-- Tables that a text alone gives have no envelope.
alone : (fault : Option RunFault) (read tables : Job) → job_unless fault (without_envelope read) ≡ Ok tables → without_envelope tables ≡ tables
alone None read tables e = let is : without_envelope read ≡ tables = cc in ap without_envelope (sym is) ∙ is
alone (Some fault) read tables e = absurd (let no : ⊥ = cc in no)

pub without-is : (bytes : ℕ) (tables : Job) → AreTablesWithin bytes tables → without_envelope tables ≡ tables
unfolding tables_of
without-is bytes tables h = alone (tables_fault h.0) (sections_of h.0) tables h.2

-- a fault of refused tables is none that they cannot have
pub refused-else : (limits : Limits) (tables : Job) (e f : RunFault) → HasRefusedTables limits tables e → (HasRefusedTables limits tables f → ⊥) → e ≡ f → ⊥
refused-else limits tables e f h never same = never (subst (HasRefusedTables limits tables) same h)

abbrev summary_with : ℕ → EnvelopeCounts → EachSummary
summary_with findings counts = record { findings = findings; counts = counts }

pub if_some_more : {T : Type 0} {P Q : T → Type 0} (o : Option T) → IfSome o P → ((x : T) → P x → Q x) → IfSome o Q
if_some_more None h f = tt
if_some_more (Some x) h f = f x h

module _ (limits : Limits) (wording : Wording) (tables : Job) (coming : ℕ → Given) (input : List ℕ) where
  pub front-none : (old : Option (List ℕ)) → WritesChangingFront limits wording tables coming input old old
  front-none old = record { text = []; due = nothing refl; count = 0; written = Appends-nil old }

  pub front-findings : (old new : Option (List ℕ)) → FrontsFindings wording.form tables old new → WritesChangingFront limits wording tables coming input old new
  front-findings old new h = record {
    text = tables_text_in wording.form h.findings ++ [];
    due = some (record { findings = length h.findings; counts = no_counts }) [] (asks_in limits.bytes input) refl (record {
      findings = h.findings;
      are_findings = h.are_findings;
      replies = [];
      are_replies = tt;
      is = refl;
      summed = refl;
    });
    count = h.count;
    written = rw (append-nil (tables_text_in wording.form h.findings)) h.written;
  }

  -- a front of a text behind another
  longer : (a b c : Option (List ℕ)) (first next : List ℕ) (count : ℕ) → Appends a b first → Appends b c (take count next) → Appends a c (take (length first + count) (first ++ next))
  longer a b c first next count h k = rw (take-append-add first next count) (Appends-trans a b c first (take count next) h k)

  pub front-replies : (old mid new : Option (List ℕ)) (count : ℕ) → WritesFindings wording.form tables old mid count → FrontsReplies limits wording tables coming (asks_in limits.bytes input) mid new → WritesChangingFront limits wording tables coming input old new
  front-replies old mid new count h k = record {
    text = tables_text_in wording.form h.findings ++ texts_of k.replies;
    due = some (record { findings = length h.findings; counts = counts_of k.replies }) k.came k.rest k.parts (record { findings = h.findings; are_findings = h.are_findings; replies = k.replies; are_replies = k.are_replies; is = refl; summed = refl });
    count = length (tables_text_in wording.form h.findings) + k.count;
    written = longer old mid new (tables_text_in wording.form h.findings) (texts_of k.replies) k.count h.written k.written;
  }

  module _ (old mid late new : Option (List ℕ)) (count : ℕ) (counts : EnvelopeCounts) (h : WritesFindings wording.form tables old mid count) (k : RepliesToAll limits wording tables coming input mid late counts) where
    abbrev body : List ℕ
    body = tables_text_in wording.form h.findings ++ texts_of k.replies

    answered : AnswersAsks limits wording tables coming (asks_in limits.bytes input) body (record { findings = count; counts = counts })
    answered = record {
      findings = h.findings;
      are_findings = h.are_findings;
      replies = k.replies;
      are_replies = k.are_replies;
      is = refl;
      summed = rw (h.counted, k.counted) refl;
    }

    begun : Appends old late body
    begun = Appends-trans old mid late (tables_text_in wording.form h.findings) (texts_of k.replies) h.written k.written

    pub front-done : Fronts late new (done_text_in wording.form counts) → WritesChangingFront limits wording tables coming input old new
    front-done w = record {
      text = body ++ done_text_in wording.form counts;
      due = whole (record { findings = count; counts = counts }) body answered refl;
      count = length body + w.count;
      written = longer old late new body (done_text_in wording.form counts) w.count begun w.written;
    }

    pub plans : AreTableCountsWithin limits tables → Appends late new (done_text_in wording.form counts) → PlansChanging limits wording tables coming input old new (record { findings = count; counts = counts })
    plans few w = record {
      few = few;
      text = body;
      due = answered;
      written = Appends-trans old late new body (done_text_in wording.form counts) begun w;
    }

-- why a run stops
module _ (limits : Limits) (tables : Job) (input : List ℕ) where
  pub refused-tables : (fault : RunFault) → HasRefusedTables limits tables fault → RefusesBeside limits tables input fault
  refused-tables TooManyNames h = h
  refused-tables TooManyOwners h = h
  refused-tables Memory h = tt
  refused-tables Read h = tt
  refused-tables Write h = tt
  refused-tables TooLong h = absurd h
  refused-tables (BadJob number) h = absurd h
  refused-tables (BadSetting number) h = absurd h
  refused-tables (BadEnvelope number) h = absurd h
  refused-tables TooManyPairs h = absurd h

  pub refused-write : (fault : RunFault) → IsWriteFault fault → RefusesBeside limits tables input fault
  refused-write Write h = tt
  refused-write Memory h = tt
  refused-write Read h = absurd h
  refused-write TooLong h = absurd h
  refused-write (BadJob number) h = absurd h
  refused-write (BadSetting number) h = absurd h
  refused-write (BadEnvelope number) h = absurd h
  refused-write TooManyNames h = absurd h
  refused-write TooManyOwners h = absurd h
  refused-write TooManyPairs h = absurd h

  pub refused-read : (fault : RunFault) → IsReadFault fault → (fault ≡ TooLong → 2 ^ 64 - 1 ≤ length input) → RefusesBeside limits tables input fault
  refused-read Read h long = tt
  refused-read Memory h long = tt
  refused-read TooLong h long = long refl
  refused-read Write h long = absurd h
  refused-read (BadJob number) h long = absurd h
  refused-read (BadSetting number) h long = absurd h
  refused-read (BadEnvelope number) h long = absurd h
  refused-read TooManyNames h long = absurd h
  refused-read TooManyOwners h long = absurd h
  refused-read TooManyPairs h long = absurd h

-- the same of bytes that may be known
pub known-read : (limits : Limits) (tables : Job) (remaining : Option (List ℕ)) (fault : RunFault) → IsReadFault fault → (fault ≡ TooLong → IfSome remaining (λ input. 2 ^ 64 - 1 ≤ length input)) → IfSome remaining (λ input. RefusesBeside limits tables input fault)
known-read limits tables None fault h long = tt
known-read limits tables (Some input) fault h long = refused-read limits tables input fault h long

-- The blocks of some replies, and the replies that are blocks.
abbrev replied : List Block → List Reply
replied bs = map block bs

texts-replied : (bs : List Block) → texts_of (replied bs) ≡ blocks.texts_of bs
texts-replied [] = refl
texts-replied (b ∷ bs) = ap (λ l. b.text ++ l) (texts-replied bs)

counts-replied : (counts : EnvelopeCounts) (bs : List Block) → fold with_reply counts (replied bs) ≡ fold (λ counts b. with_outcome counts b.outcome) counts bs
counts-replied counts [] = refl
counts-replied counts (b ∷ bs) = counts-replied (with_outcome counts b.outcome) bs

-- Replies to envelopes alone are blocks.
module _ (limits : Limits) (wording : Wording) (tables : Job) where
  record OnlyBlocks (sections : List Section) (replies : List Reply) : Type 0 where
    bs : List Block
    are_blocks : AreBlocks limits wording tables sections bs
    is : replies ≡ replied bs

  only-blocks : (sections : List Section) (replies : List Reply) (coming : ℕ → Given) → AreReplies limits wording tables coming (map plan sections) replies → OnlyBlocks sections replies
  only-blocks [] [] coming h = record { bs = []; are_blocks = AreBlocks-none limits wording tables; is = refl }
  only-blocks (s ∷ ss) (block b ∷ replies) coming h =
      let later = only-blocks ss replies (coming_behind coming (block b)) h.1 in
      record {
        bs = b ∷ later.bs;
        are_blocks = AreBlocks-more limits wording tables ss later.bs later.are_blocks (s ∷ []) (b ∷ []) (AreBlocks-one limits wording tables s b h.0);
        is = ap (λ rs. block b ∷ rs) later.is;
      }
  only-blocks (s ∷ ss) (changed text after ∷ replies) coming h = absurd h.0
  only-blocks [] (reply ∷ replies) coming h = absurd h
  only-blocks (s ∷ ss) [] coming h = absurd h

  module _ (coming : ℕ → Given) where
    plain-answer : (sections : List Section) (front : List ℕ) (summary : EachSummary) → AnswersAsks limits wording tables coming (map plan sections) front summary → IsEachAnswer limits wording tables sections (front ++ done_text_in wording.form summary.counts) summary
    plain-answer sections front summary h =
        let only = only-blocks sections h.replies coming h.are_replies in
        let text : texts_of h.replies ≡ blocks.texts_of only.bs = ap texts_of only.is ∙ texts-replied only.bs in
        let counts : counts_of h.replies ≡ blocks.counts_of only.bs = ap counts_of only.is ∙ counts-replied no_counts only.bs in
        record {
          findings = h.findings;
          are_findings = h.are_findings;
          blocks = only.bs;
          are_blocks = only.are_blocks;
          written = ap (λ l. l ++ done_text_in wording.form summary.counts) (h.is ∙ ap (λ l. tables_text_in wording.form h.findings ++ l) text) ∙ ap (λ (c : EnvelopeCounts). (tables_text_in wording.form h.findings ++ blocks.texts_of only.bs) ++ done_text_in wording.form c) (ap (λ (q : EachSummary). q.counts) h.summed ∙ counts);
          summed = h.summed ∙ ap (λ (c : EnvelopeCounts). summary_with (length h.findings) c) counts;
        }

    -- what is asked first, of envelopes alone
    record FirstSections (sections : List Section) (came : List Ask) : Type 0 where
      first : List Section
      rest : List Section
      parts : sections ≡ first ++ rest
      is : came ≡ map plan first

    first-sections : (sections : List Section) (came rest : List Ask) → map plan sections ≡ came ++ rest → FirstSections sections came
    first-sections sections [] rest e = record { first = []; rest = sections; parts = refl; is = refl }
    first-sections [] (ask ∷ came) rest e = absurd (let no : ⊥ = cc in no)
    first-sections (s ∷ ss) (ask ∷ came) rest e =
        let head : plan s ≡ ask = cc in
        let tail : map plan ss ≡ came ++ rest = cc in
        let later = first-sections ss came rest tail in
        record { first = s ∷ later.first; rest = later.rest; parts = ap (λ l. s ∷ l) later.parts; is = ap (λ (a : Ask). a ∷ came) (sym head) ∙ ap (λ (asks : List Ask). plan s ∷ asks) later.is }

    plain-due : (sections : List Section) (text : List ℕ) → IsDueChanging limits wording tables coming (map plan sections) text → IsDue limits wording tables sections text
    plain-due sections text (nothing e) = due_nothing e
    plain-due sections text (some summary came rest e h) =
        let parts = first-sections sections came rest e in
        let only = only-blocks parts.first h.replies coming (rw parts.is at h.are_replies) in
        due_some (record {
          findings = h.findings;
          are_findings = h.are_findings;
          came = parts.first;
          blocks = only.bs;
          have_come = record { rest = parts.rest; parts = parts.parts; are_blocks = only.are_blocks };
          is = h.is ∙ ap (λ l. tables_text_in wording.form h.findings ++ l) (ap texts_of only.is ∙ texts-replied only.bs);
        })
    plain-due sections text (whole summary front h e) = due_whole summary (rw e (plain-answer sections front summary h))

-- Where there is no `%tables`, only envelopes are asked for.
abbrev alone_of : List Ask → List Ask
alone_of asks = map plan (flat_map section_of asks)

alone-append : (a b : List Ask) → alone_of (a ++ b) ≡ alone_of a ++ alone_of b
alone-append a b = ap (map plan) (flat_map-append section_of a b) ∙ map-append plan (flat_map section_of a) (flat_map section_of b)

alone-planned : (begun : Option Section) → alone_of (planned begun) ≡ planned begun
alone-planned None = refl
alone-planned (Some s) = refl

module _ (max : ℕ) where
  abbrev turns : JobLine → Bool
  turns l = not (is_long max l) && is_tables (text_of l)

  alone-line : (x : JobLine) (begun : Option Section) → turns x ≡ false → alone_of (asked_at (kind_of max x) begun) ≡ asked_at (kind_of max x) begun
  alone-line x begun h = at (is_long max x) (is_tables (text_of x)) (is_envelope_word (text_of x)) (is_end (text_of x)) (list_all is_white (text_of x)) h where
    at : (a b c d e : Bool) → (not a && b) ≡ false → alone_of (asked_at (cond a Other (cond b Tables (cond c Envelope (cond d End (cond e Blank Other))))) begun) ≡ asked_at (cond a Other (cond b Tables (cond c Envelope (cond d End (cond e Blank Other))))) begun
    at true b c d e h = refl
    at false true c d e h = absurd (let no : ⊥ = cc in no)
    at false false true d e h = alone-planned begun
    at false false false true e h = alone-planned begun
    at false false false false true h = refl
    at false false false false false h = refl

  alone-lines : (begun : Option Section) (lines : List JobLine) → list_any turns lines ≡ false → alone_of (asks_from max begun lines) ≡ asks_from max begun lines
  alone-lines begun [] h = alone-planned begun
  alone-lines begun (x ∷ xs) h =
      let p = neither-any (turns x) (list_any turns xs) h in
      alone-append (asked_at (kind_of max x) begun) (asks_from max (behind max (kind_of max x) begun x) xs)
      ∙ ap (λ l. l ++ alone_of (asks_from max (behind max (kind_of max x) begun x) xs)) (alone-line x begun p.0)
      ∙ ap (λ l. asked_at (kind_of max x) begun ++ l) (alone-lines (behind max (kind_of max x) begun x) xs p.1)

module _ (limits : Limits) (tables : Job) (input : List ℕ) (none : has_tables limits.bytes input ≡ false) (wording : Wording) (coming : ℕ → Given) where
  asks-are : asks_in limits.bytes input ≡ map plan (sections_in limits.bytes input)
  asks-are = sym (alone-lines limits.bytes None (job_lines input) none)

  pub plain-plans : (old new : Option (List ℕ)) (summary : EachSummary) → PlansChanging limits wording tables coming input old new summary → PlansBeside limits wording tables input old new summary
  plain-plans old new summary h = record {
    few = h.few;
    text = h.text ++ done_text_in wording.form summary.counts;
    due = plain-answer limits wording tables coming (sections_in limits.bytes input) h.text summary (rw asks-are at h.due);
    written = h.written;
  }

  pub plain-front : (old new : Option (List ℕ)) → WritesChangingFront limits wording tables coming input old new → WritesBesideFront limits wording tables input old new
  plain-front old new h = record {
    text = h.text;
    due = plain-due limits wording tables coming (sections_in limits.bytes input) h.text (rw asks-are at h.due);
    count = h.count;
    written = h.written;
  }

-- What a run ends with, of bytes that may be known.
module _ (limits : Limits) (tables : Job) (remaining : Option (List ℕ)) (wording : Wording) (coming : ℕ → Given) (old new : Option (List ℕ)) where
  pub known-plain : (r : Result EachSummary RunFault) → IfOk r (λ summary. IfSome remaining (λ input. PlansChanging limits wording tables coming input old new summary)) → IfOk r (λ summary. IfSome remaining (λ input. has_tables limits.bytes input ≡ false → PlansBeside limits wording tables input old new summary))
  known-plain (Ok summary) h = if_some_more remaining h (λ input k none. plain-plans limits tables input none wording coming old new summary k)
  known-plain (Err fault) h = tt

  pub known-plain_front : (r : Result EachSummary RunFault) → IfErr r (λ fault. IfSome remaining (λ input. WritesChangingFront limits wording tables coming input old new)) → IfErr r (λ fault. IfSome remaining (λ input. has_tables limits.bytes input ≡ false → WritesBesideFront limits wording tables input old new))
  known-plain_front (Ok summary) h = tt
  known-plain_front (Err fault) h = if_some_more remaining h (λ input k none. plain-front limits tables input none wording coming old new k)
