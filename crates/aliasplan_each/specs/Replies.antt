-- What becomes of envelopes and of lines `%tables` that come beside the tables.
use Rattle.std.specs.Prelude.{◌≡◌, ℕ, ◌+◌, List, [], ◌∷◌, ◌++◌, length, take, flat_map, Option, ⊤}
use Rattle.std.specs.List.{fold}
use Rattle.std.specs.Io.KnownBytes.{Appends}
use Rattle.relay_job.specs.declared.job.Job.{Job}
use Rattle.relay_envelopes.specs.declared.counts.EnvelopeCounts.{EnvelopeCounts}
use Rattle.aliasplan_each.specs.declared.wording.Wording.{Wording}
use Rattle.relay_planning.specs.declared.options.Limits.{Limits}
use Rattle.relay_planning.specs.Report.{texts, IsLineOf}
use Rattle.aliasplan.specs.Checks.{AreLines}
use Rattle.aliasplan.specs.Outcomes.{AreTableCountsWithin}
use Rattle.aliasplan_each.specs.declared.summary.EachSummary.{EachSummary}
use Rattle.aliasplan_each.specs.Forms.{tables_text_in, done_text_in}
use Rattle.aliasplan_each.specs.Blocks.{Block, no_counts, with_outcome, IsBlock}
use Rattle.aliasplan_each.specs.Asks.{Ask, asks_in}
use Rattle.aliasplan_each.specs.Asks.Ask.{plan, change}
use Rattle.aliasplan_each.specs.Given.{Given}
use Rattle.aliasplan_each.specs.Changes.{IsChange}

-- The block of an envelope; or the answer to `%tables`, and the tables from then on.
pub data Reply : Type 0 where
  block : Block → Reply
  changed : List ℕ → Job → Reply

abbrev pub text_of : Reply → List ℕ
text_of (block b) = b.text
text_of (changed text after) = text

abbrev pub texts_of : List Reply → List ℕ
texts_of replies = flat_map text_of replies

abbrev pub with_reply : EnvelopeCounts → Reply → EnvelopeCounts
with_reply counts (block b) = with_outcome counts b.outcome
with_reply counts (changed text after) = counts

abbrev pub counts_of : List Reply → EnvelopeCounts
counts_of replies = fold with_reply no_counts replies

-- the tables behind a reply, and what the source gives from then on
abbrev pub tables_behind : Job → Reply → Job
tables_behind tables (block b) = tables
tables_behind tables (changed text after) = after

abbrev pub coming_behind : (ℕ → Given) → Reply → ℕ → Given
coming_behind coming (block b) k = coming k
coming_behind coming (changed text after) k = coming (k + 1)

module _ (limits : Limits) (wording : Wording) where
  abbrev pub IsReply : Job → Given → Ask → Reply → Type 0
  IsReply tables given (plan section) (block b) = IsBlock limits wording tables section b
  IsReply tables given change (changed text after) = IsChange limits wording.form given tables text after
  IsReply tables given (plan section) (changed text after) = ⊥
  IsReply tables given change (block b) = ⊥

  -- Each is answered in turn: an envelope by the tables of the last `%tables` before it whose answer is ok, or by the first, and each
  -- `%tables` by what the source gives next.
  abbrev pub AreReplies : Job → (ℕ → Given) → List Ask → List Reply → Type 0
  AreReplies tables coming [] [] = ⊤
  AreReplies tables coming (ask ∷ asks) (reply ∷ replies) = IsReply tables (coming 0) ask reply × AreReplies (tables_behind tables reply) (coming_behind coming reply) asks replies
  AreReplies tables coming [] (reply ∷ replies) = ⊥
  AreReplies tables coming (ask ∷ asks) [] = ⊥

module _ (limits : Limits) (wording : Wording) (tables : Job) (coming : ℕ → Given) where
  -- The findings of the first tables, and an answer to each of some asks.
  pub record AnswersAsks (asks : List Ask) (text : List ℕ) (summary : EachSummary) : Type 0 where
    pub findings : List (List ℕ)
    pub are_findings : AreLines (IsLineOf tables texts) findings
    pub replies : List Reply
    pub are_replies : AreReplies limits wording tables coming asks replies
    pub is : text ≡ tables_text_in wording.form findings ++ texts_of replies
    pub summed : summary ≡ record { findings = length findings; counts = counts_of replies }

  -- The answer to all that was asked is written, and its last line.
  pub record PlansChanging (input : List ℕ) (old new : Option (List ℕ)) (summary : EachSummary) : Type 0 where
    pub few : AreTableCountsWithin limits tables
    pub text : List ℕ
    pub due : AnswersAsks (asks_in limits.bytes input) text summary
    pub written : Appends old new (text ++ done_text_in wording.form summary.counts)

  -- What a run had to write until it stopped: nothing yet, the answer to what was asked first, or all of it.
  pub data IsDueChanging (asks : List Ask) (text : List ℕ) : Type 0 where
    nothing : text ≡ [] → IsDueChanging asks text
    some : (summary : EachSummary) (came rest : List Ask) → asks ≡ came ++ rest → AnswersAsks came text summary → IsDueChanging asks text
    whole : (summary : EachSummary) (front : List ℕ) → AnswersAsks asks front summary → text ≡ front ++ done_text_in wording.form summary.counts → IsDueChanging asks text

  -- a front of this is written
  pub record WritesChangingFront (input : List ℕ) (old new : Option (List ℕ)) : Type 0 where
    pub text : List ℕ
    pub due : IsDueChanging (asks_in limits.bytes input) text
    pub count : ℕ
    pub written : Appends old new (take count text)
