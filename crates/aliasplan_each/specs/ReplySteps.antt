-- The steps of a run between whose envelopes the tables are read anew.
use Rattle.std.specs.Prelude.{◌≡◌, ℕ, List, ◌++◌, take, Option}
use Rattle.std.specs.Io.KnownBytes.{Appends}
use Rattle.relay_job.specs.declared.job.Job.{Job}
use Rattle.relay_envelopes.specs.declared.counts.EnvelopeCounts.{EnvelopeCounts}
use Rattle.aliasplan_each.specs.declared.wording.Wording.{Wording}
use Rattle.relay_planning.specs.declared.options.Limits.{Limits}
use Rattle.aliasplan_each.specs.Asks.{Ask, asks_in}
use Rattle.aliasplan_each.specs.Given.{Given}
use Rattle.aliasplan_each.specs.Replies.{Reply, texts_of, counts_of, AreReplies}

module _ (limits : Limits) (wording : Wording) (tables : Job) (coming : ℕ → Given) where
  -- all that is asked is answered and counted
  pub record RepliesToAll (input : List ℕ) (old new : Option (List ℕ)) (counts : EnvelopeCounts) : Type 0 where
    pub replies : List Reply
    pub are_replies : AreReplies limits wording tables coming (asks_in limits.bytes input) replies
    pub written : Appends old new (texts_of replies)
    pub counted : counts ≡ counts_of replies

  -- a front of the answers to what is asked first is written
  pub record FrontsReplies (asks : List Ask) (old new : Option (List ℕ)) : Type 0 where
    pub came : List Ask
    pub rest : List Ask
    pub parts : asks ≡ came ++ rest
    pub replies : List Reply
    pub are_replies : AreReplies limits wording tables coming came replies
    pub count : ℕ
    pub written : Appends old new (take count (texts_of replies))
