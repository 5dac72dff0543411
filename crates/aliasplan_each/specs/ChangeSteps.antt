-- The steps by which tables are read anew.
use Rattle.std.specs.Prelude.{◌≡◌, ℕ, List, take, Option}
use Rattle.std.specs.Io.KnownBytes.{Appends}
use Rattle.relay_job.specs.declared.job.Job.{Job}
use Rattle.relay_planning.specs.declared.options.Form.{Form}
use Rattle.relay_planning.specs.declared.options.Limits.{Limits}
use Rattle.aliasplan_each.specs.Given.{Given}
use Rattle.aliasplan_each.specs.Changes.{taken_text_in, IsTaken, IsChange}

module _ (limits : Limits) (form : Form) (given : Given) where
  -- good tables, and the answer that has the sum of their text
  pub record HasRead (tables : Job) (answer : List ℕ) : Type 0 where
    pub bytes : List ℕ
    pub is : IsTaken limits given bytes tables
    pub answer_is : answer ≡ taken_text_in form bytes

  -- the answer to `%tables` is written, or a front of it
  pub record WritesChange (tables after : Job) (old new : Option (List ℕ)) : Type 0 where
    pub text : List ℕ
    pub is : IsChange limits form given tables text after
    pub written : Appends old new text

  pub record FrontsChange (tables : Job) (old new : Option (List ℕ)) : Type 0 where
    pub text : List ℕ
    pub after : Job
    pub is : IsChange limits form given tables text after
    pub count : ℕ
    pub written : Appends old new (take count text)
