-- What lines that come one after another ask for: envelopes to be planned, and tables to be read anew. No line harms more than its own
-- envelope.
use Rattle.std.specs.Prelude.{ℕ, Bool, not, ◌&&◌, List, [], ◌∷◌, ◌++◌, flat_map, codes, Option, Some, None, if◌then◌else◌}
use Rattle.std.specs.List.{list_any}
use Rattle.relay_job.specs.JobText.{JobLine, text_of, is_heading, job_lines}
use Rattle.relay_envelopes.specs.declared.kind.LineKind.{LineKind}
use Rattle.relay_envelopes.specs.declared.kind.LineKind.TheVariants.{Tables, Envelope, End, Blank, Other}
use Rattle.relay_envelopes.specs.Headings.{id_of, is_tables}
use Rattle.relay_envelopes.specs.Kinds.{is_long, kind_of}
use Rattle.relay_envelopes.specs.Sections.{Section}

pub data Ask : Type 0 where
  plan : Section → Ask
  change : Ask

abbrev pub with_more : Section → List ℕ → Section
with_more s more = record { line = s.line; id = s.id; bytes = s.bytes ++ more }

-- the section that has begun is to be planned
abbrev pub planned : Option Section → List Ask
planned None = []
planned (Some s) = plan s ∷ []

-- what a line of this kind asks for, where a section has begun before it or none has
abbrev pub asked_at : LineKind → Option Section → List Ask
asked_at Tables begun = planned begun ++ change ∷ []
asked_at Envelope begun = planned begun
asked_at End begun = planned begun
asked_at Blank begun = []
asked_at Other begun = []

-- the envelope that is to be planned
abbrev pub section_of : Ask → List Section
section_of (plan s) = s ∷ []
section_of change = []

-- No line of more bytes than `max` is a heading.
module _ (max : ℕ) where
  -- A line as a section has it: in front of a heading stands one more `%`, and it is a line that no envelope has.
  abbrev pub content_of : JobLine → List ℕ
  content_of l = if not (is_long max l) && is_heading l then 37 ∷ l.raw else l.raw

  -- The section that a line begins which is no envelope's heading.
  abbrev pub stray : JobLine → Section
  stray l = record { line = l.number; id = codes "?"; bytes = content_of l }

  abbrev pub begun_by : JobLine → Section
  begun_by l = named (id_of (text_of l)) where
    named : Option (List ℕ) → Section
    named (Some id) = record { line = l.number; id = id; bytes = [] }
    named None = stray l

  abbrev pub with_line : Option Section → JobLine → Option Section
  with_line None l = Some (stray l)
  with_line (Some s) l = Some (with_more s (content_of l))

  -- the section that goes on behind a line of this kind
  abbrev pub behind : LineKind → Option Section → JobLine → Option Section
  behind Tables begun l = None
  behind Envelope begun l = Some (begun_by l)
  behind End None l = with_line None l
  behind End (Some s) l = None
  behind Blank None l = None
  behind Blank (Some s) l = with_line (Some s) l
  behind Other begun l = with_line begun l

  abbrev pub asks_from : Option Section → List JobLine → List Ask
  asks_from begun [] = planned begun
  asks_from begun (l ∷ ls) = asked_at (kind_of max l) begun ++ asks_from (behind (kind_of max l) begun l) ls

  abbrev pub asks_in : List ℕ → List Ask
  asks_in input = asks_from None (job_lines input)

  abbrev pub has_tables : List ℕ → Bool
  has_tables input = list_any (λ l. not (is_long max l) && is_tables (text_of l)) (job_lines input)

  -- the envelopes alone
  abbrev pub sections_in : List ℕ → List Section
  sections_in input = flat_map section_of (asks_in input)
