-- A job's text with another envelope: the lines of its own are empty, so that all others keep their numbers, and the new one stands behind them.
use Rattle.std.specs.Prelude.{ℕ, Bool, false, ◌&&◌, List, [], ◌∷◌, ◌++◌, codes, if◌then◌else◌}
use Rattle.std.specs.Str.{bytes_eq}
use Rattle.relay_text.specs.Bytes.{trimmed_end}
use Rattle.relay_job.specs.Envelopes.{joined_text}
use Rattle.relay_job.specs.JobText.{JobLine, job_lines, is_heading, text_of}

-- the heading of a job's envelope
abbrev pub is_own_heading : JobLine → Bool
is_own_heading l = is_heading l && bytes_eq (trimmed_end (text_of l)) (codes "%envelope")

-- whether a line is of the envelope, where the one before it is or isn't
abbrev pub is_own : Bool → JobLine → Bool
is_own before l = if is_heading l then is_own_heading l else before

-- lines as they are, but those of the envelope empty
abbrev pub emptied : Bool → List JobLine → List ℕ
emptied before [] = []
emptied before (l ∷ ls) = (if is_own before l then 10 ∷ [] else l.raw) ++ emptied (is_own before l) ls

-- An LF ends the last line, and where that has its own it is one more empty line.
abbrev pub replaced_text : List ℕ → List ℕ → List ℕ
replaced_text text section = joined_text (emptied false (job_lines text) ++ 10 ∷ []) section
