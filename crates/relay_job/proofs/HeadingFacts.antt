-- What headings name.
use Rattle.std.proofs.Common.{◌≡◌, ℕ, Bool, true, false, cond, List, Option, Some, None, refl}
use Rattle.relay_text.specs.Bytes.{trimmed_end, has_text}
use Rattle.relay_job.specs.JobText.{Section, named, include, section_words, include_path, is_include_heading, section_of}
use Rattle.relay_job.specs.SectionPlaces.{section_word, include_word}

-- a heading with no section's word and no path names nothing
pub section_of-none : (text : List ℕ) → section_word text ≡ None → include_word text ≡ None → section_of text ≡ None
section_of-none text = at (has_text section_words (trimmed_end text)) (is_include_heading text) where
  at : (b c : Bool) → cond b (Some (trimmed_end text)) None ≡ None → cond c (Some (include_path text)) None ≡ None → cond {A = Option Section} b (Some (named (trimmed_end text))) (cond c (Some (include (include_path text))) None) ≡ None
  at true c e f = cc
  at false true e f = cc
  at false false e f = refl
