-- The lines of a job, one after another, with those of its envelope empty.
use Rattle.std.proofs.Common.{◌≡◌, ℕ, Bool, List, [], ◌∷◌, ◌++◌, append_assoc, if◌then◌else◌, sym, ◌∙◌}
use Rattle.std.proofs.lemmas.List.{append-nil}
use Rattle.relay_job.specs.JobText.{JobLine}
use Rattle.relay_envelopes.specs.Replaced.{is_own, emptied}

pub put_next : (before within : Bool) (out next whole piece : List ℕ) (l : JobLine) (ls lines : List JobLine) → lines ≡ l ∷ ls → within ≡ is_own before l → piece ≡ (if within then 10 ∷ [] else l.raw) → next ≡ out ++ piece → out ++ emptied before lines ≡ whole → next ++ emptied within ls ≡ whole
put_next before within out next whole piece l ls lines e w p n h = rw (n, p, w) (append_assoc out (if is_own before l then 10 ∷ [] else l.raw) (emptied (is_own before l) ls) ∙ rw e at h)

pub put_last : (before : Bool) (out whole : List ℕ) (lines : List JobLine) → lines ≡ [] → out ++ emptied before lines ≡ whole → out ≡ whole
put_last before out whole lines e h = sym (append-nil out) ∙ rw e at h
