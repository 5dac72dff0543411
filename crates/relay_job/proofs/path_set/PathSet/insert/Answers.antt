use Rattle.std.proofs.Common.{◌||◌, List, ℕ, not, ap, ◌∙◌}
use Rattle.std.specs.Str.{bytes_eq}
use Rattle.relay_text.specs.Bytes.{has_text}
use Rattle.relay_job.specs.PathSets.{paths_of}
use Rattle.relay_job.proofs.PathSets.{has_path-insert, has_path-found}
use Rattle.relay_job.proofs.path_set.PathSet.insert.Goals as goal

pub returns-clause-ok : goal.returns-clause-ok
returns-clause-ok c = λ q.
    let keys = c.self.inside.paths.keys in
    rw (c.in-Ok.ensures.keys, ← c.self.view_is) (has_path-insert q c.new.result keys ∙ ap (λ (t : List ℕ). bytes_eq q t || has_text (paths_of keys) q) c.new.ensures)

pub returns-clause-fresh : goal.returns-clause-fresh
returns-clause-fresh c =
    let keys = c.self.inside.paths.keys in
    rw (← c.self.view_is) (c.in-Ok.ensures.added ∙ ap not (has_path-found c.new.result keys ∙ ap (has_text (paths_of keys)) c.new.ensures))
