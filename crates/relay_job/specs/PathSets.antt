-- Paths, each once.
use Rattle.std.specs.Prelude.{ℕ, List, map}
use Rattle.relay_job.specs.declared.hashed_path.HashedPath.{HashedPath}

-- the bytes of each path
abbrev pub paths_of : List HashedPath → List (List ℕ)
paths_of paths = map (λ p. p.path.now) paths
