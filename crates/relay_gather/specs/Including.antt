-- The sections of include files, as they are followed.
use Rattle.std.specs.Prelude.{◌≡◌, ℕ, List, map, Err}
use Rattle.relay_job.specs.declared.fault.RunFault.{RunFault}
use Rattle.relay_gather.specs.declared.gathered.Gathered.{Gathered}
use Rattle.relay_gather.specs.declared.paths.Paths.{Paths}
use Rattle.relay_gather.specs.Source.{Answer}
use Rattle.relay_gather.specs.Sections.{joined}
use Rattle.relay_gather.specs.Gathered.{Adds}
use Rattle.relay_gather.specs.Gathering.{included_in, first_names, front_sections, IsBreadthFirst, IsFront}

-- All include files that these name are followed, and their sections put.
pub record AreFollowed (answer : List ℕ → Answer) (first : List (List ℕ)) (old new : Gathered) : Type 0 where
  pub includes : List (List ℕ)
  pub order : IsBreadthFirst answer first includes
  pub adds : Adds (map (included_in answer) includes) old new

-- Some of them are, and the last of these has a fault.
pub record AreHalted (answer : List ℕ → Answer) (first : List (List ℕ)) (old : Gathered) (fault : RunFault) : Type 0 where
  pub includes : List (List ℕ)
  pub order : IsFront answer first includes
  pub joins : joined (map (included_in answer) includes) old.room ≡ Err fault

-- The sections up to the include files are put.
pub record IsBegun (answer : List ℕ → Answer) (files : Paths) (old new : Gathered) : Type 0 where
  pub includes : List (List ℕ)
  pub order : IsBreadthFirst answer (first_names answer files.aliases) includes
  pub adds : Adds (front_sections answer files includes) old new
