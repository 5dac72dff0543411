-- What a job's include files are.
use Rattle.std.proofs.Common.{List, [], ◌∷◌, ℕ, suc, map, refl, arith}
use Rattle.std.specs.Prelude.{IsTrue, AllPairs}
use Rattle.std.specs.List.{list_all}
use Rattle.std.proofs.lemmas.List.Elements.{All-map}
use Rattle.std.proofs.lemmas.List.Kept.{AllPairs-cons}
use Rattle.relay_aliasfile.specs.IncludeFiles.{include_file_of}
use Rattle.relay_tables.specs.Parts.{is_good_item, is_good_include}
use Rattle.relay_job.specs.declared.job.JobInclude.{JobInclude}
use Rattle.relay_planning.specs.Delivery.{entry_of_include}

pub good_includes : ((text : List ℕ) → IsTrue (list_all is_good_item (include_file_of text).items)) → (includes : List JobInclude) → IsTrue (list_all is_good_include (map entry_of_include includes))
good_includes good [] = refl
good_includes good (i ∷ is) = rw (good i.bytes) (good_includes good is)

pub pairs_map : {X Y : Type 0} (R : X → X → Type 0) (f : Y → X) (ys : List Y) → AllPairs (λ y z. R (f y) (f z)) ys → AllPairs R (map f ys)
pairs_map R f [] h = λ i j d below inside. absurd (omega arith)
pairs_map R f (y ∷ ys) h =
    AllPairs-cons R (f y) (map f ys)
    (All-map (R (f y)) f ys (λ k d inside. h 0 (suc k) d (omega arith) (omega arith)))
    (pairs_map R f ys (λ i j d below inside. h (suc i) (suc j) d (omega arith) (omega arith)))
