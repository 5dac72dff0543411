-- The sections of a job, one group after another.
use Rattle.std.proofs.Common.{◌≡◌, ℕ, List, [], ◌++◌, map, codes, Option, Ok, Err, refl, sym, ap, subst, ◌∙◌, inl}
use Rattle.std.specs.Str.{bytes_eq}
use Rattle.relay_text.specs.Bytes.{firsts}
use Rattle.relay_job.specs.declared.fault.RunFault.{RunFault}
use Rattle.relay_gather.specs.declared.gathered.Gathered.{Gathered}
use Rattle.relay_gather.specs.declared.paths.Paths.{Paths}
use Rattle.relay_gather.specs.Source.{Answer, Tells}
use Rattle.relay_gather.specs.Sections.{joined}
use Rattle.relay_gather.specs.Gathering.{named_in, joined_in, included_in, first_names, front_sections, back_sections, sections_in, IsBreadthFirst, IsFront, IsWhole, IsCutShort, IsGathered, GatherRefuses}
use Rattle.relay_gather.specs.Gathered.{Adds, Stops}
use Rattle.relay_gather.specs.Including.{AreFollowed, AreHalted, IsBegun}
use Rattle.relay_gather.proofs.Joining.{same_answers, Refuses-weaker, joined-fault, joined-later, Adds-more}

-- a source that was asked answers as before
module _ (f answer : List ℕ → Answer) (alike : (p : List ℕ) → f p ≡ answer p) (heading : List ℕ) (path : Option (List ℕ)) where
  pub named_adds : (x y : Gathered) → (Tells f → Adds (named_in f heading path) x y) → Tells answer → Adds (named_in answer heading path) x y
  named_adds x y h = subst (λ (a : List ℕ → Answer). Tells a → Adds (named_in a heading path) x y) (same_answers alike) h

  pub named_stops : (x : Gathered) (fault : RunFault) → Stops f (named_in f heading path) x fault → Stops answer (named_in answer heading path) x fault
  named_stops x fault h = subst (λ (a : List ℕ → Answer). Stops a (named_in a heading path) x fault) (same_answers alike) h

module _ (f answer : List ℕ → Answer) (alike : (p : List ℕ) → f p ≡ answer p) (heading : List ℕ) (paths : List (List ℕ)) where
  pub joined_adds : (x y : Gathered) → (Tells f → Adds (joined_in f heading paths) x y) → Tells answer → Adds (joined_in answer heading paths) x y
  joined_adds x y h = subst (λ (a : List ℕ → Answer). Tells a → Adds (joined_in a heading paths) x y) (same_answers alike) h

  pub joined_stops : (x : Gathered) (fault : RunFault) → Stops f (joined_in f heading paths) x fault → Stops answer (joined_in answer heading paths) x fault
  joined_stops x fault h = subst (λ (a : List ℕ → Answer). Stops a (joined_in a heading paths) x fault) (same_answers alike) h

module _ (answer : List ℕ → Answer) (files : Paths) where
  module _ (x y z : Gathered) (by_settings : Adds (named_in answer (codes "%settings") files.settings) x y) (by_aliases : Adds (joined_in answer (codes "%aliases") files.aliases) y z) where
    both : Adds (named_in answer (codes "%settings") files.settings ++ joined_in answer (codes "%aliases") files.aliases) x z
    both = Adds-more (named_in answer (codes "%settings") files.settings) (joined_in answer (codes "%aliases") files.aliases) x y z by_settings by_aliases

    pub begun : (first : List (List ℕ)) (w : Gathered) → first ≡ first_names answer files.aliases → AreFollowed answer first z w → IsBegun answer files x w
    begun first w e h = record {
      includes = h.includes;
      order = subst (λ (names : List (List ℕ)). IsBreadthFirst answer names h.includes) e h.order;
      adds = Adds-more (named_in answer (codes "%settings") files.settings ++ joined_in answer (codes "%aliases") files.aliases) (map (included_in answer) h.includes) x z w both h.adds;
    }

    pub cut_short : (first : List (List ℕ)) (fault : RunFault) → first ≡ first_names answer files.aliases → AreHalted answer first z fault → IsCutShort answer files x.room fault
    cut_short first fault e h = record {
      includes = h.includes;
      order = subst (λ (names : List (List ℕ)). IsFront answer names h.includes) e h.order;
      joins = joined-later (named_in answer (codes "%settings") files.settings ++ joined_in answer (codes "%aliases") files.aliases) (map (included_in answer) h.includes) x z fault both h.joins;
    }

  -- a fault before the include files
  pub cut_early : (room : ℕ) (fault : RunFault) → joined (named_in answer (codes "%settings") files.settings ++ joined_in answer (codes "%aliases") files.aliases) room ≡ Err fault → IsCutShort answer files room fault
  cut_early room fault h = record {
    includes = [];
    order = record {
      later = firsts bytes_eq (first_names answer files.aliases ++ []);
      order = refl;
      named = λ place path none. absurd (let no : ⊥ = cc in no);
    };
    joins = joined-fault (named_in answer (codes "%settings") files.settings ++ joined_in answer (codes "%aliases") files.aliases) [] room fault h;
  }

  -- ---- the whole
  pub whole : (max : ℕ) (x y z : Gathered) (text : List ℕ) → x.bytes.items ≡ [] → x.room ≡ max → IsBegun answer files x y → Adds (back_sections answer files) y z → text ≡ z.bytes.items → IsWhole answer files max (Ok text)
  whole max x y z text empty room h g e =
      let all = Adds-more (front_sections answer files h.includes) (back_sections answer files) x y z h.adds g in
      let is : all.more ≡ text = ap (λ (t : List ℕ). t ++ all.more) (sym empty) ∙ sym all.puts.bytes ∙ sym e in
      record { includes = h.includes; order = h.order; joins = ap (joined (sections_in answer files h.includes)) (sym room) ∙ all.joins ∙ ap Ok is }

  pub faulty : (max : ℕ) (x y : Gathered) (fault : RunFault) → x.room ≡ max → IsBegun answer files x y → joined (back_sections answer files) y.room ≡ Err fault → IsWhole answer files max (Err fault)
  faulty max x y fault room h g = record {
    includes = h.includes;
    order = h.order;
    joins = ap (joined (sections_in answer files h.includes)) (sym room) ∙ joined-later (front_sections answer files h.includes) (back_sections answer files) x y fault h.adds g;
  }

  -- why there is no text
  pub refuses_back : (max : ℕ) (x y : Gathered) (fault : RunFault) → x.room ≡ max → (Tells answer → IsBegun answer files x y) → Stops answer (back_sections answer files) y fault → GatherRefuses answer files max fault
  refuses_back max x y fault room h =
      Refuses-weaker answer (λ (f : RunFault). joined (back_sections answer files) y.room ≡ Err f) (λ (f : RunFault). IsGathered answer files max (Err f))
      (λ tells f g. inl (faulty max x y f room (h tells) g)) fault
