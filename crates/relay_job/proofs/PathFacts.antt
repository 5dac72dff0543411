-- The include files of a job have distinct paths.
use Rattle.std.proofs.Common.{◌≡◌, ◌≢◌, ℕ, Bool, true, false, cond, ◌||◌, List, [], ◌∷◌, ◌++◌, Option, Some, None, Ok, Err, refl, sym, ap, ◌∙◌, subst, arith}
use Rattle.std.specs.List.{slice_get, cons_option, AllPairs, AllByRecursion}
use Rattle.std.specs.Option.{option_map}
use Rattle.std.specs.Str.{bytes_eq}
use Rattle.std.proofs.lemmas.List.Elements.{All-from_recursion}
use Rattle.std.proofs.lemmas.List.Folds.{list_any-append}
use Rattle.std.proofs.lemmas.List.Kept.{AllPairs-cons}
use Rattle.std.proofs.lemmas.Slice.Eq.{bytes_eq-Decides}
use Rattle.relay_job.specs.declared.job.Job.{Job}
use Rattle.relay_job.specs.declared.job.JobInclude.{JobInclude}
use Rattle.relay_job.specs.declared.fault.RunFault.TheVariants.{BadJob}
use Rattle.relay_job.specs.JobText.{JobLine, named, include, job_lines, text_of, is_heading, section_of, has_section, breaks_job, bad_job, sections_of, job_of}
use Rattle.relay_job.specs.JobText as texts
use Rattle.relay_job.proofs.SectionFacts.{content_before, include_if, includes_in, includes_of-are, broken_after, breaks-heading, seen-heading}
use Rattle.relay_job.proofs.ParseFacts.{job-broken}
use Rattle.relay_job.proofs.JobFacts.{job_is-sections}

abbrev Differ : JobInclude → JobInclude → Type 0
Differ a b = a.path ≢ b.path

-- no heading of these lines names this include file
abbrev IsUnseen : List JobLine → JobInclude → Type 0
IsUnseen done i = has_section done (include i.path) ≡ false

first-false : (a b : Bool) → (a || b) ≡ false → a ≡ false
first-false true b h = h
first-false false b h = refl

second-false : (a b : Bool) → (a || b) ≡ false → b ≡ false
second-false true b h = absurd (let no : ⊥ = cc in no)
second-false false b h = h

unseen_before : (done : List JobLine) (x : JobLine) (s : texts.Section) → has_section (done ++ x ∷ []) s ≡ false → has_section done s ≡ false
unseen_before done x s h = first-false (has_section done s) (has_section (x ∷ []) s) (sym (list_any-append _ done (x ∷ [])) ∙ h)

all_before : (done : List JobLine) (x : JobLine) (files : List JobInclude) → AllByRecursion (IsUnseen (done ++ x ∷ [])) files → AllByRecursion (IsUnseen done) files
all_before done x [] h = tt
all_before done x (i ∷ files) h = (unseen_before done x (include i.path) h.0, all_before done x files h.1)

other_path : (path : List ℕ) (i : JobInclude) → bytes_eq i.path path ≡ false → path ≢ i.path
other_path path i h e = let same : bytes_eq i.path path ≡ true = (bytes_eq-Decides i.path path).1 (sym e) in let no : ⊥ = cc in no

all_other : (done : List JobLine) (x : JobLine) (path : List ℕ) → is_heading x ≡ true → section_of (text_of x) ≡ Some (include path) → (files : List JobInclude) → AllByRecursion (IsUnseen (done ++ x ∷ [])) files → AllByRecursion (λ (i : JobInclude). path ≢ i.path) files
all_other done x path e f [] h = tt
all_other done x path e f (i ∷ files) h =
    (other_path path i (second-false (has_section done (include i.path)) (bytes_eq i.path path) (sym (seen-heading done x (include i.path) (include path) e f) ∙ h.0)), all_other done x path e f files h.1)

record AreDistinct (done : List JobLine) (files : List JobInclude) : Type 0 where
  apart : AllPairs Differ files
  unseen : AllByRecursion (IsUnseen done) files

with_line : (done : List JobLine) (x : JobLine) (xs : List JobLine) → breaks_job done x ≡ false → AreDistinct (done ++ x ∷ []) (includes_in xs) → AreDistinct done (includes_in (x ∷ xs))
with_line done x xs unbroken later = at (is_heading x) refl where
  kept : AreDistinct done (includes_in xs)
  kept = record { apart = later.apart; unseen = all_before done x (includes_in xs) later.unseen }

  by_heading : is_heading x ≡ true → (o : Option texts.Section) → section_of (text_of x) ≡ o → AreDistinct done (cons_option (include_if (content_before xs) o) (includes_in xs))
  by_heading e None f = kept
  by_heading e (Some (named word)) f = kept
  by_heading e (Some (include path)) f = record {
    apart = AllPairs-cons Differ _ (includes_in xs) (All-from_recursion _ (includes_in xs) (all_other done x path e f (includes_in xs) later.unseen)) later.apart;
    unseen = (sym (breaks-heading done x (include path) e f) ∙ unbroken, kept.unseen);
  }

  at : (t : Bool) → is_heading x ≡ t → AreDistinct done (cond t (cons_option (include_if (content_before xs) (section_of (text_of x))) (includes_in xs)) (includes_in xs))
  at true e = by_heading e (section_of (text_of x)) refl
  at false e = kept

distinct : (done lines : List JobLine) → broken_after done lines ≡ [] → AreDistinct done (includes_in lines)
distinct done [] h = record { apart = λ i j d below inside. absurd (omega arith); unseen = tt }
distinct done (x ∷ xs) h = at (breaks_job done x) refl h (distinct (done ++ x ∷ []) xs) where
  at : (t : Bool) → breaks_job done x ≡ t → (cond t (x.number ∷ []) [] ++ broken_after (done ++ x ∷ []) xs) ≡ [] → (broken_after (done ++ x ∷ []) xs ≡ [] → AreDistinct (done ++ x ∷ []) (includes_in xs)) → AreDistinct done (includes_in (x ∷ xs))
  at true e g later = absurd (let no : ⊥ = cc in no)
  at false e g later = with_line done x xs e (later g)

pub no_numbers : (numbers : List ℕ) → slice_get numbers 0 ≡ None → numbers ≡ []
no_numbers [] h = refl
no_numbers (n ∷ numbers) h = absurd (let no : ⊥ = cc in no)

unbroken_job : (text : List ℕ) (job : Job) → job_of text ≡ Ok job → bad_job text ≡ None
unbroken_job text job h = at (bad_job text) refl where
  at : (o : Option ℕ) → bad_job text ≡ o → o ≡ None
  at None e = refl
  at (Some n) e = let refused : job_of text ≡ Err (BadJob n) = job-broken text (BadJob n) (ap (option_map BadJob) e) in absurd (let no : ⊥ = cc in no)

-- each path has one include file, where no line breaks the job
pub sections_paths : (text : List ℕ) → bad_job text ≡ None → AllPairs (λ a b. a.path ≢ b.path) (sections_of text).includes
sections_paths text unbroken =
    subst (λ (files : List JobInclude). AllPairs Differ files) (sym (includes_of-are text))
    (distinct [] (job_lines text) (no_numbers (broken_after [] (job_lines text)) unbroken)).apart

pub job_paths : (text : List ℕ) (job : Job) → job_of text ≡ Ok job → AllPairs (λ a b. a.path ≢ b.path) job.includes
job_paths text job h = subst (λ (j : Job). AllPairs Differ j.includes) (job_is-sections text job h) (sections_paths text (unbroken_job text job h))
