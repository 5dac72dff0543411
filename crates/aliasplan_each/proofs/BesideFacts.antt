-- How the blocks of envelopes that come one after another make an answer.
use Rattle.std.proofs.Common.{◌≡◌, ℕ, zero, suc, List, [], ◌∷◌, ◌++◌, length, Option, Some, None, Ok, Err, refl, ap, ◌∙◌, arith}
use Rattle.std.specs.List.{slice_get}
use Rattle.std.specs.Option.{IfSome}
use Rattle.std.specs.Result.{IfErr, OnOk}
use Rattle.std.specs.declared.result.Result.{Result}
use Rattle.std.proofs.lemmas.List.{length-append}
use Rattle.relay_job.specs.declared.job.Job.{Job}
use Rattle.relay_envelopes.specs.declared.counts.EnvelopeCounts.{EnvelopeCounts}
use Rattle.relay_envelopes.specs.Sections.{Section}
use Rattle.aliasplan_each.specs.declared.wording.Wording.{Wording}
use Rattle.relay_planning.specs.declared.options.Limits.{Limits}
use Rattle.aliasplan.specs.Transfers.{Fronts}
use Rattle.aliasplan_each.specs.Blocks.{Block, IsBlock, AreBlocks, Grows}
use Rattle.aliasplan_each.specs.BesideSteps.{FrontsBlock}
use Rattle.aliasplan_each.specs.BesideSteps.FrontsBlock.{some}

-- the blocks of sections, and those of more
module _ (limits : Limits) (wording : Wording) (tables : Job) (more : List Section) (added : List Block) (last : AreBlocks limits wording tables more added) where
  each-more : (sections : List Section) (blocks : List Block) → length blocks ≡ length sections
      → ((k : ℕ) (section : Section) (block : Block) → slice_get sections k ≡ Some section → slice_get blocks k ≡ Some block → IsBlock limits wording tables section block)
      → (k : ℕ) (section : Section) (block : Block) → slice_get (sections ++ more) k ≡ Some section → slice_get (blocks ++ added) k ≡ Some block → IsBlock limits wording tables section block
  each-more [] [] e each k section block f g = last.each k section block f g
  each-more (x ∷ xs) (y ∷ ys) e each zero section block f g = each zero section block f g
  each-more (x ∷ xs) (y ∷ ys) e each (suc k) section block f g = each-more xs ys (omega arith) (λ j. each (suc j)) k section block f g
  each-more [] (y ∷ ys) e each k section block f g = absurd (omega arith)
  each-more (x ∷ xs) [] e each k section block f g = absurd (omega arith)

  pub AreBlocks-more : (sections : List Section) (blocks : List Block) → AreBlocks limits wording tables sections blocks → AreBlocks limits wording tables (sections ++ more) (blocks ++ added)
  AreBlocks-more sections blocks h = record {
    len = omega (arith, length-append sections more, length-append blocks added, h.len, last.len);
    each = each-more sections blocks h.len h.each;
  }

pub AreBlocks-one : (limits : Limits) (wording : Wording) (tables : Job) (s : Section) (b : Block) → IsBlock limits wording tables s b → AreBlocks limits wording tables (s ∷ []) (b ∷ [])
AreBlocks-one limits wording tables s b is = record { len = refl; each = each } where
  each : (k : ℕ) (section : Section) (block : Block) → slice_get (s ∷ []) k ≡ Some section → slice_get (b ∷ []) k ≡ Some block → IsBlock limits wording tables section block
  each zero section block f g = let same : s ≡ section = cc in let alike : b ≡ block = cc in rw (← same, ← alike) is
  each (suc k) section block f g = absurd (let no : ⊥ = cc in no)

pub AreBlocks-none : (limits : Limits) (wording : Wording) (tables : Job) → AreBlocks limits wording tables [] []
AreBlocks-none limits wording tables = record { len = refl; each = λ k section block e f. absurd (let no : ⊥ = cc in no) }

-- What was written where a step stops.
pub on_err : {T E X : Type 0} (r : Result T E) → X → IfErr r (λ _. X)
on_err (Ok x) h = tt
on_err (Err e) h = h

pub on_ok_both : {T E X Y : Type 0} (r : Result T E) → OnOk r X → (X → Y) → OnOk r Y
on_ok_both (Ok x) h f = f h
on_ok_both (Err e) h f = tt

pub on_err_both : {T E X Y : Type 0} (r : Result T E) → IfErr r (λ _. X) → (X → Y) → IfErr r (λ _. Y)
on_err_both (Ok x) h f = tt
on_err_both (Err e) h f = f h

pub FrontsBlock-one : (limits : Limits) (wording : Wording) (tables : Job) (s given : Section) (before text : List ℕ) (old new : Option (List ℕ)) (counts after : EnvelopeCounts) → Grows limits wording tables given before text counts after → given ≡ s → before ≡ [] → Fronts old new text → FrontsBlock limits wording tables s old new
FrontsBlock-one limits wording tables s given before text old new counts after g same empty w =
    let is : text ≡ g.block.text = g.written ∙ ap (λ l. l ++ g.block.text) empty in
    some g.block w.count (rw same at g.is) (rw is at w.written)

pub if_some : {T : Type 0} {P : T → Type 0} (o : Option T) → ((x : T) → P x) → IfSome o P
if_some None f = tt
if_some (Some x) f = f x
