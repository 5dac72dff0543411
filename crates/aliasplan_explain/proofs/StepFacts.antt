-- A step of a trail as it is read, and the step by an item of one alias to another.
use Rattle.std.proofs.Common.{◌≡◌, ◌+◌, ◌<◌, ℕ, List, get_or, length, slice_get, Option, Some, None, option_map, refl, sym, ap, ◌∙◌, IsSome, is_some, Bor, Result, Ok, Err, OnOk}
use Rattle.std.proofs.lemmas.Bool.{false≢true}
use Rattle.std.proofs.lemmas.List.Elements.{All-same}
use Rattle.relay_aliasfile.specs.ItemPlaces.{place_value}
use Rattle.relay_aliasfile.specs.declared.places.ItemPlace.{ItemPlace}
use Rattle.relay_tables.specs.declared.node.Node.{Node}
use Rattle.relay_tables.specs.GraphParts.{GraphParts}
use Rattle.relay_tables.specs.Graphs.{child_numbers}
use Rattle.relay_tables.specs.Targets.{targets_of}
use Rattle.relay_trails.specs.declared.found.Found.{Found}
use Rattle.relay_trails.specs.Trails.{HasNodes}
use Rattle.relay_job.specs.declared.job.Job.{Job}
use Rattle.relay_explain.specs.declared.entry.Entry.TheVariants as entries
use Rattle.relay_explain.specs.declared.listed.Listed.{Listed}
use Rattle.relay_explain.specs.declared.target.Target.TheVariants as targets
use Rattle.relay_explain.specs.ExplanationText.{alias_step}
use Rattle.relay_planning.specs.Delivery.{directory_of, IsJobGraph}
use Rattle.aliasplan_explain.specs.Targets.{target_at}
use Rattle.aliasplan_explain.specs.Rows.{listed_by, listed_in}
use Rattle.aliasplan_explain.specs.ChainSteps.{IsStepTo}
use Rattle.aliasplan_explain.proofs.WalkFacts.{all_inside, item_leads}

pub on_ok : {A E : Type 0} {P Q : Type 0} (r : Result A E) → (P → Q) → OnOk r P → OnOk r Q
on_ok (Ok x) f h = f h
on_ok (Err e) f h = h

-- where a trail's nodes and items lead, as they are read
module _ (job : Job) (g : GraphParts) (graph : IsJobGraph job g) (found : Found) (has : HasNodes g found) (nodes : List ℕ) (nodes_are : nodes ≡ found.nodes.items) where
  pub inside_at : (k : ℕ) → k < length nodes → get_or nodes k 0 < length g.nodes
  inside_at k short = All-same (λ (n : ℕ). n < length g.nodes) nodes found.nodes.items nodes_are (all_inside job g graph found has) k 0 short

  pub leads_at : (items : List ℕ) → items ≡ found.items.items → (k : ℕ) → k < length found.items.items → slice_get (child_numbers g (get_or nodes k 0)) (get_or items k 0) ≡ Some (get_or nodes (k + 1) 0)
  leads_at items items_are k short =
      ap (λ (ns : List ℕ). slice_get (child_numbers g (get_or ns k 0)) (get_or items k 0)) nodes_are
      ∙ ap (λ (is : List ℕ). slice_get (child_numbers g (get_or found.nodes.items k 0)) (get_or is k 0)) items_are
      ∙ item_leads job g graph found has k short
      ∙ ap (λ (ns : List ℕ). Some (get_or ns (k + 1) 0)) (sym nodes_are)

-- what a place that was looked up is to a reader
abbrev pub listed_if : List ℕ → Option (Bor ItemPlace) → Option Listed
listed_if name r = option_map (listed_in (entries.Alias name)) (option_map place_value (option_map (λ (x : Bor ItemPlace). x.now) r))

module _ (job : Job) (from : Node) (item : ℕ) (to : Node) (name : List ℕ) (r : Option (Bor ItemPlace)) (leads : slice_get (targets_of (directory_of job) from) item ≡ Some to) (got : slice_get (listed_by job from) item ≡ listed_if name r) where
  pub alias_step_to : (target : List ℕ) → target_at (directory_of job) to ≡ Some (targets.Alias target) → (place : Bor ItemPlace) → r ≡ Some place → IsStepTo job from item to (alias_step name place.now.line place.now.item place.now.text.now target)
  alias_step_to target is place at =
      record {
        leads = leads;
        listed = listed_in (entries.Alias name) (place_value place.now);
        stands = got ∙ ap (listed_if name) at;
        mention = refl;
        target = is;
      }

  pub place_there : IsSome (slice_get (listed_by job from) item) → r ≡ None → ⊥
  place_there there at = false≢true (ap is_some (sym (got ∙ ap (listed_if name) at)) ∙ there)
