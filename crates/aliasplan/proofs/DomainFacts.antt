-- Which domains the numbers of reached nodes ask for.
use Rattle.std.proofs.Common.{◌≡◌, ℕ, ◌<◌, List, [], length, Contains, Option, Some, sym, subst, inl, inr}
use Rattle.std.specs.Prelude.{option_and_then}
use Rattle.std.proofs.lemmas.List.Elements.{All-contains}
use Rattle.relay_text.specs.TextSets.{IsAscendingBy, text_cmp}
use Rattle.relay_tables.specs.declared.node.Node.{Node}
use Rattle.relay_tables.specs.GraphParts.{GraphParts}
use Rattle.relay_job.specs.declared.job.Job.{Job}
use Rattle.aliasplan.specs.Domains.{domain_of_node, IsAskedDomain, AreAskedDomains, AsksFor}
use Rattle.relay_planning.specs.Entries.{HaveLine}
use Rattle.relay_planning.specs.Findings.{Reports}
use Rattle.relay_planning.specs.Reaching.{AreReachedNodes}
use Rattle.relay_planning.proofs.NumberFacts.{slice_get_below}
use Rattle.relay_planning.proofs.SetFacts.{Contains-has_text, has_text-Contains}

module _ (job : Job) (g : GraphParts) (nodes : List ℕ) (all : AreReachedNodes job g nodes) where
  asked_by_number : (q : List ℕ) → HaveLine (AsksFor job g) nodes q → IsAskedDomain job q
  asked_by_number q h =
      let node = slice_get_below g.nodes h.0 (All-contains (λ (n : ℕ). n < length g.nodes) nodes h.0 all.in_graph h.1) in
      let P : Option Node → Type 0 = λ o. option_and_then (domain_of_node job) o ≡ Some q in
      record { node = node.0; reached = all.reached h.0 node.0 h.1 node.1; asked = subst P node.1 h.2 }

  number_asks : (q : List ℕ) → IsAskedDomain job q → HaveLine (AsksFor job g) nodes q
  number_asks q a =
      let n = all.numbered a.node a.reached in
      let P : Option Node → Type 0 = λ o. option_and_then (domain_of_node job) o ≡ Some q in
      (n.0, n.1, subst P (sym n.2) a.asked)

  -- the set of what the numbers ask for, as a list
  pub domains_are : (set domains : List (List ℕ)) → domains ≡ set → IsAscendingBy text_cmp set → Reports [] set (HaveLine (AsksFor job g) nodes) → AreAskedDomains job domains
  domains_are set domains same sorted reported =
      record {
        ascending = subst (λ (ds : List (List ℕ)). IsAscendingBy text_cmp ds) (sym same) sorted;
        members = λ q. (
          λ c. elim ((reported q).0 (has_text-Contains set q (subst (λ (ds : List (List ℕ)). Contains ds q) same c))) [
            | inl nothing ↦ absurd (let no : ⊥ = cc in no)
            | inr asked ↦ asked_by_number q asked
          ],
          λ asked. subst (λ (ds : List (List ℕ)). Contains ds q) (sym same) (Contains-has_text set q ((reported q).1 (inr (number_asks q asked)))),
        );
      }
