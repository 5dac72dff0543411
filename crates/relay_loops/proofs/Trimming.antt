-- What of a part is left when nodes that lead nowhere are taken away.
use Rattle.std.proofs.Common.{set, get_or-set_other, ◌≡◌, ℕ, ◌<◌, Bool, true, false, List, length, All, Contains, filter, sym, ◌∙◌, subst, inl, inr}
use Rattle.std.specs.List.{list_any}
use Rattle.std.proofs.lemmas.Bool.Decides.{eqb_tells}
use Rattle.std.proofs.lemmas.List.Elements.{All-contains, All-contains_itself, All-weaker}
use Rattle.std.proofs.lemmas.List.Kept.{IsStrictlyIncreasing-filter}
use Rattle.relay_tables.specs.GraphParts.{GraphParts}
use Rattle.relay_tables.specs.Graphs.{child_numbers}
use Rattle.relay_loops.specs.Leading.{is_marked, AreLoopsMarked, HasLoops}
use Rattle.relay_loops.specs.Loops.{IsOnLoop, IsClosedPart}
use Rattle.relay_loops.proofs.Members.{Contains-filter, Contains-from_filter, some_passes}
use Rattle.relay_loops.proofs.Walking.{cycle_through, leads_here}

module _ (g : GraphParts) (part : List ℕ) (closed : IsClosedPart g part) where
  -- a node on a loop has a child on it
  pub child_on_loop : (n : ℕ) → Contains part n → IsOnLoop g n → (child : ℕ) × Contains (child_numbers g n) child × Contains part child × IsOnLoop g child
  child_on_loop n among loop =
      let next : ℕ → ℕ → Type 0 = λ parent child. Contains (child_numbers g parent) child in (
        loop.0,
        loop.2,
        closed.children n loop.0 among loop.2,
        cycle_through next loop.0 n loop.0 (record { path = loop.1; walk = loop.3 }) loop.2 (leads_here next loop.0),
      )

  -- such a node leads to a marked one
  pub leads_to_marked : (marks : List Bool) → AreLoopsMarked g part marks → (n : ℕ) → Contains part n → IsOnLoop g n → list_any (is_marked marks) (child_numbers g n) ≡ true
  leads_to_marked marks known n among loop =
      let c = child_on_loop n among loop in
      some_passes (is_marked marks) (child_numbers g n) c.0 c.1 (known c.0 c.2 c.3)

  -- a node that leads to no marked one loses its mark
  pub cleared : (marks : List Bool) (x : ℕ) → AreLoopsMarked g part marks → list_any (is_marked marks) (child_numbers g x) ≡ false → AreLoopsMarked g part (set marks x false)
  cleared marks x known none n among loop =
      elim (eqb_tells x n) [
        | inl same ↦
            let here : list_any (is_marked marks) (child_numbers g n) ≡ false = subst (λ (m : ℕ). list_any (is_marked marks) (child_numbers g m) ≡ false) same.1 none in
            let some_one = leads_to_marked marks known n among loop in
            absurd (cc)
        | inr differ ↦ get_or-set_other marks x n false false (λ e. differ.1 (sym e)) ∙ known n among loop
      ]

  -- such nodes are those of the graph
  pub within_graph : (nodes : List ℕ) → HasLoops g part nodes → All (λ n. n < length g.nodes) nodes
  within_graph nodes has =
      All-weaker (Contains nodes) (λ n. n < length g.nodes) (λ n c. All-contains (λ m. m < length g.nodes) part n closed.in_graph (has.among n c)) nodes (All-contains_itself nodes)

  -- the marked ones of such nodes are such nodes
  pub marked_keeps : (marks : List Bool) (nodes : List ℕ) → AreLoopsMarked g part marks → HasLoops g part nodes → HasLoops g part (filter (is_marked marks) nodes)
  marked_keeps marks nodes known has =
      record {
        ascending = IsStrictlyIncreasing-filter (is_marked marks) nodes has.ascending;
        among = λ n c. has.among n (Contains-from_filter (is_marked marks) nodes n c).0;
        loops = λ n c loop. Contains-filter (is_marked marks) nodes n (has.loops n c loop) (known n c loop);
      }

  -- at first these are all nodes
  pub all_keep : HasLoops g part part
  all_keep = record { ascending = closed.ascending; among = λ n c. c; loops = λ n c loop. c }
