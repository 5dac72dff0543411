-- What the best trails say of the answers for a node.
use Rattle.std.proofs.Common.{◌≡◌, ◌≢◌, ◌↔◌, ℕ, ◌+◌, ◌<◌, List, [], ◌∷◌, ◌++◌, length, get_or, take, map, slice_get, All, AllPairs, Contains, Option, Some, IfSome, IsSome, refl, sym, ap, ◌∙◌, subst, arith}
use Rattle.std.specs.Option.{is_some}
use Rattle.std.proofs.lemmas.List.{length-map, get_or-map, map_more, map_push}
use Rattle.std.proofs.lemmas.List.Elements.{All-cons, All-contains, All-head, All-nil, All-tail, Contains-get_or}
use Rattle.std.proofs.lemmas.Option.{same_Some, slice_get_within, get_or_from_slice_get}
use Rattle.relay_text.specs.Addresses.{path_text_of}
use Rattle.relay_text.specs.TextSets.{IsAscendingBy, text_cmp}
use Rattle.relay_ordering.specs.Keys.{sender_cmp}
use Rattle.relay_tables.specs.declared.node.Node.{Node}
use Rattle.relay_tables.specs.GraphParts.{GraphParts}
use Rattle.relay_tables.specs.Senders.{Sender}
use Rattle.relay_pairs.specs.declared.reached.Reached.{Reached}
use Rattle.relay_pairs.proofs.Members.{Contains-map, Contains-from_map}
use Rattle.relay_trails.specs.declared.found.Found.{Found}
use Rattle.relay_trails.specs.Chains.{AreBestBy, IsBestAnswer, IsBestBy, senders_of}
use Rattle.relay_trails.specs.Trails.{trail_of}
use Rattle.relay_wire.specs.declared.plan.Plan.{Plan}
use Rattle.relay_job.specs.declared.job.Job.{Job}
use Rattle.relay_explain.specs.declared.told.Told.{Told}
use Rattle.relay_explain.specs.Explanations.{Answer}
use Rattle.relay_explain.specs.Tellings.{AreTold}
use Rattle.relay_planning.specs.Delivery.{directory_of, IsReachedPair}
use Rattle.relay_planning.specs.Reaching.{AreReachedPairs}
use Rattle.aliasplan_explain.specs.Explanations.{AreAnswersFor, IsAnswerFor}
use Rattle.aliasplan_explain.specs.declared.lines.ChainLines.{ChainLines}
use Rattle.aliasplan_explain.specs.Chains.{chain_sender, IsChainTo}
use Rattle.aliasplan_explain.specs.Stretches.{AreLinesOf}
use Rattle.aliasplan_explain.specs.Tellings.{told_sender, AreToldFor, IsToldFor}
use Rattle.aliasplan_explain.proofs.WalkFacts.{some_get}

contained : {X : Type 0} (xs : List X) (k : ℕ) (x : X) → slice_get xs k ≡ Some x → Contains xs x
contained xs k x at = (k, slice_get_within xs k x at, get_or_from_slice_get xs k x x at)

module _ (job : Job) (g : GraphParts) (node : Node) where
  -- a node that is in no graph is reached under no sender
  pub none_best : (pairs : List Reached) → AreReachedPairs job g pairs → ¬ Contains g.nodes node → AreBestBy (directory_of job) job.sender job.recipients g node []
  none_best pairs all absent =
      record {
        distinct = λ i j d before short. absurd (omega (arith, short));
        listed = λ s. (λ c. absurd (omega (arith, c.1)), λ r. let h = all.numbered (record { sender = s; node = node }) r in absurd (absent (contained g.nodes h.0.node node h.3)));
        best = λ k d short. absurd (omega (arith, short));
      }

  module _ (found : List Found) (best : AreBestBy (directory_of job) job.sender job.recipients g node found) where
    pub best_at : (k : ℕ) (one : Found) → k < length found → one ≡ get_or found k one → IsBestAnswer (directory_of job) job.sender job.recipients g node one
    best_at k one short same = subst (λ (f : Found). IsBestAnswer (directory_of job) job.sender job.recipients g node f) (sym same) (best.best k one short)

    -- each sender that has an answer is one under which the node is reached
    pub reached_at : (k : ℕ) (one : Found) → k < length found → one ≡ get_or found k one → IfSome (slice_get g.senders one.sender) (λ sender. IsReachedPair job (record { sender = sender; node = node }))
    reached_at k one short same =
        let P : Sender → Type 0 = λ sender. IsReachedPair job (record { sender = sender; node = node }) in
        let is = best_at k one short same in
        let here : Contains found one = (k, short, sym same) in
        let listed : Contains (senders_of g found) (Some is.sender_is) = subst (λ (s : Option Sender). Contains (senders_of g found) s) is.at (Contains-map (λ (f : Found). slice_get g.senders f.sender) found one here) in
        subst (λ (s : Option Sender). IfSome s P) (sym is.at) ((best.listed is.sender_is).0 listed)

    -- a graph's sender stands where an answer has it
    pub sender_there : (k : ℕ) (one : Found) → k < length found → one ≡ get_or found k one → IsSome (slice_get g.senders one.sender)
    sender_there k one short same = ap is_some (best_at k one short same).at

    -- the lines of a trail that was found are a chain
    pub chain_is : (lines : List ℕ) (k : ℕ) (one : Found) → k < length found → one ≡ get_or found k one → (c : ChainLines) → AreLinesOf job lines (trail_of one) c.lines.items c.given_by → slice_get g.senders one.sender ≡ Some c.from → IsChainTo job lines node c
    chain_is lines k one short same c are from =
        let is = best_at k one short same in
        let sender : is.sender_is ≡ c.from = same_Some is.sender_is c.from (sym is.at ∙ from) in
        record {
          trail = trail_of one;
          best = subst (λ (s : Sender). IsBestBy (directory_of job) job.sender job.recipients (record { sender = s; node = node }) (trail_of one)) sender is.best;
          are = are;
          reached = subst (λ (s : Option Sender). IfSome s (λ (sender : Sender). IsReachedPair job (record { sender = sender; node = node }))) from (reached_at k one short same);
        }

    module _ (answers : List Told) (senders : map told_sender answers ≡ senders_of g found) where
      sender_at : (k : ℕ) (d : Told) → k < length answers → get_or (senders_of g found) k (Some d.from) ≡ Some (get_or answers k d).from
      sender_at k d short = ap (λ (ss : List (Option Sender)). get_or ss k (Some d.from)) (sym senders) ∙ get_or-map told_sender answers k d (Some d.from) short

      pub apart_told : AllPairs (λ (a b : Told). a.from ≢ b.from) answers
      apart_told i j d before short same =
          let long : length (senders_of g found) ≡ length answers = ap length (sym senders) ∙ length-map answers told_sender in
          let one = sender_at i d (omega (arith, before, short)) in
          let other = sender_at j d short in
          best.distinct i j (Some d.from) before (omega (arith, long, short)) (one ∙ ap (λ (s : Sender). Some s) same ∙ sym other)

      module _ (plan : Plan) (lines : List ℕ) (each : All (IsToldFor job plan lines node) answers) (sorted : List Told) (members : (a : Told) → Contains sorted a ↔ Contains answers a) where
        to_reached : (sender : Sender) → Contains (map (λ (a : Told). a.from) sorted) sender → IsReachedPair job (record { sender = sender; node = node })
        to_reached sender c =
            let a = Contains-from_map (λ (a : Told). a.from) sorted sender c in
            let listed : Contains (senders_of g found) (Some a.0.from) = subst (λ (ss : List (Option Sender)). Contains ss (Some a.0.from)) senders (Contains-map told_sender answers a.0 ((members a.0).0 a.1)) in
            (best.listed sender).0 (subst (λ (s : Sender). Contains (senders_of g found) (Some s)) a.2 listed)

        to_told : (sender : Sender) → IsReachedPair job (record { sender = sender; node = node }) → Contains (map (λ (a : Told). a.from) sorted) sender
        to_told sender r =
            let listed : Contains (map told_sender answers) (Some sender) = subst (λ (ss : List (Option Sender)). Contains ss (Some sender)) (sym senders) ((best.listed sender).1 r) in
            let a = Contains-from_map told_sender answers (Some sender) listed in
            subst (λ (s : Sender). Contains (map (λ (a : Told). a.from) sorted) s) (same_Some a.0.from sender a.2) (Contains-map (λ (a : Told). a.from) sorted a.0 ((members a.0).1 a.1))

        pub told_are : IsAscendingBy (sender_cmp (λ (a : Told). a.from)) sorted → AreToldFor job plan lines node sorted
        told_are up =
            record {
              ascending = up;
              senders = λ sender. (λ c. to_reached sender c, λ r. to_told sender r);
              each = λ k d short. All-contains (IsToldFor job plan lines node) answers (get_or sorted k d) each ((members (get_or sorted k d)).0 (Contains-get_or sorted k d short));
            }

-- one more chain
pub chains_more : (g : GraphParts) (found : List Found) (k : ℕ) (one : Found) → k < length found → one ≡ get_or found k one → (chains : List ChainLines) → map chain_sender chains ≡ senders_of g (take k found) → (c : ChainLines) → slice_get g.senders one.sender ≡ Some c.from → map chain_sender (chains ++ c ∷ []) ≡ senders_of g (take (k + 1) found)
chains_more g found k one short same chains so_far c is =
    let sender_of : Found → Option Sender = λ f. slice_get g.senders f.sender in
    let last : sender_of (get_or found k one) ≡ chain_sender c = ap sender_of (sym same) ∙ is in
    map_push chain_sender chains c ∙ ap (λ (ss : List (Option Sender)). ss ++ chain_sender c ∷ []) so_far ∙ ap (λ (s : Option Sender). senders_of g (take k found) ++ s ∷ []) (sym last) ∙ sym (map_more sender_of found k one short)

-- no answers are told as none
pub none_told : (answers : List Answer) (told : List Told) → AreTold answers told → answers ≡ [] → told ≡ []
none_told [] [] are none = refl
none_told [] (t ∷ told) are none = absurd are
none_told (a ∷ answers) told are none = cc

-- and none told is no answer
pub none_answered : (answers : List Answer) (told : List Told) → AreTold answers told → told ≡ [] → answers ≡ []
none_answered [] told are none = refl
none_answered (a ∷ answers) [] are none = absurd are
none_answered (a ∷ answers) (t ∷ told) are none = cc

-- ---- the answers that are told
module _ (job : Job) (plan : Plan) (lines : List ℕ) (node : Node) where
  pub answers_of : (told : List Told) → All (IsToldFor job plan lines node) told → (answers : List Answer) × All (IsAnswerFor job plan lines node) answers × AreTold answers told × (map (λ (a : Answer). a.from) answers ≡ map (λ (t : Told). t.from) told)
  answers_of [] all = ([], All-nil (IsAnswerFor job plan lines node), tt, refl)
  answers_of (t ∷ told) all =
      let first = All-head (IsToldFor job plan lines node) t told all in
      let rest = answers_of told (All-tail (IsToldFor job plan lines node) t told all) in
      (first.0 ∷ rest.0, All-cons (IsAnswerFor job plan lines node) first.0 rest.0 first.1 rest.1, (first.2, rest.2), ap (λ (f : Sender). f ∷ map (λ (a : Answer). a.from) rest.0) (sym first.2.from) ∙ ap (λ (fs : List Sender). t.from ∷ fs) rest.3)

  -- they ascend as what is told does
  ascending_along : (answers : List Answer) (told : List Told) → map (λ (a : Answer). a.from) answers ≡ map (λ (t : Told). t.from) told → IsAscendingBy (sender_cmp (λ (t : Told). t.from)) told → IsAscendingBy (sender_cmp (λ (a : Answer). a.from)) answers
  ascending_along answers told same up i j d before short =
      let from_a : Answer → Sender = λ a. a.from in
      let from_t : Told → Sender = λ t. t.from in
      let long : length answers ≡ length told = sym (length-map answers from_a) ∙ ap length same ∙ length-map told from_t in
      let t = some_get told j (omega (arith, long, short)) in
      let at : (k : ℕ) → k < length answers → (get_or answers k d).from ≡ (get_or told k t.0).from =
      λ k h. sym (get_or-map from_a answers k d d.from h) ∙ ap (λ (fs : List Sender). get_or fs k d.from) same ∙ get_or-map from_t told k t.0 d.from (omega (arith, long, h)) in
      ap (λ (f : Sender). text_cmp (path_text_of f) (path_text_of (get_or answers j d).from)) (at i (omega (arith, before, short)))
      ∙ ap (λ (f : Sender). text_cmp (path_text_of (get_or told i t.0).from) (path_text_of f)) (at j short)
      ∙ up i j t.0 before (omega (arith, long, short))

  pub answers_are : (told : List Told) (are : AreToldFor job plan lines node told) → (answers : List Answer) × AreAnswersFor job plan lines node answers × AreTold answers told
  answers_are told are =
      let found = answers_of told are.each in (
        found.0,
        record {
          ascending = ascending_along found.0 told found.3 are.ascending;
          senders = λ sender. subst (λ (fs : List Sender). Contains fs sender ↔ IsReachedPair job (record { sender = sender; node = node })) (sym found.3) (are.senders sender);
          each = found.1;
        },
        found.2,
      )
