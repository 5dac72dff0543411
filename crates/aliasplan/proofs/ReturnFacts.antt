-- What the lines by numbers say of a job's returns.
use Rattle.std.proofs.Common.{◌≡◌, ◌≢◌, ℕ, ◌+◌, List, [], ◌∷◌, ◌++◌, length, map, get_or, Option, sym, ap, ◌∙◌, subst, inl, inr, arith, length-append}
use Rattle.std.specs.Prelude.{◌↔◌, All, AllPairs, Contains, IsTrue, Some, option_and_then, option_map, slice_get, slice_index}
use Rattle.std.proofs.lemmas.Bool.{cases_lt}
use Rattle.std.proofs.lemmas.List.{length-map, get_or_past}
use Rattle.std.proofs.lemmas.Option.{same_Some, slice_get-map, slice_get-get_or, slice_get_within, get_or_from_slice_get}
use Rattle.std.proofs.Math.ListN.{get_or-append}
use Rattle.std.proofs.Math.Seq.{get_or-append_seam}
use Rattle.relay_text.specs.AddressParts.{AddressParts}
use Rattle.relay_text.specs.Bytes.{has_text}
use Rattle.relay_text.specs.TextSets.{text_cmp, IsAscendingBy}
use Rattle.relay_tables.specs.declared.node.Node.{Node}
use Rattle.relay_tables.specs.Directory.{Directory}
use Rattle.relay_tables.specs.GraphParts.{GraphParts}
use Rattle.relay_tables.specs.Graphs.{nodes_at, sender_number_after}
use Rattle.relay_tables.specs.Targets.{recipient_target}
use Rattle.relay_tables.specs.Senders.{Sender, Pair, sender_past}
use Rattle.relay_pairs.specs.declared.reached.Reached.{Reached}
use Rattle.relay_pairs.specs.Pairs.{with_root, ArePairsFrom, HasMorePairsFrom}
use Rattle.relay_pairs.specs.Chains.{HasAtLeastBy, HasAtMostBy, HasMoreBy, HasNumbers, IsReachedBy, IsReachedFrom, IsRootOf}
use Rattle.relay_pairs.proofs.Numbered.{has_pair, leads_from}
use Rattle.relay_wire.specs.declared.finding.Place.TheVariants as places
use Rattle.relay_wire.specs.declared.finding.Finding.{Finding}
use Rattle.relay_wire.specs.Findings.{finding_text_of}
use Rattle.relay_returns.specs.declared.block.Return.{Return}
use Rattle.relay_returns.specs.Returns.{return_cmp, return_text_of}
use Rattle.relay_job.specs.declared.job.Job.{Job}
use Rattle.relay_planning.specs.Delivery.{directory_of, IsJobPart}
use Rattle.relay_planning.specs.Listing.{target_finding}
use Rattle.relay_planning.specs.Reaching.{AreReachedNodes}
use Rattle.aliasplan.specs.Returns.{AreReturnsOf, HasAtMostReturnPairs, HasMoreReturnPairs, IsReturnLine, IsReturned, IsReturnedFrom, IsReturnedItself}
use Rattle.aliasplan.specs.ReturnLines.{AreCounted, AreLinesOf, AreReturnLines, AreUndelivered, HasTooMany, IsLineBefore, IsLineFrom, IsLineOfPlace, IsPairLine, blocks_from, lines_at}
use Rattle.aliasplan.proofs.BlockFacts.{block_ascends, block_is, has_block}
use Rattle.relay_planning.proofs.NumberFacts.{slice_get_below}
use Rattle.aliasplan.proofs.ReturnSteps.{same_return, sum_more}
use Rattle.relay_planning.proofs.SetFacts.{Contains-has_text, has_text-Contains}

-- where all elements are distinct, each stands in one place
one_place : {X : Type 0} (xs : List X) (i j : ℕ) (x : X) → AllPairs (λ x y. x ≢ y) xs → slice_get xs i ≡ Some x → slice_get xs j ≡ Some x → i ≡ j
one_place xs i j x apart here there =
    let same : get_or xs i x ≡ get_or xs j x = get_or_from_slice_get xs i x x here ∙ sym (get_or_from_slice_get xs j x x there) in
    elim (cases_lt i j) [
      | inl before ↦ absurd (apart i j x before (slice_get_within xs j x there) same)
      | inr low ↦ elim (cases_lt j i) [ inl after ↦ absurd (apart j i x after (slice_get_within xs i x here) (sym same)) | inr high ↦ omega arith ]
    ]

module _ (job : Job) (g : GraphParts) (is : IsJobPart job g) where
  abbrev d : Directory
  d = directory_of job

  pub same_length : length job.recipients ≡ length g.roots
  same_length = sym (length-map job.recipients (λ a. Some (recipient_target d a))) ∙ ap length (sym is.roots) ∙ length-map g.roots (slice_get g.nodes)

  -- the root of a recipient's place
  root_of_place : (k : ℕ) (recipient : AddressParts) → slice_get job.recipients k ≡ Some recipient → (root : ℕ) × (slice_get g.roots k ≡ Some root)
  root_of_place k recipient at = slice_get_below g.roots k (omega (arith, slice_get_within job.recipients k recipient at, same_length))

  recipient_of_place : (k root : ℕ) → slice_get g.roots k ≡ Some root → (recipient : AddressParts) × (slice_get job.recipients k ≡ Some recipient)
  recipient_of_place k root at = slice_get_below job.recipients k (omega (arith, slice_get_within g.roots k root at, same_length))

  root_node : (k root : ℕ) (recipient : AddressParts) → IsRootOf job.recipients g k recipient root → slice_get g.nodes root ≡ Some (recipient_target d recipient)
  root_node k root recipient at =
      let at_number : slice_get (nodes_at g g.roots) k ≡ Some (slice_get g.nodes root) = slice_get-map (slice_get g.nodes) g.roots k ∙ ap (option_map (slice_get g.nodes)) at.number in
      let at_target : slice_get (map (λ (a : AddressParts). Some (recipient_target d a)) job.recipients) k ≡ Some (Some (recipient_target d recipient)) =
      slice_get-map (λ (a : AddressParts). Some (recipient_target d a)) job.recipients k ∙ ap (option_map (λ (a : AddressParts). Some (recipient_target d a))) at.is in
      same_Some (slice_get g.nodes root) (Some (recipient_target d recipient)) (sym at_number ∙ ap (λ (ns : List (Option Node)). slice_get ns k) is.roots ∙ at_target)

  -- ---- the lines
  module _
      (some : (d : Directory) (sender : Sender) (recipients : List AddressParts) (pair : Pair) → IsReachedBy d sender recipients pair ↔ ((recipient : AddressParts) × Contains recipients recipient × IsReachedFrom d sender recipient pair))
      (numbers : (k : ℕ) (recipient : AddressParts) (root : ℕ) → IsRootOf job.recipients g k recipient root → (pair : Pair) → IsReachedFrom d job.sender recipient pair ↔ ((n : Reached) × HasNumbers (with_root g root) pair n))
      (nodes : List ℕ) (all : AreReachedNodes job g nodes) (undelivered : List (List (List ℕ))) (are : AreLinesOf g job nodes undelivered) where
    -- the lines of a node that is reached from a recipient
    lines_of_reached : (recipient : AddressParts) (pair : Pair) (n : ℕ) → Contains job.recipients recipient → IsReachedFrom d job.sender recipient pair → slice_get g.nodes n ≡ Some pair.node → AreUndelivered job pair.node (lines_at undelivered n)
    lines_of_reached recipient pair n in_envelope reached at =
        let m = all.numbered pair.node (pair.sender, (some d job.sender job.recipients pair).1 (recipient, in_envelope, reached)) in
        let same : m.0 ≡ n = one_place g.nodes m.0 n pair.node is.distinct m.2 at in
        subst (λ (x : ℕ). AreUndelivered job pair.node (lines_at undelivered x)) same (are.each m.0 pair.node m.1 m.2)

    module _ (s : ℕ) (sender : Sender) (q : List ℕ) (from : slice_get g.senders s ≡ Some sender) where
      itself_line : (k : ℕ) (recipient : AddressParts) (root : ℕ) → IsRootOf job.recipients g k recipient root → s ≡ 0 → (finding : Finding) → option_and_then (target_finding places.Envelope) (slice_get g.nodes root) ≡ Some finding → IsReturnedItself job sender recipient finding
      itself_line k recipient root at first finding found = (
        same_Some sender job.sender (sym from ∙ ap (slice_get g.senders) first ∙ is.envelope_first),
        subst (λ (o : Option Node). option_and_then (target_finding places.Envelope) o ≡ Some finding) (root_node k root recipient at) found,
      )

      line_from : (k : ℕ) (recipient : AddressParts) (root : ℕ) → Contains job.recipients recipient → IsRootOf job.recipients g k recipient root → IsLineFrom g undelivered recipient root s q → IsReturnLine job sender q
      line_from k recipient root c at (inl h) =
          record { recipient = recipient; in_envelope = c; finding = h.1.0; returned = inl (itself_line k recipient root at h.0 h.1.0 h.1.1); is = h.1.2 }
      line_from k recipient root c at (inr h) =
          let n : Reached = h.0 in
          let line = h.2 in
          let has = has_pair d job.sender (recipient ∷ []) (with_root g root) (leads_from d job.sender job.recipients g is k recipient root at) n h.1 in
          let pair : Pair = has.pair in
          let lines = lines_of_reached recipient pair n.node c has.reached has.node_at in
          let f = lines.each (finding_text_of line.line.0) line.line.1 in
          let after : sender ≡ sender_past d pair.sender pair.node =
          same_Some sender (sender_past d pair.sender pair.node) (sym from ∙ ap (slice_get g.senders) line.after ∙ is.after n.sender n.node pair.sender pair.node has.sender_at has.node_at) in
          let returned : IsReturnedFrom job sender recipient f.0 = record { pair = pair; reached = has.reached; after = after; undelivered = f.1 } in
          record { recipient = recipient; in_envelope = c; finding = f.0; returned = inr returned; is = line.line.2 ∙ same_return line.line.0 f.0 recipient f.2 }

      line_of_place : (k : ℕ) → IsLineOfPlace g undelivered job.recipients s q k → IsReturnLine job sender q
      line_of_place k l =
          let c : Contains job.recipients l.recipient = (k, slice_get_within job.recipients k l.recipient l.at, get_or_from_slice_get job.recipients k l.recipient l.recipient l.at) in
          line_from k l.recipient l.root c (record { is = l.at; number = l.root_at }) l.line

      from_returned : (k : ℕ) (recipient : AddressParts) (root : ℕ) → Contains job.recipients recipient → IsRootOf job.recipients g k recipient root → (finding : Finding) → IsReturned job sender recipient finding → q ≡ return_text_of finding recipient → IsLineFrom g undelivered recipient root s q
      from_returned k recipient root c at finding (inl itself) e =
          let first : s ≡ 0 = one_place g.senders s 0 sender is.senders_distinct from (is.envelope_first ∙ ap (λ (x : Sender). Some x) (sym itself.0)) in
          let found : option_and_then (target_finding places.Envelope) (slice_get g.nodes root) ≡ Some finding = ap (option_and_then (target_finding places.Envelope)) (root_node k root recipient at) ∙ itself.1 in
          inl (first, (finding, found, e))
      from_returned k recipient root c at finding (inr r) e =
          let h = (numbers k recipient root at r.pair).0 r.reached in
          let n : Reached = h.0 in
          let lines = lines_of_reached recipient r.pair n.node c r.reached h.1.node in
          let past : slice_get g.senders (sender_number_after g n.sender n.node) ≡ Some sender = is.after n.sender n.node r.pair.sender r.pair.node h.1.sender h.1.node ∙ ap (λ (x : Sender). Some x) (sym r.after) in
          let after : s ≡ sender_number_after g n.sender n.node = one_place g.senders s (sender_number_after g n.sender n.node) sender is.senders_distinct from past in
          let line : IsPairLine g undelivered recipient s q n = record { after = after; line = (finding, lines.all finding r.undelivered, e) } in
          inr (n, h.1.reached, line)

      line_before : IsReturnLine job sender q → IsLineBefore g undelivered job.recipients (length job.recipients) s q
      line_before r =
          let k : ℕ = r.in_envelope.0 in
          let at : slice_get job.recipients k ≡ Some r.recipient = slice_get-get_or job.recipients k r.recipient r.in_envelope.1 ∙ ap (λ (a : AddressParts). Some a) r.in_envelope.2 in
          let root = root_of_place k r.recipient at in (
            k,
            r.in_envelope.1,
            record {
              recipient = r.recipient;
              at = at;
              root = root.0;
              root_at = root.1;
              line = from_returned k r.recipient root.0 r.in_envelope (record { is = at; number = root.1 }) r.finding r.returned r.is;
            },
          )

      pub lines_are : IsLineBefore g undelivered job.recipients (length job.recipients) s q ↔ IsReturnLine job sender q
      lines_are = (λ h. line_of_place h.0 h.2, line_before)

  -- the number of a sender to whom something is returned
  pub place_of : ((k : ℕ) (recipient : AddressParts) (root : ℕ) → IsRootOf job.recipients g k recipient root → (pair : Pair) → IsReachedFrom d job.sender recipient pair ↔ ((n : Reached) × HasNumbers (with_root g root) pair n))
      → (sender : Sender) (q : List ℕ) → IsReturnLine job sender q → (s : ℕ) × (slice_get g.senders s ≡ Some sender)
  place_of numbers sender q r =
      elim r.returned [
        | inl itself ↦ (0, is.envelope_first ∙ ap (λ (x : Sender). Some x) (sym itself.0))
        | inr from ↦
            let k : ℕ = r.in_envelope.0 in
            let at : slice_get job.recipients k ≡ Some r.recipient = slice_get-get_or job.recipients k r.recipient r.in_envelope.1 ∙ ap (λ (a : AddressParts). Some a) r.in_envelope.2 in
            let root = root_of_place k r.recipient at in
            let h = (numbers k r.recipient root.0 (record { is = at; number = root.1 }) from.pair).0 from.reached in
            (sender_number_after g h.0.sender h.0.node, is.after h.0.sender h.0.node from.pair.sender from.pair.node h.1.sender h.1.node ∙ ap (λ (x : Sender). Some x) (sym from.after))
      ]

  -- ---- counting
  module _ (limit : ℕ)
      (more : (k : ℕ) (recipient : AddressParts) (root : ℕ) → IsRootOf job.recipients g k recipient root → (n : ℕ) → HasMorePairsFrom g root n → HasMoreBy d job.sender (recipient ∷ []) n)
      (at_least : (k : ℕ) (recipient : AddressParts) (root : ℕ) → IsRootOf job.recipients g k recipient root → (pairs : List Reached) → ArePairsFrom g root pairs → HasAtLeastBy d job.sender (recipient ∷ []) (length pairs))
      (at_most : (k : ℕ) (recipient : AddressParts) (root : ℕ) → IsRootOf job.recipients g k recipient root → (pairs : List Reached) → ArePairsFrom g root pairs → HasAtMostBy d job.sender (recipient ∷ []) (length pairs)) where
    pub few_pairs : (left : ℕ) → AreCounted g limit left (length job.recipients) → HasAtMostReturnPairs job limit
    few_pairs left counted = record {
      counts = counted.counts;
      each = λ k recipient at.
          let root = root_of_place k recipient at in
          let h = counted.each k root.0 (slice_get_within job.recipients k recipient at) root.1 in
          subst (HasAtMostBy d job.sender (recipient ∷ [])) h.2 (at_most k recipient root.0 (record { is = at; number = root.1 }) h.0 h.1);
      few = omega (arith, counted.spent);
    }

    from_more : (recipient : AddressParts) (n : ℕ) → HasMoreBy d job.sender (recipient ∷ []) n → HasAtLeastBy d job.sender (recipient ∷ []) (n + 1)
    from_more recipient n h = record { pairs = h.pairs; distinct = h.distinct; reached = h.reached; some = omega (arith, h.more) }

    none_at_least : (recipient : AddressParts) → HasAtLeastBy d job.sender (recipient ∷ []) 0
    none_at_least recipient = record {
      pairs = [];
      distinct = λ i j o before inside. absurd (omega (arith, inside));
      reached = λ i o inside. absurd (omega (arith, inside));
      some = omega arith;
    }

    pub many_pairs : HasTooMany g limit → HasMoreReturnPairs job limit
    many_pairs many =
        let old = many.before in
        let last : ℕ = many.left + 1 in
        let counts : List ℕ = old.counts ++ last ∷ [] in
        let long : length counts ≡ many.place + 1 = length-append old.counts (last ∷ []) ∙ ap (λ (m : ℕ). m + 1) old.long in
        let within = slice_get_within g.roots many.place many.root many.at in record {
          counts = counts;
          of_recipients = omega (arith, long, within, same_length);
          each = λ k recipient at.
              let Q : ℕ → Type 0 = HasAtLeastBy d job.sender (recipient ∷ []) in
              let root = root_of_place k recipient at in
              let is_root : IsRootOf job.recipients g k recipient root.0 = record { is = at; number = root.1 } in
              elim (cases_lt k many.place) [
                | inl before ↦
                    let h = old.each k root.0 before root.1 in
                    subst Q (h.2 ∙ sym (get_or-append old.counts (last ∷ []) 0 k (omega (arith, old.long, before)))) (at_least k recipient root.0 is_root h.0 h.1)
                | inr not_before ↦ elim (cases_lt many.place k) [
                  | inl behind ↦ subst Q (sym (get_or_past counts k 0 (omega (arith, long, behind)))) (none_at_least recipient)
                  | inr not_behind ↦
                      let here : k ≡ many.place = omega (arith, not_before, not_behind) in
                      let same : many.root ≡ root.0 = same_Some many.root root.0 (sym many.at ∙ ap (slice_get g.roots) (sym here) ∙ root.1) in
                      let found : slice_index counts k ≡ last = ap (slice_index counts) (here ∙ sym old.long) ∙ get_or-append_seam old.counts last [] 0 in
                      subst Q (sym found) (from_more recipient many.left (more k recipient root.0 is_root many.left (subst (λ (r : ℕ). HasMorePairsFrom g r many.left) same many.more)))
                ]
              ];
          more = omega (arith, sum_more old.counts last, old.spent);
        }

  -- ---- the blocks
  module _ (lists : List (List (List ℕ))) (lines : AreReturnLines job g lists) (ascending : All (IsAscendingBy text_cmp) lists) (sorted : List Return) (members : (r : Return) → Contains sorted r ↔ Contains (blocks_from g.senders lists) r)
      (placed : (sender : Sender) (q : List ℕ) → IsReturnLine job sender q → (s : ℕ) × (slice_get g.senders s ≡ Some sender)) where
    pub returns_are : IsAscendingBy return_cmp sorted → AreReturnsOf job sorted
    returns_are up = record {
      ascending = up;
      some_lines = λ r c. (block_is g.senders lists r ((members r).0 c)).some_lines;
      lines = λ r c.
          let b = block_is g.senders lists r ((members r).0 c) in
          let own : (q : List ℕ) → IsTrue (has_text r.lines q) ↔ IsReturnLine job r.sender q = λ q. subst (λ (ls : List (List ℕ)). IsTrue (has_text ls q) ↔ IsReturnLine job r.sender q) b.lines (lines.each b.place r.sender q b.sender) in
          record {
            ascending = block_ascends g.senders lists r b ascending;
            members = λ q. (λ inside. (own q).0 (has_text-Contains r.lines q inside), λ line. Contains-has_text r.lines q ((own q).1 line));
          };
      all = λ sender q line. has_sender sender q line;
    } where
      has_sender : (sender : Sender) (q : List ℕ) → IsReturnLine job sender q → (r : Return) × Contains sorted r × (r.sender ≡ sender)
      has_sender sender q line =
          let k = placed sender q line in
          let there : Contains (lines_at lists k.0) q = Contains-has_text (lines_at lists k.0) q ((lines.each k.0 sender q k.1).1 line) in
          let some_lines : lines_at lists k.0 ≢ [] = λ none. let c = subst (λ (ls : List (List ℕ)). Contains ls q) none there in absurd (omega (arith, c.1)) in
          let b = has_block g.senders lists k.0 sender k.1 some_lines in
          (b.0, (members b.0).1 b.1, b.2)
