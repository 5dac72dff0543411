use Rattle.std.proofs.Common.{List, ℕ, length, inr, refl, subst}
use Rattle.std.specs.Prelude.{◌↔◌, IsTrue}
use Rattle.std.proofs.lemmas.Option.{slice_get_within}
use Rattle.relay_text.specs.AddressParts.{AddressParts}
use Rattle.relay_text.specs.Bytes.{has_text}
use Rattle.relay_planning.specs.Delivery.{directory_of}
use Rattle.aliasplan.specs.ReturnLines.{AreCounted, IsLineBefore, lines_at}
use Rattle.aliasplan.proofs.ReturnFacts.{few_pairs, lines_are, many_pairs, same_length}
use Rattle.aliasplan.proofs.returning.return_lines.Goals as goal

pub lines_by_sender-requires-clause-roots : goal.lines_by_sender-requires-clause-roots
lines_by_sender-requires-clause-roots g c = λ l m. rw c.recipients-recipients.ensures (same_length c.args.job.now c.args.graph.now c.requires.graph)

pub returns-in-Ok-clause-lines : goal.returns-in-Ok-clause-lines
returns-in-Ok-clause-lines g c =
    let job = c.args.job.now in
    let graph = c.args.graph.now in
    let is = c.requires.graph in
    let lists = c.in-Ok.lists.items in
    let undelivered = c.args.undelivered.now in
    record {
      long = c.in-Ok.ensures.long;
      each = λ s sender q from.
          let h =
          subst (λ (rs : List AddressParts). IsTrue (has_text (lines_at lists s) q) ↔ IsLineBefore graph undelivered rs (length rs) s q) c.recipients-recipients.ensures
          (c.in-Ok.ensures.lines s q (slice_get_within graph.senders s sender from)) in
          let are =
          lines_are job graph is c.pairs_by_root.ensures.some (λ k recipient root at. c.pairs_by_root.ensures.numbers (directory_of job) job.sender job.recipients graph is k recipient root at) c.args.nodes.now c.requires.nodes undelivered
          c.requires.lines s sender q from in
          (λ x. are.0 (h.0 x), λ y. h.1 (are.1 y));
    }

pub returns-in-Ok-clause-pairs : goal.returns-in-Ok-clause-pairs
returns-in-Ok-clause-pairs g c =
    let job = c.args.job.now in
    let graph = c.args.graph.now in
    let is = c.requires.graph in
    let d = directory_of job in
    let law = c.pairs_by_root.ensures in
    let limit : ℕ = c.args.crew.now.limits.pairs in
    let counted = subst (λ (rs : List AddressParts). (left : ℕ) × AreCounted graph limit left (length rs)) c.recipients-recipients.ensures c.in-Ok.ensures.counted in
    few_pairs job graph is limit
    (λ k recipient root at. law.more d job.sender job.recipients graph is k recipient root at)
    (λ k recipient root at. law.at_least d job.sender job.recipients graph is k recipient root at)
    (λ k recipient root at. law.at_most d job.sender job.recipients graph is k recipient root at) counted.0 counted.1

pub returns-in-Err-TooManyPairs-clause-refused : goal.returns-in-Err-TooManyPairs-clause-refused
returns-in-Err-TooManyPairs-clause-refused g c =
    let job = c.args.job.now in
    let graph = c.args.graph.now in
    let is = c.requires.graph in
    let d = directory_of job in
    let law = c.pairs_by_root.ensures in
    let refused = rw c.in-Err-TooManyPairs.field-0-is at c.in-Err-TooManyPairs.ensures.refused in
    let more =
    many_pairs job graph is c.args.crew.now.limits.pairs
    (λ k recipient root at. law.more d job.sender job.recipients graph is k recipient root at)
    (λ k recipient root at. law.at_least d job.sender job.recipients graph is k recipient root at)
    (λ k recipient root at. law.at_most d job.sender job.recipients graph is k recipient root at) (refused refl) in
    inr (c.requires.within, more)
