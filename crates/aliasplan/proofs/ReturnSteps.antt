-- What one more finding, pair or recipient adds to the lines of what is returned.
use Rattle.std.proofs.Common.{◌≡◌, ◌⊎◌, ℕ, ◌+◌, ◌-◌, ◌<◌, ◌≤◌, Bool, ◌||◌, List, [], ◌∷◌, ◌++◌, length, get_or, set, take, refl, sym, ap, ◌∙◌, subst, inl, inr, arith, length-set, length-append, get_or-set_same, get_or-set_other}
use Rattle.std.specs.Prelude.{◌↔◌, Contains, IsTrue, Option, None, Some, option_and_then, slice_get, slice_index, sum}
use Rattle.std.specs.Str.{bytes_eq}
use Rattle.std.proofs.lemmas.Bool.{cases_eq, cases_lt, or_cases, or_left, or_right}
use Rattle.std.proofs.lemmas.List.{take_all}
use Rattle.std.proofs.lemmas.List.Sums.{sum_by_push}
use Rattle.std.proofs.lemmas.Option.{same_Some}
use Rattle.std.proofs.lemmas.Slice.Eq.{bytes_eq-Decides}
use Rattle.std.proofs.Math.ListN.{get_or-append}
use Rattle.std.proofs.Math.Seq.{get_or-append_seam}
use Rattle.relay_text.specs.AddressParts.{AddressParts}
use Rattle.relay_text.specs.Bytes.{has_text}
use Rattle.relay_tables.specs.GraphParts.{GraphParts}
use Rattle.relay_tables.specs.Graphs.{sender_number_after}
use Rattle.relay_pairs.specs.declared.reached.Reached.{Reached}
use Rattle.relay_pairs.specs.Pairs.{ArePairsFrom}
use Rattle.relay_wire.specs.declared.finding.Place.TheVariants as places
use Rattle.relay_wire.specs.declared.finding.Finding.{Finding}
use Rattle.relay_wire.specs.Findings.{finding_text_of}
use Rattle.relay_returns.specs.Returns.{return_text_of}
use Rattle.relay_returns.proofs.LineFacts.{line_is}
use Rattle.relay_planning.specs.Entries.{IsLineIn, IsTargetLine}
use Rattle.relay_planning.specs.Listing.{target_finding}
use Rattle.aliasplan.specs.ReturnLines.{AreCounted, AreFindings, HavePairLine, IsLineBefore, IsLineFor, IsLineFrom, IsPairLine, IsRootLine, ReportsEach, lines_at}
use Rattle.relay_planning.proofs.OutgoingFacts.{Some_has, some_more}
use Rattle.relay_planning.proofs.SetFacts.{Contains-has_text, has_text-Contains}

-- ---- one more finding
-- the line of a finding with this text
abbrev pub IsLineOfText : AddressParts → List ℕ → List ℕ → Type 0
IsLineOfText recipient q text = (finding : Finding) × (text ≡ finding_text_of finding) × (q ≡ return_text_of finding recipient)

-- a text that is inserted
pub text_added : (q line : List ℕ) (old new : Bool) → new ≡ (bytes_eq q line || old) → IsTrue new ↔ (IsTrue old ⊎ (q ≡ line))
text_added q line old new e = (
  λ h. elim (or_cases (bytes_eq q line) old (sym e ∙ h)) [ inl here ↦ inr ((bytes_eq-Decides q line).0 here) | inr there ↦ inl there ],
  λ either. e ∙ elim either [ inl there ↦ or_right (bytes_eq q line) old there | inr here ↦ or_left (bytes_eq q line) old ((bytes_eq-Decides q line).1 here) ],
)

pub line_added : (recipient : AddressParts) (text line q : List ℕ) (old new : Bool) → (finding : Finding) × (text ≡ finding_text_of finding) → ((finding : Finding) → text ≡ finding_text_of finding → line ≡ return_text_of finding recipient)
    → new ≡ (bytes_eq q line || old) → IsTrue new ↔ (IsTrue old ⊎ IsLineOfText recipient q text)
line_added recipient text line q old new some is e =
    let added = text_added q line old new e in (
      λ h. elim (added.0 h) [ inl there ↦ inl there | inr here ↦ inr (some.0, some.1, here ∙ is some.0 some.1) ],
      λ either. added.1 (elim either [ inl there ↦ inl there | inr here ↦ inr (here.2 ∙ sym (is here.0 here.1)) ]),
    )

pub lines_for : (findings : List (List ℕ)) (recipient : AddressParts) (q : List ℕ) → Some_has (IsLineOfText recipient q) findings ↔ IsLineFor findings recipient q
lines_for findings recipient q = (
  λ h. (h.2.0, subst (Contains findings) h.2.1 h.1, h.2.2),
  λ h. (finding_text_of h.0, h.1, (h.0, refl, h.2)),
)

pub either_same : (A B C N : Type 0) → (N ↔ (A ⊎ B)) → (B ↔ C) → N ↔ (A ⊎ C)
either_same A B C N h same = (
  λ n. elim (h.0 n) [ inl a ↦ inl a | inr b ↦ inr (same.0 b) ],
  λ either. h.1 (elim either [ inl a ↦ inl a | inr c ↦ inr (same.1 c) ]),
)

-- ---- what a recipient itself is
-- one line of a finding has one line for a recipient
pub same_return : (f h : Finding) (recipient : AddressParts) → finding_text_of f ≡ finding_text_of h → return_text_of f recipient ≡ return_text_of h recipient
same_return f h recipient e = sym (line_is f recipient (finding_text_of f) refl) ∙ line_is h recipient (finding_text_of f) e

finding_in : (o : Option Finding) (q : List ℕ) → IsLineIn o q → (finding : Finding) × (o ≡ Some finding) × (q ≡ finding_text_of finding)
finding_in None q h = elim h [ ]
finding_in (Some finding) q h = (finding, refl, h)

-- the lines that are reported of a root
module _ (g : GraphParts) (root : ℕ) (recipient : AddressParts) (found : List (List ℕ)) (reported : (q : List ℕ) → IsTrue (has_text found q) ↔ IsTargetLine g places.Envelope root q) where
  finding_of : (q : List ℕ) → Contains found q → (finding : Finding) × (option_and_then (target_finding places.Envelope) (slice_get g.nodes root) ≡ Some finding) × (q ≡ finding_text_of finding)
  finding_of q c = finding_in (option_and_then (target_finding places.Envelope) (slice_get g.nodes root)) q ((reported q).0 (has_text-Contains found q c))

  pub root_findings : AreFindings found
  root_findings q c = let h = finding_of q c in (h.0, h.2)

  pub root_lines : (q : List ℕ) → IsLineFor found recipient q ↔ IsRootLine g root recipient q
  root_lines q = (
    λ line.
        let h = finding_of (finding_text_of line.0) line.1 in
        (h.0, h.1, line.2 ∙ same_return line.0 h.0 recipient h.2),
    λ line.
        let there : IsTargetLine g places.Envelope root (finding_text_of line.0) = subst (λ (o : Option Finding). IsLineIn o (finding_text_of line.0)) (sym line.1) refl in
        (line.0, Contains-has_text found (finding_text_of line.0) ((reported (finding_text_of line.0)).1 there), line.2),
  )

-- lines that are reported to nothing
pub reported_first : (second found : List (List ℕ)) (P : List ℕ → Type 0) → ((q : List ℕ) → IsTrue (has_text second q) ↔ (IsTrue (has_text [] q) ⊎ P q)) → ((q : List ℕ) → has_text found q ≡ has_text second q) → (q : List ℕ) → IsTrue (has_text found q) ↔ P q
reported_first second found P all same q = (
  λ h. elim ((all q).0 (sym (same q) ∙ h)) [ inl nothing ↦ absurd (let no : ⊥ = cc in no) | inr p ↦ p ],
  λ p. same q ∙ (all q).1 (inr p),
)

-- ---- lines by the numbers of senders
pub each_same : (lists : List (List (List ℕ))) (P : ℕ → List ℕ → Type 0) → ((s : ℕ) (q : List ℕ) → P s q → ⊥) → ReportsEach lists lists P
each_same lists P none = record { long = refl; each = λ s q below. (λ a. inl a, λ either. elim either [ inl a ↦ a | inr p ↦ absurd (none s q p) ]) }

pub each_weaker : (old new : List (List (List ℕ))) (P Q : ℕ → List ℕ → Type 0) → ((s : ℕ) (q : List ℕ) → P s q ↔ Q s q) → ReportsEach old new P → ReportsEach old new Q
each_weaker old new P Q same h = record { long = h.long; each = λ s q below. either_same _ (P s q) (Q s q) _ (h.each s q below) (same s q) }

pub each_then : (first old new : List (List (List ℕ))) (P Q : ℕ → List ℕ → Type 0) → ReportsEach first old P → ReportsEach old new Q → ReportsEach first new (λ s q. P s q ⊎ Q s q)
each_then first old new P Q a b = record {
  long = b.long ∙ a.long;
  each = λ s q below.
      let one = a.each s q below in
      let two = b.each s q (omega (arith, a.long, below)) in (
        λ n. elim (two.0 n) [ inl o ↦ elim (one.0 o) [ inl f ↦ inl f | inr p ↦ inr (inl p) ] | inr x ↦ inr (inr x) ],
        λ either. elim either [ inl f ↦ two.1 (inl (one.1 (inl f))) | inr more ↦ elim more [ inl p ↦ two.1 (inl (one.1 (inr p))) | inr x ↦ two.1 (inr x) ] ],
      );
}

-- the lines of one number are written anew
pub each_set : (lists : List (List (List ℕ))) (n : ℕ) (texts : List (List ℕ)) (P : List ℕ → Type 0) → n < length lists
    → ((q : List ℕ) → IsTrue (has_text texts q) ↔ (IsTrue (has_text (lines_at lists n) q) ⊎ P q)) → ReportsEach lists (set lists n texts) (λ s q. (s ≡ n) × P q)
each_set lists n texts P inside h = record {
  long = length-set lists n texts;
  each = λ s q below.
      elim (cases_eq s n) [
        | inl same ↦
            let here : lines_at (set lists n texts) s ≡ texts = ap (lines_at (set lists n texts)) same ∙ get_or-set_same lists n texts [] inside in
            let old : lines_at lists n ≡ lines_at lists s = ap (lines_at lists) (sym same) in
            let N : List (List ℕ) → Type 0 = λ ts. IsTrue (has_text ts q) ↔ (IsTrue (has_text (lines_at lists s) q) ⊎ ((s ≡ n) × P q)) in
            let O : List (List ℕ) → Type 0 = λ ts. IsTrue (has_text texts q) ↔ (IsTrue (has_text ts q) ⊎ ((s ≡ n) × P q)) in
            subst N (sym here) (subst O old (either_same _ (P q) ((s ≡ n) × P q) _ (h q) (λ p. (same, p), λ p. p.1)))
        | inr apart ↦
            let N : List (List ℕ) → Type 0 = λ ts. IsTrue (has_text ts q) ↔ (IsTrue (has_text (lines_at lists s) q) ⊎ ((s ≡ n) × P q)) in
            subst N (sym (get_or-set_other lists n s texts [] apart)) (λ a. inl a, λ either. elim either [ inl a ↦ a | inr p ↦ absurd (apart p.0) ])
      ];
}

-- ---- one more pair
module _ (g : GraphParts) (undelivered : List (List (List ℕ))) (recipient : AddressParts) where
  -- a pair whose node has no lines
  pub pair_none : (lists : List (List (List ℕ))) (pair : Reached) → lines_at undelivered pair.node ≡ [] → ReportsEach lists lists (λ s q. IsPairLine g undelivered recipient s q pair)
  pair_none lists pair none = each_same lists _ (λ s q p. let c = subst (λ (ls : List (List ℕ)). Contains ls (finding_text_of p.line.0)) none p.line.1 in absurd (omega (arith, c.1)))

  pub pair_lines : (lists : List (List (List ℕ))) (pair : Reached) (texts : List (List ℕ)) → sender_number_after g pair.sender pair.node < length lists
      → ((q : List ℕ) → IsTrue (has_text texts q) ↔ (IsTrue (has_text (lines_at lists (sender_number_after g pair.sender pair.node)) q) ⊎ IsLineFor (lines_at undelivered pair.node) recipient q))
      → ReportsEach lists (set lists (sender_number_after g pair.sender pair.node) texts) (λ s q. IsPairLine g undelivered recipient s q pair)
  pair_lines lists pair texts inside h =
      each_weaker lists _ _ _ (λ s q. (λ p. record { after = p.0; line = p.1 }, λ p. (p.after, p.line))) (each_set lists (sender_number_after g pair.sender pair.node) texts (IsLineFor (lines_at undelivered pair.node) recipient) inside h)

  pub pairs_none : (lists : List (List (List ℕ))) → ReportsEach lists lists (HavePairLine g undelivered [] recipient)
  pairs_none lists = each_same lists _ (λ s q h. absurd (omega (arith, h.1.1)))

  pub pairs_more : (first old new : List (List (List ℕ))) (pairs : List Reached) (i : ℕ) (pair : Reached) → i < length pairs → get_or pairs i pair ≡ pair
      → ReportsEach first old (HavePairLine g undelivered (take i pairs) recipient) → ReportsEach old new (λ s q. IsPairLine g undelivered recipient s q pair) → ReportsEach first new (HavePairLine g undelivered (take (i + 1) pairs) recipient)
  pairs_more first old new pairs i pair inside is a b = record {
    long = b.long ∙ a.long;
    each = λ s q below.
        some_more (IsPairLine g undelivered recipient s q) pairs i pair (IsTrue (has_text (lines_at first s) q)) (IsTrue (has_text (lines_at old s) q)) (IsTrue (has_text (lines_at new s) q)) inside is (a.each s q below) (b.each s q (omega (arith, a.long, below)));
  }

  pub pairs_all : (first old : List (List (List ℕ))) (pairs : List Reached) (i : ℕ) → length pairs ≤ i → ReportsEach first old (HavePairLine g undelivered (take i pairs) recipient) → ReportsEach first old (HavePairLine g undelivered pairs recipient)
  pairs_all first old pairs i past h = subst (λ (ps : List Reached). ReportsEach first old (HavePairLine g undelivered ps recipient)) (take_all i pairs past) h

  -- ---- a recipient
  pub recipient_lines : (root : ℕ) (lists new : List (List (List ℕ))) (texts : List (List ℕ)) (pairs : List Reached) → 0 < length lists
      → ((q : List ℕ) → IsTrue (has_text texts q) ↔ (IsTrue (has_text (lines_at lists 0) q) ⊎ IsRootLine g root recipient q)) → ArePairsFrom g root pairs
      → ReportsEach (set lists 0 texts) new (HavePairLine g undelivered pairs recipient) → ReportsEach lists new (IsLineFrom g undelivered recipient root)
  recipient_lines root lists new texts pairs some rooted are more =
      each_weaker lists new _ _
      (λ s q. (
        λ either. elim either [ inl root_line ↦ inl root_line | inr h ↦ inr (h.0, (are.members h.0).0 h.1, h.2) ],
        λ either. elim either [ inl root_line ↦ inl root_line | inr h ↦ inr (h.0, (are.members h.0).1 h.1, h.2) ],
      ))
      (each_then lists (set lists 0 texts) new _ _ (each_set lists 0 texts (IsRootLine g root recipient) some rooted) more)

-- ---- one more recipient
module _ (g : GraphParts) (undelivered : List (List (List ℕ))) (recipients : List AddressParts) where
  pub places_none : (lists : List (List (List ℕ))) → ReportsEach lists lists (IsLineBefore g undelivered recipients 0)
  places_none lists = each_same lists _ (λ s q h. absurd (omega (arith, h.1)))

  pub places_more : (first old new : List (List (List ℕ))) (k root : ℕ) (recipient : AddressParts) → slice_get recipients k ≡ Some recipient → slice_get g.roots k ≡ Some root
      → ReportsEach first old (IsLineBefore g undelivered recipients k) → ReportsEach old new (IsLineFrom g undelivered recipient root) → ReportsEach first new (IsLineBefore g undelivered recipients (k + 1))
  places_more first old new k root recipient at root_at a b = each_weaker first new _ _ (λ s q. (into s q, out s q)) (each_then first old new _ _ a b) where
    into : (s : ℕ) (q : List ℕ) → IsLineBefore g undelivered recipients k s q ⊎ IsLineFrom g undelivered recipient root s q → IsLineBefore g undelivered recipients (k + 1) s q
    into s q (inl early) = (early.0, omega (arith, early.1), early.2)
    into s q (inr line) = (k, omega arith, record { recipient = recipient; at = at; root = root; root_at = root_at; line = line })

    out : (s : ℕ) (q : List ℕ) → IsLineBefore g undelivered recipients (k + 1) s q → IsLineBefore g undelivered recipients k s q ⊎ IsLineFrom g undelivered recipient root s q
    out s q h =
        elim (cases_lt h.0 k) [
          | inl below ↦ inl (h.0, below, h.2)
          | inr past ↦
              let here : h.0 ≡ k = omega (arith, h.1, past) in
              let l = h.2 in
              let one : l.recipient ≡ recipient = same_Some l.recipient recipient (sym l.at ∙ ap (slice_get recipients) here ∙ at) in
              let two : l.root ≡ root = same_Some l.root root (sym l.root_at ∙ ap (slice_get g.roots) here ∙ root_at) in
              inr (subst (λ (r : ℕ). IsLineFrom g undelivered recipient r s q) two (subst (λ (a : AddressParts). IsLineFrom g undelivered a l.root s q) one l.line))
        ]

-- ---- counting
pub sum_more : (counts : List ℕ) (n : ℕ) → sum (counts ++ n ∷ []) ≡ sum counts + n
sum_more counts n = sum_by_push (λ (x : ℕ). x) counts n

module _ (g : GraphParts) (limit : ℕ) where
  pub counted_none : AreCounted g limit limit 0
  counted_none = record { counts = []; long = refl; spent = let nought : sum [] ≡ 0 = refl in omega arith; each = λ j root below at. absurd (omega (arith, below)) }

  pub counted_more : (left k n root : ℕ) → AreCounted g limit left k → slice_get g.roots k ≡ Some root → n ≤ left → (pairs : List Reached) × ArePairsFrom g root pairs × (length pairs ≡ n) → AreCounted g limit (left - n) (k + 1)
  counted_more left k n root old at few has = record {
    counts = old.counts ++ n ∷ [];
    long = length-append old.counts (n ∷ []) ∙ ap (λ (m : ℕ). m + 1) old.long;
    spent = omega (arith, sum_more old.counts n, old.spent, few);
    each = λ j r below is.
        elim (cases_lt j k) [
          | inl early ↦
              let h = old.each j r early is in
              (h.0, h.1, h.2 ∙ sym (get_or-append old.counts (n ∷ []) 0 j (omega (arith, old.long, early))))
          | inr late ↦
              let here : j ≡ k = omega (arith, below, late) in
              let same : r ≡ root = same_Some r root (sym is ∙ ap (slice_get g.roots) here ∙ at) in
              let last : slice_index (old.counts ++ n ∷ []) j ≡ n = ap (slice_index (old.counts ++ n ∷ [])) (here ∙ sym old.long) ∙ get_or-append_seam old.counts n [] 0 in
              (has.0, subst (λ (x : ℕ). ArePairsFrom g x has.0) (sym same) has.1, has.2 ∙ sym last)
        ];
  }
