-- Told answers, one after another, and the explanations that they tell.
use Rattle.std.proofs.Common.{◌≡◌, ℕ, ◌+◌, ◌<◌, List, [], ◌∷◌, ◌++◌, length, map, codes, Option, sym, ap, ◌∙◌, subst, refl, append_assoc, add-zero, suc, arith}
use Rattle.std.proofs.lemmas.List.{append-nil}
use Rattle.std.specs.List.{enumerate_from}
use Rattle.relay_wire.specs.PlanText.{line, lines_of}
use Rattle.relay_explain.specs.declared.asked.Asked.{Asked}
use Rattle.relay_explain.specs.declared.listed.Listed.{Listed}
use Rattle.relay_explain.specs.Explanations.{Answer}
use Rattle.relay_explain.specs.declared.given_by.GivenBy.{GivenBy}
use Rattle.relay_explain.specs.declared.outcome.Outcome.{Outcome}
use Rattle.relay_explain.specs.declared.decision.Decision.{Decision}
use Rattle.relay_explain.specs.Explanations.{Explanation}
use Rattle.relay_explain.specs.declared.target.Target.{Target}
use Rattle.relay_explain.specs.declared.telling.Telling.{Telling}
use Rattle.relay_explain.specs.declared.told.Told.{Told}
use Rattle.relay_explain.specs.ExplanationText.{step_line, answer_line, answer_text, answers_text, from_line, decision_lines, outcome_lines, explain_line, explanation_text_of, why_not}
use Rattle.relay_explain.specs.PiecedTexts.{text_of}
use Rattle.relay_explain.specs.Tellings.{AreTold, IsTold, IsToldBy, told_text, told_texts}
use Rattle.relay_text.specs.AddressParts.{AddressParts}

-- what an answer adds: a line that is written, pieces, and three texts that are written behind them
pub told_written : (whole written first front pieces after last from second third fourth fifth sixth : List ℕ) → first ≡ written ++ front → after ++ last ≡ (whole ++ first) ++ pieces → second ≡ last ++ from → fourth ≡ second ++ third → sixth ≡ fourth ++ fifth → after ++ sixth ≡ (whole ++ written) ++ (front ++ pieces ++ from ++ third ++ fifth)
told_written whole written first front pieces after last from second third fourth fifth sixth at_first at_pieces at_from at_third at_fifth =
    let behind : after ++ (((last ++ from) ++ third) ++ fifth) ≡ (after ++ last) ++ (from ++ (third ++ fifth)) = simp append_assoc in
    let all : ((whole ++ (written ++ front)) ++ pieces) ++ (from ++ (third ++ fifth)) ≡ (whole ++ written) ++ (front ++ pieces ++ from ++ third ++ fifth) = simp append_assoc in
    ap (λ (l : List ℕ). after ++ l) (at_fifth ∙ ap (λ (l : List ℕ). l ++ fifth) (at_third ∙ ap (λ (l : List ℕ). l ++ third) at_from))
    ∙ behind
    ∙ ap (λ (l : List ℕ). l ++ (from ++ (third ++ fifth))) (at_pieces ∙ ap (λ (l : List ℕ). (whole ++ l) ++ pieces) at_first)
    ∙ all

grouped : (front steps from decision outcome : List ℕ) → front ++ (steps ++ from) ++ decision ++ outcome ≡ front ++ steps ++ from ++ decision ++ outcome
grouped front steps from decision outcome = simp append_assoc

-- one answer that is told
answer_told : (target : Target) (decision : Option Decision) (number : ℕ) (a : Answer) (t : Told) → IsTold a t → answer_text target decision number a ≡ told_text target decision number t
answer_told target decision number a t is =
    let front : List ℕ = line (answer_line number target) in
    let steps : List ℕ = lines_of (map step_line a.steps) in
    grouped front steps (line (from_line a.from a.given_by)) (decision_lines decision) (outcome_lines a.outcome)
    ∙ ap (λ (l : List ℕ). front ++ l ++ line (from_line a.from a.given_by) ++ decision_lines decision ++ outcome_lines a.outcome) (sym is.lines)
    ∙ ap (λ (s : Option AddressParts). front ++ text_of t.lines ++ line (from_line s a.given_by) ++ decision_lines decision ++ outcome_lines a.outcome) (sym is.from)
    ∙ ap (λ (g : GivenBy). front ++ text_of t.lines ++ line (from_line t.from g) ++ decision_lines decision ++ outcome_lines a.outcome) (sym is.given_by)
    ∙ ap (λ (o : Option Outcome). front ++ text_of t.lines ++ line (from_line t.from t.given_by) ++ decision_lines decision ++ outcome_lines o) (sym is.outcome)

-- all of them, from a number on
answers_told : (target : Target) (decision : Option Decision) (number : ℕ) (answers : List Answer) (told : List Told) → AreTold answers told → answers_text target decision (enumerate_from number answers) ≡ told_texts target decision (enumerate_from number told)
answers_told target decision number [] [] are = refl
answers_told target decision number [] (t ∷ told) are = absurd are
answers_told target decision number (a ∷ answers) [] are = absurd are
answers_told target decision number (a ∷ answers) (t ∷ told) are =
    ap (λ (l : List ℕ). l ++ answers_text target decision (enumerate_from (number + 1) answers)) (answer_told target decision number a t are.0)
    ∙ ap (λ (l : List ℕ). told_text target decision number t ++ l) (answers_told target decision (number + 1) answers told are.1)

-- one more
pub told_more : (target : Target) (decision : Option Decision) (number : ℕ) (told : List Told) (t : Told) → told_texts target decision (enumerate_from number (told ++ t ∷ [])) ≡ told_texts target decision (enumerate_from number told) ++ told_text target decision (number + length told) t
told_more target decision number [] t = append-nil (told_text target decision number t) ∙ ap (λ (n : ℕ). told_text target decision n t) (sym (add-zero number))
told_more target decision number (u ∷ told) t =
    let next : (number + 1) + length told ≡ number + length (u ∷ told) = omega arith in
    ap (λ (l : List ℕ). told_text target decision number u ++ l) (told_more target decision (number + 1) told t ∙ ap (λ (n : ℕ). told_texts target decision (enumerate_from (number + 1) told) ++ told_text target decision n t) next)
    ∙ sym (append_assoc (told_text target decision number u) (told_texts target decision (enumerate_from (number + 1) told)) (told_text target decision (number + length (u ∷ told)) t))

-- as many are told
pub as_many : (answers : List Answer) (told : List Told) → AreTold answers told → length answers ≡ length told
as_many [] [] are = refl
as_many [] (t ∷ told) are = absurd are
as_many (a ∷ answers) [] are = absurd are
as_many (a ∷ answers) (t ∷ told) are = ap suc (as_many answers told are.1)

-- ---- why there is no answer
pub why_some : (unreached : List Listed) (target : Target) (list : List Answer) (count : ℕ) → length list ≡ count → 0 < count → why_not unreached target list ≡ []
why_some unreached target [] count long some = absurd (omega (arith, long, some))
why_some unreached target (a ∷ list) count long some = refl

pub why_none : (unreached : List Listed) (target : Target) (list : List Answer) (count : ℕ) → length list ≡ count → (0 < count → ⊥) → why_not unreached target list ≡ why_not unreached target []
why_none unreached target [] count long none = refl
why_none unreached target (a ∷ list) count long none = absurd (none (omega (arith, long)))

-- ---- the text of an explanation that is told
pub telling_written : (whole written first front texts after last why third fourth fifth : List ℕ) → whole ++ written ≡ [] → first ≡ written ++ front → after ++ last ≡ (whole ++ first) ++ texts → third ≡ last ++ why → fifth ≡ third ++ fourth → after ++ fifth ≡ front ++ texts ++ why ++ fourth
telling_written whole written first front texts after last why third fourth fifth none at_first at_texts at_why at_end =
    let behind : after ++ ((last ++ why) ++ fourth) ≡ (after ++ last) ++ (why ++ fourth) = simp append_assoc in
    let all : ((whole ++ (written ++ front)) ++ texts) ++ (why ++ fourth) ≡ (whole ++ written) ++ (front ++ texts ++ why ++ fourth) = simp append_assoc in
    ap (λ (l : List ℕ). after ++ l) (at_end ∙ ap (λ (l : List ℕ). l ++ fourth) at_why)
    ∙ behind
    ∙ ap (λ (l : List ℕ). l ++ (why ++ fourth)) (at_texts ∙ ap (λ (l : List ℕ). (whole ++ l) ++ texts) at_first)
    ∙ all
    ∙ ap (λ (l : List ℕ). l ++ (front ++ texts ++ why ++ fourth)) none

same_why : (e : Explanation) (t : Telling) → IsToldBy e t → why_not t.unreached t.stands_for e.answers ≡ why_not e.unreached e.stands_for e.answers
same_why e t is = subst (λ (g : Target). why_not t.unreached t.stands_for e.answers ≡ why_not e.unreached g e.answers) is.stands_for (subst (λ (u : List Listed). why_not t.unreached t.stands_for e.answers ≡ why_not u t.stands_for e.answers) is.unreached refl)

same_texts : (e : Explanation) (t : Telling) → IsToldBy e t → told_texts t.target t.decision (enumerate_from 1 t.answers) ≡ answers_text e.target e.decision (enumerate_from 1 e.answers)
same_texts e t is =
    ap (λ (g : Target). told_texts g t.decision (enumerate_from 1 t.answers)) is.target
    ∙ ap (λ (d : Option Decision). told_texts e.target d (enumerate_from 1 t.answers)) is.decision
    ∙ sym (answers_told e.target e.decision 1 e.answers t.answers is.answers)

same_first : (e : Explanation) (t : Telling) → IsToldBy e t → line (explain_line t.asked (length t.answers)) ≡ line (explain_line e.asked (length e.answers))
same_first e t is = ap (λ (q : Asked). line (explain_line q (length t.answers))) is.asked ∙ ap (λ (n : ℕ). line (explain_line e.asked n)) (sym (as_many e.answers t.answers is.answers))

pub same_whole : (a b c d x y end : List ℕ) → a ≡ b → c ≡ d → x ≡ y → a ++ c ++ x ++ end ≡ b ++ d ++ y ++ end
same_whole a b c d x y end p q r = ap (λ (l : List ℕ). l ++ c ++ x ++ end) p ∙ ap (λ (l : List ℕ). b ++ l ++ x ++ end) q ∙ ap (λ (l : List ℕ). b ++ d ++ l ++ end) r

pub text_told : (e : Explanation) (t : Telling) → IsToldBy e t → line (explain_line t.asked (length t.answers)) ++ told_texts t.target t.decision (enumerate_from 1 t.answers) ++ why_not t.unreached t.stands_for e.answers ++ line (codes "end") ≡ explanation_text_of e
text_told e t is = same_whole _ _ _ _ _ _ (line (codes "end")) (same_first e t is) (same_texts e t is) (same_why e t is)
