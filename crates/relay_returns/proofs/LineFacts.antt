-- A finding's line, and the same words for a recipient.
use Rattle.std.proofs.Common.{◌≡◌, ◌≤◌, ℕ, List, [], ◌∷◌, ◌++◌, codes, length, drop, Some, refl, sym, ap, ◌∙◌, append_assoc, arith}
use Rattle.std.proofs.lemmas.List.{length-append}
use Rattle.relay_text.specs.AddressParts.{AddressParts}
use Rattle.relay_text.specs.Addresses.{path_text_of}
use Rattle.relay_wire.specs.declared.finding.Finding.{Finding}
use Rattle.relay_wire.specs.declared.finding.Finding.TheVariants.{Missing, NoInclude, File, Command, EmptyAlias, EmptyInclude, LoopAlias, LoopInclude, Unrouted, Aliases, Include, Mailboxes, Mx, Transport}
use Rattle.relay_wire.specs.Findings.{spaced, finding_words, finding_text_of}
use Rattle.relay_returns.specs.Returns.{return_text_of}

-- some words, of which there is at least one
record HasWords (words : List (List ℕ)) : Type 0 where
  pub first : List ℕ
  pub more : List (List ℕ)
  pub is : words ≡ first ∷ more

of_words : (first : List ℕ) (more : List (List ℕ)) → HasWords (first ∷ more)
of_words first more = record { first = first; more = more; is = refl }

words_of : (f : Finding) → HasWords (finding_words f)
words_of (Missing name place) = of_words _ _
words_of (NoInclude path place) = of_words _ _
words_of (File path place) = of_words _ _
words_of (Command text place) = of_words _ _
words_of (EmptyAlias name) = of_words _ _
words_of (EmptyInclude path) = of_words _ _
words_of (LoopAlias name) = of_words _ _
words_of (LoopInclude path) = of_words _ _
words_of (Unrouted a reason) = of_words _ _
words_of (Aliases number word) = of_words _ _
words_of (Include path number word) = of_words _ _
words_of (Mailboxes number word) = of_words _ _
words_of (Mx number word) = of_words _ _
words_of (Transport number word) = of_words _ _

two_behind : (w : List ℕ) (ws : List (List ℕ)) (v p : List ℕ) → spaced ((w ∷ ws) ++ v ∷ p ∷ []) ≡ spaced (w ∷ ws) ++ (32 ∷ (v ++ (32 ∷ p)))
two_behind w [] v p = refl
two_behind w (x ∷ xs) v p =
    ap (λ l. w ++ (32 ∷ l)) (two_behind x xs v p) ∙ sym (append_assoc w (32 ∷ spaced (x ∷ xs)) (32 ∷ (v ++ (32 ∷ p))))

-- behind the word `finding` and its space stand the words
module _ (f : Finding) where
  headed : finding_text_of f ≡ codes "finding " ++ spaced (finding_words f)
  headed = let w = words_of f in ap (λ ws. spaced (codes "finding" ∷ ws)) w.is ∙ ap (λ ws. codes "finding " ++ spaced ws) (sym w.is)

  pub past_head : drop 8 (finding_text_of f) ≡ spaced (finding_words f)
  past_head = ap (drop 8) headed

  pub head_within : 8 ≤ length (finding_text_of f)
  head_within = omega (arith, ap length headed, length-append (codes "finding ") (spaced (finding_words f)))

  pub line_is : (recipient : AddressParts) (text : List ℕ) → text ≡ finding_text_of f → (drop 8 text ++ codes " for ") ++ path_text_of (Some recipient) ≡ return_text_of f recipient
  line_is recipient text e =
      let w = words_of f in
      let path = path_text_of (Some recipient) in
      append_assoc (drop 8 text) (codes " for ") path
      ∙ ap (λ t. t ++ (codes " for " ++ path)) (ap (drop 8) e ∙ past_head ∙ ap spaced w.is)
      ∙ sym (two_behind w.first w.more (codes "for") path)
      ∙ ap (λ ws. spaced (ws ++ codes "for" ∷ path ∷ [])) (sym w.is)
