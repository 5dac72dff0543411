use Rattle.std.proofs.Common.{◌≡◌, ◌-◌, ◌/◌, [], ◌∷◌, ◌++◌, length}
use Rattle.std.specs.List.{fold}
use Rattle.relay_chains.specs.TextHash.{joined, words, last_word, multiplier_of, hash_of, text_hash}
use Rattle.relay_chains.proofs.text_hash.hash_text.Given as goal

abbrev pub invariant-words : goal.invariant-words
invariant-words l = hash_of (fold (joined (multiplier_of l.key)) l.state (words ((length l.rest - 1) / 8) l.rest ++ last_word l.text ∷ [])) ≡ text_hash l.key l.text

abbrev pub decreases-words : goal.decreases-words
decreases-words l = length l.rest
