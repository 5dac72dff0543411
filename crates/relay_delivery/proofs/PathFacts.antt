-- Written paths, one behind the other: one more is written, and the first is split off.
use Rattle.std.proofs.Common.{◌≡◌, ℕ, ◌+◌, ◌<◌, ◌≤◌, List, [], ◌∷◌, ◌++◌, length, get_or, take, drop, sym, ap, ◌∙◌, add-one, drop-cons}
use Rattle.std.proofs.lemmas.List.{take_more, take_all, flat_map_more}
use Rattle.relay_text.specs.Addresses.{path_text_of}
use Rattle.relay_delivery.specs.Groups.{Sender}
use Rattle.relay_delivery.specs.WrittenPaths.{Begins, paths_of}

module _ (senders : List Sender) (i : ℕ) (x : Sender) (inside : i < length senders) (is : x ≡ get_or senders i x) where
  -- the path of one more
  pub paths_more : (paths more : List ℕ) → paths ≡ paths_of (take i senders) → more ≡ paths ++ path_text_of x → more ≡ paths_of (take (i + 1) senders)
  paths_more paths more so_far more_is =
      more_is ∙ ap (λ ps. ps ++ path_text_of x) so_far ∙ flat_map_more path_text_of [] (take i senders) x
      ∙ ap (λ y. paths_of (take i senders ++ y ∷ [])) is ∙ ap paths_of (sym (take_more senders i x inside))

  -- the paths from this one on
  pub paths_here : paths_of (drop i senders) ≡ path_text_of x ++ paths_of (drop (i + 1) senders)
  paths_here = ap paths_of (here ∙ ap (λ y. y ∷ drop (i + 1) senders) (sym is)) where
    here : drop i senders ≡ get_or senders i x ∷ drop (i + 1) senders
    here = rw (add-one) (drop-cons senders i x inside)

  pub paths_begin : (rest : List ℕ) → rest ≡ paths_of (drop i senders) → Begins rest (path_text_of x)
  paths_begin rest left = (paths_of (drop (i + 1) senders), left ∙ paths_here)

  pub paths_behind : (rest behind : List ℕ) → rest ≡ paths_of (drop i senders) → ((b : List ℕ) → rest ≡ path_text_of x ++ b → behind ≡ b) → behind ≡ paths_of (drop (i + 1) senders)
  paths_behind rest behind left is_behind = is_behind (paths_of (drop (i + 1) senders)) (left ∙ paths_here)

pub paths_all : (senders : List Sender) (i : ℕ) (paths : List ℕ) → length senders ≤ i → paths ≡ paths_of (take i senders) → paths ≡ paths_of senders
paths_all senders i paths past is = is ∙ ap paths_of (take_all i senders past)
