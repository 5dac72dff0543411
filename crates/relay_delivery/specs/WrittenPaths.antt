-- Written paths, one behind the other.
use Rattle.std.specs.Prelude.{◌≡◌, ℕ, ◌*◌, ◌<◌, ◌≤◌, List, ◌++◌, flat_map, take, drop, length, slice_index_or, Vec}
use Rattle.std.specs.Global.{Global}
use Rattle.relay_text.specs.Addresses.{path_text_of}
use Rattle.relay_delivery.specs.Groups.{Sender}

-- a text begins with another
abbrev pub Begins : List ℕ → List ℕ → Type 0
Begins text front = (behind : List ℕ) × (text ≡ front ++ behind)

-- the paths of these, in turn
abbrev pub paths_of : List Sender → List ℕ
paths_of senders = flat_map path_text_of senders

-- texts of the paths of so many of these at a time, in turn
pub record AreSharedPaths (senders : List Sender) (size : ℕ) (texts : List (Vec ℕ Global)) : Type 0 where
  pub whole : length senders ≤ length texts * size
  pub each : (n : ℕ) (text : Vec ℕ Global) → n < length texts → (slice_index_or texts n text).items ≡ paths_of (take size (drop (n * size) senders))
