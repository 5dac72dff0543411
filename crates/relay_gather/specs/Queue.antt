-- Paths, each by its first mention.
use Rattle.std.specs.Prelude.{◌≡◌, ℕ, List}
use Rattle.relay_text.specs.Bytes.{has_text}
use Rattle.relay_gather.specs.declared.queue.Queue.{Queue}

-- what was seen are the paths
abbrev pub HasSeen : Queue → Type 0
HasSeen queue = (q : List ℕ) → has_text queue.seen q ≡ has_text queue.paths.items q
