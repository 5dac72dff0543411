use Rattle.std.proofs.Common.{◌≡◌, take}
use Rattle.relay_text.specs.HashedTexts.{text_hash}
use Rattle.relay_text.proofs.hashed_text.hash_of.Given as goal

-- the hash of the bytes so far
abbrev pub invariant-loop-byte : goal.invariant-loop-byte
invariant-loop-byte l = l.hash ≡ text_hash (take l.byte-index l.text)
