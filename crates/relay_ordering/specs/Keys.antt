-- Values beside what they are sorted by.
use Rattle.std.specs.Prelude.{◌≡◌, List, IfSome, IsTrue, Option}
use Rattle.std.specs.declared.cmp.Ordering.{Ordering}
use Rattle.relay_text.specs.AddressParts.{AddressParts}
use Rattle.relay_text.specs.Addresses.{is_address, path_text_of}
use Rattle.relay_text.specs.TextSets.{text_cmp}
use Rattle.relay_ordering.specs.declared.keyed.Keyed.{Keyed}

-- values by the bytes of their senders' paths
abbrev pub sender_cmp : {V : Type 0} → (V → Option AddressParts) → V → V → Ordering
sender_cmp sender_of a b = text_cmp (path_text_of (sender_of a)) (path_text_of (sender_of b))

-- the path is that of the value's sender, which is an address within the limits or none
pub record IsKeyed {V : Type 0} (sender_of : V → Option AddressParts) (key : Keyed V) : Type 0 where
  pub path : key.path.items ≡ path_text_of (sender_of key.value)
  pub valid : IfSome (sender_of key.value) (λ a. IsTrue (is_address a))
