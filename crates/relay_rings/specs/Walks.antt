-- What a `Walk` still has to give.
use Rattle.std.specs.Prelude.{ℕ, List}
use Rattle.relay_rings.specs.declared.walking.Walk.{Walk}
use Rattle.relay_rings.specs.Links.{items_from}

-- the items that are left
abbrev pub walk_rest : Walk → List ℕ
walk_rest w = items_from w.nodes.now w.next w.left
