use Rattle.std.proofs.Common.{sym, ap, ◌∙◌}
use Rattle.std.specs.Str.{bytes_eq}
use Rattle.std.proofs.lemmas.Slice.Eq.{bytes_eq-Decides}
use Rattle.relay_chains.specs.TextHash.{text_hash}
use Rattle.relay_chains.proofs.Places.{position-tested}
use Rattle.relay_tables.proofs.indexing.place_named.Goals as goal

pub returns : goal.returns
returns g c =
    position-tested (λ item. bytes_eq c.args.name.now (g.T.Named.name_in item)) c.args.items.now (λ item. text_hash c.args.key (g.T.Named.name_in item)) c.hash_text.result c.find.result
    (λ item same. ap (text_hash c.args.key) (sym ((bytes_eq-Decides c.args.name.now (g.T.Named.name_in item)).0 same)) ∙ sym c.hash_text.ensures)
    (rw c.requires at c.find.ensures.found) (rw c.requires at c.find.ensures.before)
