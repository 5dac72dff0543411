use Rattle.std.proofs.Common.{sym, ◌∙◌}
use Rattle.std.specs.Str.{bytes_eq}
use Rattle.relay_chains.proofs.Places.{position-tested}
use Rattle.relay_routes.specs.TableSteps.{pattern_hash}
use Rattle.relay_routes.proofs.PatternRepeats.{alike}
use Rattle.relay_routes.proofs.transport_table.place_of.Goals as goal

pub returns : goal.returns
returns c =
    position-tested (λ e. bytes_eq c.args.pattern.now e.pattern) c.args.entries.now (pattern_hash c.args.key) c.hash_text.result c.find.result
    (λ e same. alike c.args.key c.args.pattern.now e same ∙ sym c.hash_text.ensures)
    (rw c.requires at c.find.ensures.found) (rw c.requires at c.find.ensures.before)
