use Rattle.std.proofs.Common.{◌≡◌, ℕ, ◌<◌, length, subst, sym, ap, ◌∙◌}
use Rattle.std.specs.Prelude.{unwrap_or}
use Rattle.std.proofs.lemmas.List.{length-map}
use Rattle.relay_tables.specs.Indices.{name_hash}
use Rattle.relay_tables.proofs.Owned.{named_found, named_before}
use Rattle.relay_tables.proofs.owning.named_from.Goals as goal

pub returns-clause-found : goal.returns-clause-found
returns-clause-found c =
    let count : length c.args.links.now ≡ length c.args.entries.now = ap length c.requires.hashed ∙ length-map c.args.entries.now (name_hash c.args.key) in
    named_found c.args.entries.now c.args.links.now c.args.name.now c.args.hash c.args.start c.find.result count c.find.ensures.found

pub returns-clause-before : goal.returns-clause-before
returns-clause-before c =
    let count : length c.args.links.now ≡ length c.args.entries.now = ap length c.requires.hashed ∙ length-map c.args.entries.now (name_hash c.args.key) in
    λ k e from below here. named_before c.args.entries.now c.args.links.now c.args.name.now c.args.key c.args.hash c.args.start
    (unwrap_or c.find.result (length c.args.links.now)) k e c.requires.hashed c.requires.hash c.find.ensures.before from
    (subst (λ (n : ℕ). k < unwrap_or c.find.result n) (sym count) below) here
