use Rattle.std.proofs.Common.{position, ap, ◌∙◌}
use Rattle.std.specs.Prelude.{is_some}
use Rattle.std.specs.Str.{bytes_eq}
use Rattle.relay_tables.specs.Directory.{Directory}
use Rattle.relay_tables.specs.Targets.{has_mailbox}
use Rattle.relay_tables.proofs.Resolving.{is_some-position}
use Rattle.relay_tables.proofs.tables.Tables.has_mailbox.Goals as goal

pub returns : goal.returns
returns c =
    c.is_some.ensures
    ∙ ap is_some (c.place_named.ensures ∙ ap (position (bytes_eq c.args.name.now)) c.as_slice-names.ensures)
    ∙ is_some-position (bytes_eq c.args.name.now) c.self.inside.mailboxes
    ∙ ap (λ (d : Directory). has_mailbox d c.args.name.now) c.self.view_is
