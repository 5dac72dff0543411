use Rattle.std.proofs.Common.{ℕ, List, ap, ◌∙◌}
use Rattle.relay_text.specs.Bytes.{has_text}
use Rattle.relay_tables.proofs.indexing.Indices.of.Goals as goal

pub returns : goal.returns
returns c = record {
  lawful = c.requires.lawful;
  marked = c.marks_of-marks.ensures;
  indices = record {
    domain = λ text. c.in_ok-domains.ensures text ∙ ap (λ (ts : List (List ℕ)). has_text ts text) c.as_slice.ensures;
    alias = c.in_ok-aliases.ensures;
    include = c.in_ok-includes.ensures;
    mailbox = c.in_ok-mailboxes.ensures;
  };
  owners = c.in_ok-owners.ensures;
}
