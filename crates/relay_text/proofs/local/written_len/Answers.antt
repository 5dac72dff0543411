use Rattle.std.proofs.Common.{arith, sym, ◌∙◌, rules}
use Rattle.relay_text.proofs.Writing.{plain_text_length, quoted_text_length, quoted_bound, some_since}
use Rattle.relay_text.proofs.local.written_len.Goals as goal

pub returns-then-is_plain : goal.returns-then-is_plain
returns-then-is_plain c = sym (plain_text_length c.args.local.now (sym c.requires.plain ∙ c.if-is_plain.true))

pub returns-else-is_plain : goal.returns-else-is_plain
returns-else-is_plain c = search (rules, quoted_text_length c.args.local.now (sym c.requires.plain ∙ c.if-is_plain.false))

pub unwrap-requires : goal.unwrap-requires
unwrap-requires c = some_since c.quoted_len.result _ c.quoted_len.ensures.none (λ more. omega (arith, quoted_bound c.args.local.now))
