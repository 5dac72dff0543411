use Rattle.std.proofs.Common.{Some, None, take, arith}
use Rattle.relay_aliasfile.specs.ListCuts.{HasNoQuotes}
use Rattle.relay_aliasfile.proofs.CutLists.{first_quote, no_quotes, quotes_before, texts_before}
use Rattle.relay_aliasfile.proofs.list_cuts.unquoted_front.Goals as goal

pub returns-in_default-clause-quotes : goal.returns-in_default-clause-quotes
returns-in_default-clause-quotes c = no_quotes c.args.list.now (first_quote c.args.list.now None c.in_default.ensures)

pub returns-clause-quotes : goal.returns-clause-quotes
returns-clause-quotes c =
    let list = c.args.list.now in
    let quote = first_quote list (Some c.in-Some.quote) c.in-Some.ensures in
    let comma = c.in-Some-rfind_byte.ensures in
    quotes_before list c.in-Some.quote c.in-Some-rfind_byte.comma quote.0.before (omega (arith, quote.0.high)) comma.0.high

pub returns-clause-texts : goal.returns-clause-texts
returns-clause-texts c =
    let list = c.args.list.now in
    let quote = first_quote list (Some c.in-Some.quote) c.in-Some.ensures in
    let comma = c.in-Some-rfind_byte.ensures in
    let quotes : HasNoQuotes (take c.in-Some-rfind_byte.comma list) = quotes_before list c.in-Some.quote c.in-Some-rfind_byte.comma quote.0.before (omega (arith, quote.0.high)) comma.0.high in
    texts_before list c.in-Some.quote c.in-Some-rfind_byte.comma quotes comma.0.high comma.1
