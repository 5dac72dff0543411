use Rattle.relay_text.proofs.QuoteMarks.{quoted_cut-closed, quoted_cut-open}
use Rattle.relay_text.proofs.cut.Cut.quoted.Goals as goal

pub returns-then-place-bytes : goal.returns-then-place-bytes
returns-then-place-bytes c = quoted_cut-closed c.args.bytes.now c.closing_place-place.result c.closing_place-place.ensures.place c.if-place-bytes.true

pub returns-else-place-bytes : goal.returns-else-place-bytes
returns-else-place-bytes c = quoted_cut-open c.args.bytes.now c.closing_place-place.result c.closing_place-place.ensures.place c.if-place-bytes.false c.closing_place-place.ensures.within
