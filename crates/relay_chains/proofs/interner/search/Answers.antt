use Rattle.std.proofs.Common.{◌≡◌, [], length, arith}
use Rattle.std.specs.Str.{bytes_eq}
use Rattle.std.proofs.lemmas.Slice.Eq.{bytes_eq-Decides}
use Rattle.std.proofs.lemmas.List.{length-map}
use Rattle.relay_chains.specs.Interner.{texts_from}
use Rattle.relay_chains.specs.TextHash.{text_hash}
use Rattle.relay_chains.proofs.Places.{number_of-last}
use Rattle.relay_chains.proofs.Texts.{length-texts}
use Rattle.relay_chains.proofs.interner.search.Goals as goal

pub find_last-requires : goal.find_last-requires
find_last-requires c =
    let texts = texts_from c.args.bytes.now 0 c.args.ends.now in
    let count : length c.args.links.now ≡ length texts = rw c.requires.hashed (length-map texts (text_hash c.args.key)) in
    λ k below. (c.requires.cut, omega (arith, count, length-texts c.args.bytes.now 0 c.args.ends.now))

pub returns : goal.returns
returns c =
    number_of-last bytes_eq bytes_eq-Decides (texts_from c.args.bytes.now 0 c.args.ends.now) c.args.text.now [] (text_hash c.args.key) c.find_last.result c.requires.distinct
    (rw (c.requires.hashed, c.requires.hash) at c.find_last.ensures.found) (rw (c.requires.hashed, c.requires.hash) at c.find_last.ensures.after)
