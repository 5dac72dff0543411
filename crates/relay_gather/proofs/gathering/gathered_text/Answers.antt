use Rattle.std.proofs.Common.{◌≡◌, ℕ, List}
use Rattle.std.proofs.lemmas.Result.{err_from_is_err_and}
use Rattle.relay_gather.specs.Source.{Answer}
use Rattle.relay_gather.proofs.Joining.{same_answers}
use Rattle.relay_gather.proofs.FilesKept.{whole_has_files}
use Rattle.relay_gather.proofs.NamedSections.{whole, refuses_back}
use Rattle.relay_gather.proofs.gathering.gathered_text.Goals as goal

pub returns-in_err-put_later-clause-refused : goal.returns-in_err-put_later-clause-refused
returns-in_err-put_later-clause-refused g c =
    let answer : List ℕ → Answer = g.D.Source.answer c.args.source.now in
    let files = c.args.paths.now in
    let p = err_from_is_err_and c.from_residual-in_err-put_later.result c.from_residual-in_err-put_later.ensures.1 in
    let alike : g.D.Source.answer c.put_first.new.source ≡ answer = same_answers c.in_ok-put_first.ensures.alike in
    rw (p.1, p.2)
    (refuses_back answer files c.args.max c.new-gathered.result c.put_first.new.gathered c.in_err-put_later.field-0.0 c.new-gathered.ensures.room c.in_ok-put_first.ensures.ok (rw alike at c.in_err-put_later.ensures.err))

pub returns-clause-has_files : goal.returns-clause-has_files
returns-clause-has_files g c = λ tells.
    let answer : List ℕ → Answer = g.D.Source.answer c.args.source.now in
    let files = c.args.paths.now in
    let alike : g.D.Source.answer c.put_first.new.source ≡ answer = same_answers c.in_ok-put_first.ensures.alike in
    whole_has_files answer files c.args.max c.into_text.result
    (whole answer files c.args.max c.new-gathered.result c.put_first.new.gathered c.put_later.new.gathered c.into_text.result c.new-gathered.ensures.bytes c.new-gathered.ensures.room (c.in_ok-put_first.ensures.ok tells)
    ((rw alike at c.in_ok-put_later.ensures.ok) tells) c.into_text.ensures)

pub returns-clause-gathered : goal.returns-clause-gathered
returns-clause-gathered g c = λ tells.
    let answer : List ℕ → Answer = g.D.Source.answer c.args.source.now in
    let files = c.args.paths.now in
    let alike : g.D.Source.answer c.put_first.new.source ≡ answer = same_answers c.in_ok-put_first.ensures.alike in
    whole answer files c.args.max c.new-gathered.result c.put_first.new.gathered c.put_later.new.gathered c.into_text.result c.new-gathered.ensures.bytes c.new-gathered.ensures.room (c.in_ok-put_first.ensures.ok tells)
    ((rw alike at c.in_ok-put_later.ensures.ok) tells) c.into_text.ensures
