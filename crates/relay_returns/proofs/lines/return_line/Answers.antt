use Rattle.std.proofs.Common.{◌≡◌, ◌-◌, take, drop, length, ap, arith}
use Rattle.std.proofs.lemmas.List.{take_all, length-drop}
use Rattle.relay_returns.proofs.LineFacts.{head_within, line_is}
use Rattle.relay_returns.proofs.lines.return_line.Goals as goal

pub returns : goal.returns
returns c = λ finding is.
    let line = c.args.finding_line.now in
    let past : c.min.result ≡ 8 = omega (arith, c.min.ensures, head_within finding, ap length is) in
    let behind : take (length line - 8) (drop 8 line) ≡ drop 8 line = take_all (length line - 8) (drop 8 line) (omega (arith, length-drop 8 line)) in
    rw (c.in_ok-write_path.ensures.ok, c.in_ok-extend_from_slice-2.ensures.items, c.in_ok-extend_from_slice.ensures.items, c.in_ok-line.ensures.items, past, behind)
    (line_is finding c.args.recipient.now line is)
