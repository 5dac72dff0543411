use Rattle.std.proofs.Common.{◌≡◌, ◌++◌}
use Rattle.relay_aliasfile.proofs.aliases.both_files.Goals as goal

pub returns : goal.returns
returns c =
    let entries : c.of.result ≡ c.in-Ok.first.entries ++ c.in-Ok-there.second.entries = cc (c.of.ensures, c.in_ok-append.ensures.items, c.into_vec-entries.ensures, c.into_vec.ensures) in
    let faults : c.of-2.result ≡ c.in-Ok.first.faults ++ c.in-Ok-there.second.faults = cc (c.of-2.ensures, c.in_ok-append-2.ensures.items, c.into_vec-faults.ensures, c.into_vec-2.ensures) in
    rw (c.in-Ok.is, c.in-Ok-there.is) (cc)
