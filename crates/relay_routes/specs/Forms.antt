-- What the forms of nexthops that are read in place stand for.
use Rattle.std.specs.Prelude.{ℕ, false, List, [], ◌++◌, codes}
use Rattle.relay_text.specs.Bytes.{folded}
use Rattle.relay_routes.specs.declared.host_form.HostForm.{HostForm}
use Rattle.relay_routes.specs.declared.form.Form.{Form}
use Rattle.relay_routes.specs.declared.form.Form.TheVariants.{Host, Unix}
use Rattle.relay_routes.specs.Nexthops.{Nexthop}

-- the nexthop of a host
abbrev pub hosted : HostForm → Nexthop
hosted form = record { text = folded form.text.now; host = folded form.host.now; port = folded form.port.now; looks_up = form.looks_up }

-- the nexthop of a socket's path
abbrev pub at_path : List ℕ → Nexthop
at_path path = record { text = codes "unix:" ++ path; host = codes "unix:" ++ path; port = []; looks_up = false }

-- the nexthop of a form
abbrev pub nexthop_from : Form → Nexthop
nexthop_from (Host form) = hosted form
nexthop_from (Unix path) = at_path path.now
