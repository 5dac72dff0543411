-- Worked examples of the definitions, by computation.
use Rattle.std.proofs.Common.{◌≡◌, ◌++◌, ℕ, List, [], ◌∷◌, refl, codes, Some, None, Ok, Err}
use Rattle.relay_text.specs.AddressParts.{AddressParts}
use Rattle.relay_text.specs.Lines.{logical_lines_of}
use Rattle.relay_text.specs.Addresses.{is_domain, spelling_of, local_text_of, split_place_of}
use Rattle.relay_routes.specs.declared.transport.Transport.TheVariants.{Smtp, Relay, Lmtp}
use Rattle.relay_routes.specs.declared.fault.FaultKind.TheVariants.{BadLine, Duplicate}
use Rattle.relay_routes.specs.declared.unrouted.Unrouted.TheVariants.{Domain, MxSelf, Transport, Refused, NullMx}
use Rattle.relay_routes.specs.Transports.{transport_table_of, keys_of}
use Rattle.relay_routes.specs.Nexthops.{via_setting_of}
use Rattle.relay_routes.specs.Exchanges.{mx_table_of, hosts_of}
use Rattle.relay_routes.specs.Routes.{route_to, route_of, route_via_of}
use Rattle.relay_routes.specs.Destinations.{destination_to, destination_of, destination_via_of}
use Rattle.relay_routes.specs.Routing.{Routing}

abbrev pub at : List ℕ → List ℕ → AddressParts
at local domain = record { local = local; domain = domain }

abbrev pub u : List ℕ → AddressParts
u domain = at (codes "u") domain

abbrev pub routing : List ℕ → List ℕ → Routing
routing transports exchanges = record {
  settings = record { own_names = codes "relay.example.org" ∷ codes "example.org" ∷ codes "localhost" ∷ []; delimiter = Some 43; default_transport = Smtp; seed = 0 };
  transports = transport_table_of transports;
  exchanges = mx_table_of exchanges;
}

abbrev pub keyed : Routing
keyed = routing
    (codes "example.net smtp:[gw.example.com]\n.example.net relay:hub.example.com:2525\nb.example.net :\nc.example.net :[gw.example.com]\nd.example.net lmtp:\nu@e.example.net lmtp:inet:h.example.com:24\n* error:no mail\n")
    (codes "b.example.net MX 5 mx.b.example.net\nhub.example.com A\n")

keys : keys_of (at (codes "u+x") (codes "e.example.net")) (Some 43)
    ≡ codes "u+x@e.example.net" ∷ codes "u@e.example.net" ∷ codes "e.example.net" ∷ codes ".example.net" ∷ codes ".net" ∷ codes "*" ∷ []
unfolding local_text_of split_place_of
keys = refl

by_domain : route_of keyed (u (codes "example.net")) ≡ Ok (record { transport = Smtp; nexthop = codes "[gw.example.com]"; hosts = codes "gw.example.com" ∷ [] })
unfolding route_to hosts_of transport_table_of mx_table_of logical_lines_of is_domain spelling_of local_text_of split_place_of
by_domain = refl

by_parent : route_of keyed (u (codes "a.b.example.net")) ≡ Ok (record { transport = Relay; nexthop = codes "hub.example.com:2525"; hosts = codes "hub.example.com:2525" ∷ [] })
unfolding route_to hosts_of transport_table_of mx_table_of logical_lines_of is_domain spelling_of local_text_of split_place_of
by_parent = refl

by_default : route_of keyed (u (codes "b.example.net")) ≡ Ok (record { transport = Smtp; nexthop = codes "b.example.net"; hosts = codes "mx.b.example.net" ∷ [] })
unfolding route_to hosts_of transport_table_of mx_table_of logical_lines_of is_domain spelling_of local_text_of split_place_of
by_default = refl

by_nexthop_alone : route_of keyed (u (codes "c.example.net")) ≡ Ok (record { transport = Smtp; nexthop = codes "[gw.example.com]"; hosts = codes "gw.example.com" ∷ [] })
unfolding route_to hosts_of transport_table_of mx_table_of logical_lines_of is_domain spelling_of local_text_of split_place_of
by_nexthop_alone = refl

by_transport_alone : route_of keyed (u (codes "d.example.net")) ≡ Ok (record { transport = Lmtp; nexthop = codes "d.example.net"; hosts = codes "d.example.net" ∷ [] })
unfolding route_to hosts_of transport_table_of mx_table_of logical_lines_of is_domain spelling_of local_text_of split_place_of
by_transport_alone = refl

by_base_address : route_of keyed (at (codes "u+x") (codes "e.example.net")) ≡ Ok (record { transport = Lmtp; nexthop = codes "inet:h.example.com:24"; hosts = codes "h.example.com:24" ∷ [] })
unfolding route_to hosts_of transport_table_of mx_table_of logical_lines_of is_domain spelling_of local_text_of split_place_of
by_base_address = refl

by_star : route_of keyed (u (codes "example.com")) ≡ Err (Refused (codes "no mail"))
unfolding route_to hosts_of transport_table_of mx_table_of logical_lines_of is_domain spelling_of local_text_of split_place_of
by_star = refl

abbrev pub mail : List ℕ → Routing
mail exchanges = routing [] exchanges

abbrev pub six : List ℕ → List ℕ
six own = codes "example.net MX 20 c.example.net\nexample.net MX 10 a.example.net\nexample.net MX 20 b.example.net\nexample.net MX 20 c.example.net\nexample.net MX " ++ own ++ codes " relay.example.org\nexample.net MX 40 d.example.net\n"

abbrev pub own : List (List ℕ)
own = (mail []).settings.own_names

in_order : hosts_of (mx_table_of (six (codes "30"))) (codes "example.net") own 0 ≡ Ok (codes "a.example.net" ∷ codes "c.example.net" ∷ codes "b.example.net" ∷ [])
unfolding hosts_of mx_table_of
in_order = refl

turned : hosts_of (mx_table_of (six (codes "30"))) (codes "example.net") own 1 ≡ Ok (codes "a.example.net" ∷ codes "b.example.net" ∷ codes "c.example.net" ∷ [])
unfolding hosts_of mx_table_of
turned = refl

itself : hosts_of (mx_table_of (six (codes "10"))) (codes "example.net") own 0 ≡ Err MxSelf
unfolding hosts_of mx_table_of
itself = refl

implicit : hosts_of (mx_table_of (codes "p.example.net A\n")) (codes "p.example.net") own 0 ≡ Ok (codes "p.example.net" ∷ [])
unfolding hosts_of mx_table_of
implicit = refl

nowhere : hosts_of (mx_table_of (codes "p.example.net A\n")) (codes "q.example.net") own 0 ≡ Err Domain
unfolding hosts_of mx_table_of
nowhere = refl

null_mx : hosts_of (mx_table_of (codes "example.net MX 0 .\n")) (codes "example.net") own 0 ≡ Err NullMx
unfolding hosts_of mx_table_of
null_mx = refl

null_beside : hosts_of (mx_table_of (codes "example.net MX 0 .\nexample.net MX 10 mx1.example.net\n")) (codes "example.net") own 0 ≡ Ok (codes "mx1.example.net" ∷ [])
unfolding hosts_of mx_table_of
null_beside = refl

no_null : mx_table_of (codes "example.net MX 5 .\n") ≡ record { exchanges = []; addresses = []; faults = record { line = 1; kind = BadLine } ∷ [] }
unfolding mx_table_of
no_null = refl

faulty : (transport_table_of (codes "a..b smtp:\nexample.net smtp:[gw.example.com]\nEXAMPLE.net lmtp:\n")).faults ≡ record { line = 1; kind = BadLine } ∷ record { line = 3; kind = Duplicate } ∷ []
unfolding transport_table_of logical_lines_of is_domain spelling_of local_text_of
faulty = refl

unknown : route_of (routing (codes "example.net uucp:host\n") []) (u (codes "example.net")) ≡ Err Transport
unfolding route_to hosts_of transport_table_of mx_table_of logical_lines_of is_domain spelling_of local_text_of split_place_of
unknown = refl

mailbox_setting : via_setting_of (codes "lmtp:unix:mbox") ≡ Some (record { transport = Lmtp; nexthop = Some (codes "unix:mbox") })
mailbox_setting = refl

empty_nexthop : via_setting_of (codes "lmtp:") ≡ None
empty_nexthop = refl

bare : via_setting_of (codes "lmtp") ≡ Some (record { transport = Lmtp; nexthop = None })
bare = refl

gateway : via_setting_of (codes "smtp:[gw.example.com]:2525") ≡ Some (record { transport = Smtp; nexthop = Some (codes "[gw.example.com]:2525") })
gateway = refl

no_nexthop : via_setting_of (codes "lmtp:") ≡ None
no_nexthop = refl

no_transport : via_setting_of (codes "uucp:host") ≡ None
no_transport = refl

no_socket : via_setting_of (codes "smtp:unix:/mbox") ≡ None
no_socket = refl

inet : via_setting_of (codes "lmtp:inet:h.example.com:24") ≡ Some (record { transport = Lmtp; nexthop = Some (codes "inet:h.example.com:24") })
inet = refl

literal : route_of (mail []) (at (codes "joe") (codes "[192.0.2.1]")) ≡ Ok (record { transport = Smtp; nexthop = codes "[192.0.2.1]"; hosts = codes "192.0.2.1" ∷ [] })
unfolding route_to hosts_of transport_table_of mx_table_of logical_lines_of is_domain spelling_of local_text_of split_place_of
literal = refl

looked_up : route_of (mail []) (u (codes "example.com")) ≡ Err Domain
unfolding route_to hosts_of transport_table_of mx_table_of logical_lines_of is_domain spelling_of local_text_of split_place_of
looked_up = refl

over_lmtp : route_via_of (mail []) (record { transport = Lmtp; nexthop = Some (codes "INET:H.example.com:24") }) (u (codes "example.org")) ≡ Ok (record { transport = Lmtp; nexthop = codes "inet:h.example.com:24"; hosts = codes "h.example.com:24" ∷ [] })
unfolding route_to
over_lmtp = refl

path_kept : route_via_of (mail []) (record { transport = Lmtp; nexthop = Some (codes "UNIX:/var/Run/Mbox") }) (u (codes "example.org")) ≡ Ok (record { transport = Lmtp; nexthop = codes "unix:/var/Run/Mbox"; hosts = codes "unix:/var/Run/Mbox" ∷ [] })
unfolding route_to
path_kept = refl

no_form : route_via_of (mail []) (record { transport = Smtp; nexthop = Some (codes "unix:/mbox") }) (u (codes "example.org")) ≡ Err Transport
unfolding route_to
no_form = refl

port_to_each : route_of (routing (codes "example.net :relay.example.com:25\n") (codes "relay.example.com MX 5 b.example.com\nrelay.example.com MX 1 a.example.com\n")) (u (codes "example.net")) ≡ Ok (record { transport = Smtp; nexthop = codes "relay.example.com:25"; hosts = codes "a.example.com:25" ∷ codes "b.example.com:25" ∷ [] })
unfolding route_to hosts_of transport_table_of mx_table_of logical_lines_of is_domain spelling_of local_text_of split_place_of
port_to_each = refl

to_parent : destination_of keyed (u (codes "a.b.example.net")) ≡ Ok (record { transport = Relay; nexthop = codes "hub.example.com:2525" })
unfolding destination_to transport_table_of logical_lines_of is_domain spelling_of local_text_of split_place_of
to_parent = refl

to_folded_host : destination_via_of (record { transport = Lmtp; nexthop = Some (codes "INET:H.example.com:24") }) (u (codes "example.org")) ≡ Ok (record { transport = Lmtp; nexthop = codes "inet:h.example.com:24" })
unfolding destination_to
to_folded_host = refl
