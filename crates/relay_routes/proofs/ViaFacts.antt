-- What a setting says where it is cut at its first colon.
use Rattle.std.proofs.Common.{◌≡◌, ℕ, ◌-◌, ◌<◌, ◌≤◌, Bool, true, false, not, cond, List, length, take, drop, sym, ap, ◌∙◌}
use Rattle.std.specs.Prelude.{Option, Some, None, option_map, option_and_then, is_some}
use Rattle.std.specs.List.{position_or_len, before_first, after_first}
use Rattle.relay_routes.specs.declared.transport.Transport.{Transport}
use Rattle.relay_routes.specs.declared.via.Via.{Via}
use Rattle.relay_routes.specs.Transports.{transport_named, is_colon}
use Rattle.relay_routes.specs.declared.form.Form.{Form}
use Rattle.relay_routes.specs.Nexthops.{Nexthop, via_setting_of, with_nexthop, nexthop_of}
use Rattle.relay_routes.specs.Forms.{nexthop_from}
use Rattle.relay_routes.proofs.Readings.{any_left, none_left, all_before, left_over}

abbrev pub bare : Transport → Via
bare transport = record { transport = transport; nexthop = None }

abbrev pub to : Transport → List ℕ → Option Via
to transport nexthop = Some (record { transport = transport; nexthop = Some nexthop })

abbrev setting : Bool → List ℕ → Option Via
setting colon text = cond colon (option_and_then (with_nexthop (after_first is_colon text)) (transport_named (before_first is_colon text))) (option_map bare (transport_named text))

-- nothing is left behind the transport's name
at_end : (text : List ℕ) → length (drop (position_or_len is_colon text) text) < 1 → via_setting_of text ≡ option_map bare (transport_named (before_first is_colon text))
at_end text h =
    ap (λ t. setting t text) (none_left is_colon text h)
    ∙ ap (λ t. option_map bare (transport_named t)) (sym (all_before is_colon text h))

-- a colon and a nexthop are left
at_colon : (text : List ℕ) → (let left = drop (position_or_len is_colon text) text in 1 ≤ length left → via_setting_of text ≡ option_and_then (with_nexthop (take (length left - 1) (drop 1 left))) (transport_named (before_first is_colon text)))
at_colon text h =
    ap (λ t. setting t text) (any_left is_colon text h)
    ∙ ap (λ t. option_and_then (with_nexthop t) (transport_named (before_first is_colon text))) (sym (left_over is_colon text))

-- the same of what is cut off
pub via_bare : (text name left : List ℕ) (place : ℕ) → place ≡ position_or_len is_colon text → name ≡ take place text → left ≡ drop place text → length left < 1 → via_setting_of text ≡ option_map bare (transport_named name)
via_bare text name left place at front back h =
    let left_is : left ≡ drop (position_or_len is_colon text) text = back ∙ ap (λ n. drop n text) at in
    let short : length (drop (position_or_len is_colon text) text) < 1 = rw (← left_is) h in
    at_end text short ∙ ap (λ t. option_map bare (transport_named t)) (sym (front ∙ ap (λ n. take n text) at))

pub via_to : (text name left : List ℕ) (place : ℕ) → place ≡ position_or_len is_colon text → name ≡ take place text → left ≡ drop place text → 1 ≤ length left → via_setting_of text ≡ option_and_then (with_nexthop (take (length left - 1) (drop 1 left))) (transport_named name)
via_to text name left place at front back h =
    let left_is : left ≡ drop (position_or_len is_colon text) text = back ∙ ap (λ n. drop n text) at in
    let long : 1 ≤ length (drop (position_or_len is_colon text) text) = rw (← left_is) h in
    at_colon text long
    ∙ ap (λ t. option_and_then (with_nexthop t) (transport_named (before_first is_colon text))) (ap (λ left. take (length left - 1) (drop 1 left)) (sym left_is))
    ∙ ap (λ t. option_and_then (with_nexthop (take (length left - 1) (drop 1 left))) (transport_named t)) (sym (front ∙ ap (λ n. take n text) at))

-- whether a nexthop of the transport's forms is named
form_is : (form : Option Form) (named : Option Nexthop) → option_map nexthop_from form ≡ named → is_some form ≡ is_some named
form_is None named h = ap is_some h
form_is (Some form) named h = ap is_some h

pub via_refused : (transport : Transport) (nexthop : List ℕ) (name : List ℕ) (given : Option Via) (form : Option Form) (none : Bool) → given ≡ option_and_then (with_nexthop nexthop) (transport_named name) → Some transport ≡ transport_named name → option_map nexthop_from form ≡ nexthop_of transport nexthop → is_some form ≡ not none → none ≡ true → None ≡ given
via_refused transport nexthop name given form none is named reads test result =
    let known : is_some (nexthop_of transport nexthop) ≡ false = sym (form_is form _ reads) ∙ test ∙ ap not result in
    sym (is ∙ ap (option_and_then (with_nexthop nexthop)) (sym named) ∙ ap (λ t. cond t (to transport nexthop) None) known)

pub via_taken : (transport : Transport) (nexthop : List ℕ) (name : List ℕ) (given : Option Via) (form : Option Form) (none : Bool) → given ≡ option_and_then (with_nexthop nexthop) (transport_named name) → Some transport ≡ transport_named name → option_map nexthop_from form ≡ nexthop_of transport nexthop → is_some form ≡ not none → none ≡ false → to transport nexthop ≡ given
via_taken transport nexthop name given form none is named reads test result =
    let known : is_some (nexthop_of transport nexthop) ≡ true = sym (form_is form _ reads) ∙ test ∙ ap not result in
    sym (is ∙ ap (option_and_then (with_nexthop nexthop)) (sym named) ∙ ap (λ t. cond t (to transport nexthop) None) known)
