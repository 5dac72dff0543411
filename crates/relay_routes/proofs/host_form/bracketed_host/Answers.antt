use Rattle.std.proofs.Common.{◌≡◌, ◌-◌, length, take, drop, get_or, refl, sym, ◌∙◌}
use Rattle.relay_routes.specs.Nexthops.{bracketed_host}
use Rattle.relay_routes.proofs.BracketFacts.{bracketed_is, bracketed_found, bracketed_bad_content, bracketed_bad_port}
use Rattle.relay_routes.proofs.host_form.bracketed_host.Goals as goal
use Rattle.relay_routes.proofs.host_form.bracketed_host.Goals.{else-is_literal_content-via-then-is_literal_content+else-is_port, else-is_literal_content-via-else-is_literal_content}

pub returns-then-is_port : goal.returns-then-is_port
returns-then-is_port c =
    let text = c.args.text.now in
    let left = c.split_at.result.1.now in
    let first : get_or text 0 0 ≡ 91 = cc in
    let read = bracketed_is text _ c.split_at.result.0.now left c.place_of.result c.in-91.len_at_least first refl c.place_of.ensures.place c.split_at.ensures.front c.split_at.ensures.back c.in-len1-up.len_at_least in
    bracketed_found text c.split_at.result.0.now (take (length left - 1) (drop 1 left)) (bracketed_host text) read (sym c.is_literal_content.ensures ∙ c.if-is_literal_content.true) (sym c.is_port.ensures ∙ c.if-is_port.true)

pub returns-else-is_literal_content : goal.returns-else-is_literal_content
returns-else-is_literal_content c =
    let text = c.args.text.now in
    let left = c.split_at.result.1.now in
    let first : get_or text 0 0 ≡ 91 = cc in
    let read = bracketed_is text _ c.split_at.result.0.now left c.place_of.result c.in-91.len_at_least first refl c.place_of.ensures.place c.split_at.ensures.front c.split_at.ensures.back c.in-len1-up.len_at_least in
    elim c.else-is_literal_content.branch [
      | else-is_literal_content-via-then-is_literal_content+else-is_port w ↦ bracketed_bad_port text c.split_at.result.0.now (take (length left - 1) (drop 1 left)) (bracketed_host text) read (sym c.is_literal_content.ensures ∙ w.if-is_literal_content.true) (sym w.is_port.ensures ∙ w.if-is_port.false)
      | else-is_literal_content-via-else-is_literal_content w ↦ bracketed_bad_content text c.split_at.result.0.now (take (length left - 1) (drop 1 left)) (bracketed_host text) read (sym c.is_literal_content.ensures ∙ w.if-is_literal_content.false)
    ]
