use Rattle.std.proofs.Common.{rules, ◌≡◌, ◌+◌, ◌&&◌, ◌==◌, true, false, not, nat_lt, get_or, length, sym, ap, ◌∙◌, arith}
use Rattle.std.specs.Char.{is_ascii_uppercase}
use Rattle.std.proofs.lemmas.Bool.Decides.{nat_tests}
use Rattle.relay_text.specs.Bytes.{is_white}
use Rattle.relay_text.specs.Addresses.{is_dot}
use Rattle.relay_routes.specs.FieldReadings.{is_small}
use Rattle.relay_routes.proofs.FieldReadings.{white_at, end_at, other_at, some_behind}
use Rattle.relay_routes.proofs.field_reading.FieldReading.at_front.Goals as goal
use Rattle.relay_routes.proofs.field_reading.FieldReading.at_front.Goals.{then-byte-eq32-via-then-byte-eq32, then-byte-eq32-via-else-byte-eq32+then-byte-eq9, then-is_joined-2, else-is_joined-2, then-byte-eq46, else-byte-eq46}

pub returns-then-is_joined-clause-len : goal.returns-then-is_joined-clause-len
returns-then-is_joined-clause-len c =
    let small : is_small (get_or c.args.text.now c.loop-len.len 0) ≡ false = search rules in
    let white : is_white (get_or c.args.text.now c.loop-len.len 0) ≡ true = elim c.then-byte-eq32.branch [ then-byte-eq32-via-then-byte-eq32 w ↦ search rules | then-byte-eq32-via-else-byte-eq32+then-byte-eq9 w ↦ search rules ] in
    let found = white_at c.args.text.now c.loop-len.len c.loop-len.is_joined (c.loop-len.start == c.loop-len.len) c.loop-len.has_capital (omega arith) small white c.loop-len.invariant.passed c.loop-len.invariant.joined c.loop-len.invariant.capital in
    found.0

pub returns-then-is_joined-clause-joined : goal.returns-then-is_joined-clause-joined
returns-then-is_joined-clause-joined c =
    let small : is_small (get_or c.args.text.now c.loop-len.len 0) ≡ false = search rules in
    let white : is_white (get_or c.args.text.now c.loop-len.len 0) ≡ true = elim c.then-byte-eq32.branch [ then-byte-eq32-via-then-byte-eq32 w ↦ search rules | then-byte-eq32-via-else-byte-eq32+then-byte-eq9 w ↦ search rules ] in
    let found = white_at c.args.text.now c.loop-len.len c.loop-len.is_joined (c.loop-len.start == c.loop-len.len) c.loop-len.has_capital (omega arith) small white c.loop-len.invariant.passed c.loop-len.invariant.joined c.loop-len.invariant.capital in
    some_behind c.loop-len.start c.loop-len.len c.loop-len.invariant.behind ∙ ap (λ j. j && not (c.loop-len.start == c.loop-len.len)) (sym c.if-is_joined.true) ∙ found.1

pub returns-then-is_joined-clause-small : goal.returns-then-is_joined-clause-small
returns-then-is_joined-clause-small c =
    let small : is_small (get_or c.args.text.now c.loop-len.len 0) ≡ false = search rules in
    let white : is_white (get_or c.args.text.now c.loop-len.len 0) ≡ true = elim c.then-byte-eq32.branch [ then-byte-eq32-via-then-byte-eq32 w ↦ search rules | then-byte-eq32-via-else-byte-eq32+then-byte-eq9 w ↦ search rules ] in
    let found = white_at c.args.text.now c.loop-len.len c.loop-len.is_joined (c.loop-len.start == c.loop-len.len) c.loop-len.has_capital (omega arith) small white c.loop-len.invariant.passed c.loop-len.invariant.joined c.loop-len.invariant.capital in
    found.2

pub returns-else-is_joined-clause-len : goal.returns-else-is_joined-clause-len
returns-else-is_joined-clause-len c =
    let small : is_small (get_or c.args.text.now c.loop-len.len 0) ≡ false = search rules in
    let white : is_white (get_or c.args.text.now c.loop-len.len 0) ≡ true = elim c.then-byte-eq32.branch [ then-byte-eq32-via-then-byte-eq32 w ↦ search rules | then-byte-eq32-via-else-byte-eq32+then-byte-eq9 w ↦ search rules ] in
    let found = white_at c.args.text.now c.loop-len.len c.loop-len.is_joined (c.loop-len.start == c.loop-len.len) c.loop-len.has_capital (omega arith) small white c.loop-len.invariant.passed c.loop-len.invariant.joined c.loop-len.invariant.capital in
    found.0

pub returns-else-is_joined-clause-joined : goal.returns-else-is_joined-clause-joined
returns-else-is_joined-clause-joined c =
    let small : is_small (get_or c.args.text.now c.loop-len.len 0) ≡ false = search rules in
    let white : is_white (get_or c.args.text.now c.loop-len.len 0) ≡ true = elim c.then-byte-eq32.branch [ then-byte-eq32-via-then-byte-eq32 w ↦ search rules | then-byte-eq32-via-else-byte-eq32+then-byte-eq9 w ↦ search rules ] in
    let found = white_at c.args.text.now c.loop-len.len c.loop-len.is_joined (c.loop-len.start == c.loop-len.len) c.loop-len.has_capital (omega arith) small white c.loop-len.invariant.passed c.loop-len.invariant.joined c.loop-len.invariant.capital in
    c.if-is_joined.false ∙ ap (λ j. j && not (c.loop-len.start == c.loop-len.len)) (sym c.if-is_joined.false) ∙ found.1

pub returns-else-is_joined-clause-small : goal.returns-else-is_joined-clause-small
returns-else-is_joined-clause-small c =
    let small : is_small (get_or c.args.text.now c.loop-len.len 0) ≡ false = search rules in
    let white : is_white (get_or c.args.text.now c.loop-len.len 0) ≡ true = elim c.then-byte-eq32.branch [ then-byte-eq32-via-then-byte-eq32 w ↦ search rules | then-byte-eq32-via-else-byte-eq32+then-byte-eq9 w ↦ search rules ] in
    let found = white_at c.args.text.now c.loop-len.len c.loop-len.is_joined (c.loop-len.start == c.loop-len.len) c.loop-len.has_capital (omega arith) small white c.loop-len.invariant.passed c.loop-len.invariant.joined c.loop-len.invariant.capital in
    found.2

pub returns-then-is_joined-3-clause-len : goal.returns-then-is_joined-3-clause-len
returns-then-is_joined-3-clause-len c =
    let whole : length c.args.text.now ≡ c.loop-len.len = omega arith in
    let found = end_at c.args.text.now c.loop-len.len c.loop-len.is_joined (c.loop-len.start == c.loop-len.len) c.loop-len.has_capital whole c.loop-len.invariant.passed c.loop-len.invariant.joined c.loop-len.invariant.capital in
    whole ∙ found.0

pub returns-then-is_joined-3-clause-joined : goal.returns-then-is_joined-3-clause-joined
returns-then-is_joined-3-clause-joined c =
    let whole : length c.args.text.now ≡ c.loop-len.len = omega arith in
    let found = end_at c.args.text.now c.loop-len.len c.loop-len.is_joined (c.loop-len.start == c.loop-len.len) c.loop-len.has_capital whole c.loop-len.invariant.passed c.loop-len.invariant.joined c.loop-len.invariant.capital in
    ap (nat_lt c.loop-len.start) whole ∙ some_behind c.loop-len.start c.loop-len.len c.loop-len.invariant.behind ∙ ap (λ j. j && not (c.loop-len.start == c.loop-len.len)) (sym c.if-is_joined-3.true) ∙ found.1

pub returns-then-is_joined-3-clause-small : goal.returns-then-is_joined-3-clause-small
returns-then-is_joined-3-clause-small c =
    let whole : length c.args.text.now ≡ c.loop-len.len = omega arith in
    let found = end_at c.args.text.now c.loop-len.len c.loop-len.is_joined (c.loop-len.start == c.loop-len.len) c.loop-len.has_capital whole c.loop-len.invariant.passed c.loop-len.invariant.joined c.loop-len.invariant.capital in
    found.2

pub returns-else-is_joined-3-clause-len : goal.returns-else-is_joined-3-clause-len
returns-else-is_joined-3-clause-len c =
    let whole : length c.args.text.now ≡ c.loop-len.len = omega arith in
    let found = end_at c.args.text.now c.loop-len.len c.loop-len.is_joined (c.loop-len.start == c.loop-len.len) c.loop-len.has_capital whole c.loop-len.invariant.passed c.loop-len.invariant.joined c.loop-len.invariant.capital in
    whole ∙ found.0

pub returns-else-is_joined-3-clause-joined : goal.returns-else-is_joined-3-clause-joined
returns-else-is_joined-3-clause-joined c =
    let whole : length c.args.text.now ≡ c.loop-len.len = omega arith in
    let found = end_at c.args.text.now c.loop-len.len c.loop-len.is_joined (c.loop-len.start == c.loop-len.len) c.loop-len.has_capital whole c.loop-len.invariant.passed c.loop-len.invariant.joined c.loop-len.invariant.capital in
    c.if-is_joined-3.false ∙ ap (λ j. j && not (c.loop-len.start == c.loop-len.len)) (sym c.if-is_joined-3.false) ∙ found.1

pub returns-else-is_joined-3-clause-small : goal.returns-else-is_joined-3-clause-small
returns-else-is_joined-3-clause-small c =
    let whole : length c.args.text.now ≡ c.loop-len.len = omega arith in
    let found = end_at c.args.text.now c.loop-len.len c.loop-len.is_joined (c.loop-len.start == c.loop-len.len) c.loop-len.has_capital whole c.loop-len.invariant.passed c.loop-len.invariant.joined c.loop-len.invariant.capital in
    found.2

pub loop-len-preserved : goal.loop-len-preserved
loop-len-preserved c =
    let start = c.loop-len.start in
    let len = c.loop-len.len in
    let joined = c.loop-len.is_joined in
    let dot = is_dot (get_or c.args.text.now len 0) in
    let small : is_small (get_or c.args.text.now c.loop-len.len 0) ≡ false = search rules in
    let dark : is_white (get_or c.args.text.now c.loop-len.len 0) ≡ false = search rules in
    let low : is_ascii_uppercase (get_or c.args.text.now c.loop-len.len 0) ≡ false = search rules in
    let dotted : c.if-is_joined-2.value ≡ (joined && dot) = elim c.if-is_joined-2.branch [
      | then-is_joined-2 w ↦ w.value-is ∙ ap (λ j. j && dot) (sym w.if-is_joined-2.true)
      | else-is_joined-2 w ↦ w.value-is ∙ w.if-is_joined-2.false ∙ ap (λ j. j && dot) (sym w.if-is_joined-2.false)
    ] in
    let next : c.if-byte-eq46.is_joined ≡ (joined && dot && not (start == len)) = elim c.if-byte-eq46.branch [
      | then-byte-eq46 w ↦ w.is_joined-is ∙ some_behind start len c.loop-len.invariant.behind ∙ ap (λ j. j && not (start == len)) (sym w.if-byte-eq46.true ∙ dotted)
      | else-byte-eq46 w ↦ w.is_joined-is ∙ w.if-byte-eq46.false ∙ ap (λ j. j && not (start == len)) (sym w.if-byte-eq46.false ∙ dotted)
    ] in
    let anew : (len + 1 == len + 1) ≡ true = grind (arith, nat_tests) in
    let left = other_at c.args.text.now len joined (start == len) c.loop-len.has_capital c.if-byte-eq46.is_joined (len + 1 == len + 1) (omega arith) small dark low next anew c.loop-len.invariant.passed c.loop-len.invariant.joined c.loop-len.invariant.capital in
    record { behind = omega arith; passed = left.0; joined = left.1; capital = left.2 }
