use Rattle.std.proofs.Common.{◌≡◌, drop, length, ap, ◌∙◌, rules}
use Rattle.std.proofs.lemmas.List.{drop-drop}
use Rattle.relay_wire.specs.Fronts.{front_number}
use Rattle.relay_wire.proofs.fronted_line.FrontedLine.of.Goals as goal

pub returns-clause-fronts : goal.returns-clause-fronts
returns-clause-fronts c =
    let behind : c.split_front-first.result.1.now ≡ drop 8 (drop (length c.args.front.now) c.args.line.now) = c.split_front-first.ensures.rest ∙ ap (drop 8) c.split_at.ensures.back in
    record {
      begins = c.requires;
      first = c.split_front-first.ensures.number ∙ ap (front_number 8) c.split_at.ensures.back;
      second = c.split_front-second.ensures.number ∙ ap (front_number 8) (behind ∙ drop-drop 8 (length c.args.front.now) c.args.line.now);
      bytes = search rules;
    }
