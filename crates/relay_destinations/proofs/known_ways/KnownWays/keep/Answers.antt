use Rattle.std.proofs.Common.{◌≡◌, ◌∙◌, List, ℕ, [], ◌∷◌, ◌++◌, length, ap, arith}
use Rattle.std.specs.Prelude.{None, zip}
use Rattle.std.specs.Str.{bytes_eq}
use Rattle.std.proofs.lemmas.List.{length_push}
use Rattle.relay_chains.specs.Keys.{number_of}
use Rattle.relay_destinations.specs.declared.way.Way.{Way}
use Rattle.relay_destinations.specs.KnownWays.{way_in}
use Rattle.relay_destinations.proofs.Pairs.{zip_push, text_new, texts_more}
use Rattle.relay_destinations.proofs.known_ways.KnownWays.keep.Goals as goal

pub invariant_of-self-2 : goal.invariant_of-self-2
invariant_of-self-2 c =
    let i = c.self.inside in
    let text = c.args.text.now in
    let new : number_of bytes_eq i.texts.keys text ≡ None = text_new i.texts.keys i.ways.items text c.self.invariant (ap (λ (ps : List (List ℕ × Way)). way_in ps text) c.self.view_is ∙ c.requires) in
    let texts : c.intern.new.self.keys ≡ i.texts.keys ++ text ∷ [] = texts_more i.texts.keys c.intern.new.self.keys i.texts.limit text c.in-Ok.field-0 new c.in-Ok.ensures.inserts in
    let ways : c.push_reserved.new.self.items ≡ i.ways.items ++ c.args.way ∷ [] = c.push_reserved.ensures.items ∙ ap (λ (ts : List Way). ts ++ c.args.way ∷ []) c.in_ok-reserve.ensures.items in
    omega (arith, ap length texts, ap length ways, length_push i.texts.keys text, length_push i.ways.items c.args.way, c.self.invariant)

pub returns-clause-ok : goal.returns-clause-ok
returns-clause-ok c =
    let i = c.self.inside in
    let text = c.args.text.now in
    let new : number_of bytes_eq i.texts.keys text ≡ None = text_new i.texts.keys i.ways.items text c.self.invariant (ap (λ (ps : List (List ℕ × Way)). way_in ps text) c.self.view_is ∙ c.requires) in
    let texts : c.intern.new.self.keys ≡ i.texts.keys ++ text ∷ [] = texts_more i.texts.keys c.intern.new.self.keys i.texts.limit text c.in-Ok.field-0 new c.in-Ok.ensures.inserts in
    let ways : c.push_reserved.new.self.items ≡ i.ways.items ++ c.args.way ∷ [] = c.push_reserved.ensures.items ∙ ap (λ (ts : List Way). ts ++ c.args.way ∷ []) c.in_ok-reserve.ensures.items in
    ap (λ (ks : List (List ℕ)). zip ks c.push_reserved.new.self.items) texts
    ∙ ap (λ (ts : List Way). zip (i.texts.keys ++ text ∷ []) ts) ways
    ∙ zip_push i.texts.keys i.ways.items text c.args.way c.self.invariant
    ∙ ap (λ (ps : List (List ℕ × Way)). ps ++ (text, c.args.way) ∷ []) c.self.view_is
