use Rattle.std.proofs.Common.{arith, ◌≡◌, ℕ, ◌<◌, Option, Some, None, Result, Ok, Err, List, length, get_or, slice_get, refl, sym, ap, ◌∙◌, subst}
use Rattle.std.specs.Prelude.{IsTrue, IfOk, option_map, option_and_then}
use Rattle.std.specs.List.{list_all}
use Rattle.std.specs.Str.{bytes_eq}
use Rattle.std.proofs.lemmas.List.Quantifiers.{position-Some}
use Rattle.std.proofs.lemmas.Option.{slice_get_read}
use Rattle.relay_text.specs.AddressParts.{AddressParts}
use Rattle.relay_aliasfile.specs.declared.entry.Entry.{Entry}
use Rattle.relay_tables.specs.Parts.{is_good_entry}
use Rattle.relay_tables.specs.Directory.{Directory}
use Rattle.relay_tables.specs.Targets.{alias_number}
use Rattle.relay_tables.specs.Senders.{owner_name, owner_number, owner_entry, sender_by}
use Rattle.relay_tables.proofs.RowSteps.{passes_at}
use Rattle.relay_tables.proofs.tables.Tables.owner_sender.Goals as goal

module _ (d : Directory) where
  -- an owner's number is that of an entry
  number_within : (entry : Option Entry) (k : ℕ) → option_and_then (λ e. alias_number d (owner_name d e)) entry ≡ Some k → k < length d.aliases
  number_within None k is = cc
  number_within (Some e) k is = (position-Some (λ (o : Entry). bytes_eq (owner_name d e) o.name) d.aliases k e is).0

  owner_within : (alias k : ℕ) → owner_number d alias ≡ Some k → k < length d.aliases
  owner_within alias k is = number_within (slice_get d.aliases alias) k is

  owner_gives : {E : Type 0} (r : Result AddressParts E) (alias k : ℕ) (entries : List Entry) (x : Entry) → entries ≡ d.aliases → owner_number d alias ≡ Some k → k < length entries → x ≡ get_or entries k x → IfOk r (λ a. a ≡ sender_by d x)
      → IfOk r (λ a. option_map (sender_by d) (owner_entry d alias) ≡ Some a)
  owner_gives (Ok a) alias k entries x are number below at is =
      ap (λ (o : Option ℕ). option_map (sender_by d) (option_and_then (λ owner. slice_get d.aliases owner) o)) number
      ∙ ap (λ (es : List Entry). option_map (sender_by d) (slice_get es k)) (sym are)
      ∙ ap (option_map (sender_by d)) (slice_get_read entries (length entries) k x refl below at)
      ∙ ap (λ (y : AddressParts). Some y) (sym is)
  owner_gives (Err e) alias k entries x are number below at is = tt

pub bounds-entries-owner : goal.bounds-entries-owner
bounds-entries-owner c = omega (arith, ap length c.aliases-entries.ensures.entries, owner_within c.args.self.now c.args.alias c.in-Some.owner (sym c.owner_of.ensures ∙ c.in-Some.is))

pub sender_of-requires : goal.sender_of-requires
sender_of-requires c =
    let entries = c.aliases-entries.result.now in
    let all : IsTrue (list_all is_good_entry entries) = subst (λ (es : List Entry). IsTrue (list_all is_good_entry es)) (sym c.aliases-entries.ensures.entries) c.aliases-entries.ensures.lawful.entries in
    let below : c.in-Some.owner < length entries = omega (arith, ap length c.aliases-entries.ensures.entries, owner_within c.args.self.now c.args.alias c.in-Some.owner (sym c.owner_of.ensures ∙ c.in-Some.is)) in
    subst (λ (e : Entry). IsTrue (is_good_entry e)) (sym c.index-entries-owner.is) (passes_at is_good_entry entries c.in-Some.owner c.index-entries-owner.result all below)

pub returns : goal.returns
returns c =
    let d = c.args.self.now in
    let number : owner_number d c.args.alias ≡ Some c.in-Some.owner = sym c.owner_of.ensures ∙ c.in-Some.is in
    let below : c.in-Some.owner < length c.aliases-entries.result.now = omega (arith, ap length c.aliases-entries.ensures.entries, owner_within d c.args.alias c.in-Some.owner number) in
    owner_gives d c.sender_of.result c.args.alias c.in-Some.owner c.aliases-entries.result.now c.index-entries-owner.result c.aliases-entries.ensures.entries number below c.index-entries-owner.is c.sender_of.ensures
