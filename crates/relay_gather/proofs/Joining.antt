-- Sections joined one after another.
use Rattle.std.proofs.Common.{◌≡◌, ℕ, ◌-◌, ◌+◌, Bool, true, false, cond, ltb, List, [], ◌∷◌, ◌++◌, length, Result, Ok, Err, refl, sym, ap, ◌∙◌, append_assoc, arith, length-append}
use Rattle.relay_text.specs.Addresses.{result_map}
use Rattle.relay_job.specs.declared.fault.RunFault.{RunFault}
use Rattle.relay_job.specs.declared.fault.RunFault.TheVariants.{Read, TooLong, BadJob, BadSetting, BadEnvelope, TooManyNames, TooManyOwners, TooManyPairs, Write, Memory}
use Rattle.relay_gather.specs.declared.gathered.Gathered.{Gathered}
use Rattle.relay_gather.specs.Source.{Answer, Tells, Refuses}
use Rattle.relay_gather.specs.Sections.{joined}
use Rattle.relay_gather.specs.Gathered.{Adds, Stops}
use Rattle.relay_gather.proofs.Putting.{Puts-none, Puts-more}

abbrev pub Joined : Type 0
Joined = Result (List ℕ) RunFault

abbrev pub Sections : Type 0
Sections = List Joined

-- ---- what sources answer
pub same_answers : {A B : Type 0} {f g : A → B} → ((x : A) → f x ≡ g x) → f ≡ g
same_answers h = λ i x. h x i

-- a cause of a fault makes for another
pub Refuses-weaker : (answer : List ℕ → Answer) (P Q : RunFault → Type 0) → (Tells answer → (fault : RunFault) → P fault → Q fault) → (fault : RunFault) → Refuses answer P fault → Refuses answer Q fault
Refuses-weaker answer P Q f Read h = λ tells. f tells Read (h tells)
Refuses-weaker answer P Q f TooLong h = λ tells. f tells TooLong (h tells)
Refuses-weaker answer P Q f Memory h = tt
Refuses-weaker answer P Q f (BadJob n) h = absurd h
Refuses-weaker answer P Q f (BadSetting n) h = absurd h
Refuses-weaker answer P Q f (BadEnvelope n) h = absurd h
Refuses-weaker answer P Q f TooManyNames h = absurd h
Refuses-weaker answer P Q f TooManyOwners h = absurd h
Refuses-weaker answer P Q f TooManyPairs h = absurd h
Refuses-weaker answer P Q f Write h = absurd h

-- ---- joining
map_again : (a b : List ℕ) (r : Joined) → result_map (λ rest. a ++ rest) (result_map (λ rest. b ++ rest) r) ≡ result_map (λ rest. (a ++ b) ++ rest) r
map_again a b (Ok t) = ap Ok (sym (append_assoc a b t))
map_again a b (Err fault) = refl

map_none : (r : Joined) → result_map (λ rest. [] ++ rest) r ≡ r
map_none (Ok t) = refl
map_none (Err fault) = refl

-- sections behind those that are joined, and behind a fault
pub joined-append : (xs ys : Sections) (room left : ℕ) (text : List ℕ) → joined xs room ≡ Ok text → left + length text ≡ room → joined (xs ++ ys) room ≡ result_map (λ rest. text ++ rest) (joined ys left)
joined-append [] ys room left text h e =
    let none : [] ≡ text = cc in
    let same : room ≡ left = (let long : 0 ≡ length text = ap length none in omega (arith, long, e)) in
    ap (joined ys) same ∙ sym (map_none (joined ys left)) ∙ ap (λ t. result_map (λ rest. t ++ rest) (joined ys left)) none
joined-append (Err fault ∷ xs) ys room left text h e = absurd (let no : ⊥ = cc in no)
joined-append (Ok t ∷ xs) ys room left text h e = at (ltb room (length t)) (joined xs (room - length t)) refl h (λ more f there. joined-append xs ys (room - length t) left more f there) where
  at : (b : Bool) (r : Joined) → joined xs (room - length t) ≡ r → cond b (Err TooLong) (result_map (λ rest. t ++ rest) r) ≡ Ok text
      → ((more : List ℕ) → joined xs (room - length t) ≡ Ok more → left + length more ≡ room - length t → joined (xs ++ ys) (room - length t) ≡ result_map (λ rest. more ++ rest) (joined ys left))
      → cond b (Err TooLong) (result_map (λ rest. t ++ rest) (joined (xs ++ ys) (room - length t))) ≡ result_map (λ rest. text ++ rest) (joined ys left)
  at true r f g later = absurd (let no : ⊥ = cc in no)
  at false (Err fault) f g later = absurd (let no : ⊥ = cc in no)
  at false (Ok more) f g later =
      let is : t ++ more ≡ text = cc in
      let long : length t + length more ≡ length text = sym (length-append t more) ∙ ap length is in
      let there : left + length more ≡ room - length t = omega (arith, long, e) in
      ap (result_map (λ rest. t ++ rest)) (later more f there)
      ∙ map_again t more (joined ys left) ∙ ap (λ u. result_map (λ rest. u ++ rest) (joined ys left)) is

pub joined-fault : (xs ys : Sections) (room : ℕ) (fault : RunFault) → joined xs room ≡ Err fault → joined (xs ++ ys) room ≡ Err fault
joined-fault [] ys room fault h = absurd (let no : ⊥ = cc in no)
joined-fault (Err other ∷ xs) ys room fault h = h
joined-fault (Ok t ∷ xs) ys room fault h = at (ltb room (length t)) (joined xs (room - length t)) refl h (λ other f. joined-fault xs ys (room - length t) other f) where
  at : (b : Bool) (r : Joined) → joined xs (room - length t) ≡ r → cond b (Err TooLong) (result_map (λ rest. t ++ rest) r) ≡ Err fault
      → ((other : RunFault) → joined xs (room - length t) ≡ Err other → joined (xs ++ ys) (room - length t) ≡ Err other)
      → cond b (Err TooLong) (result_map (λ rest. t ++ rest) (joined (xs ++ ys) (room - length t))) ≡ Err fault
  at true r f g later = g
  at false (Err other) f g later = ap (result_map (λ rest. t ++ rest)) (later other f) ∙ g
  at false (Ok more) f g later = absurd (let no : ⊥ = cc in no)

-- ---- sections put
pub Adds-none : (old : Gathered) → Adds [] old old
Adds-none old = record { more = []; joins = refl; puts = Puts-none old }

pub Adds-more : (xs ys : Sections) (x y z : Gathered) → Adds xs x y → Adds ys y z → Adds (xs ++ ys) x z
Adds-more xs ys x y z h g = record {
  more = h.more ++ g.more;
  joins = joined-append xs ys x.room y.room h.more h.joins h.puts.room ∙ ap (result_map (λ rest. h.more ++ rest)) g.joins;
  puts = Puts-more h.more g.more x y z h.puts g.puts;
}

pub joined-later : (xs ys : Sections) (x y : Gathered) (fault : RunFault) → Adds xs x y → joined ys y.room ≡ Err fault → joined (xs ++ ys) x.room ≡ Err fault
joined-later xs ys x y fault h g = joined-append xs ys x.room y.room h.more h.joins h.puts.room ∙ ap (result_map (λ rest. h.more ++ rest)) g

-- why nothing more is put, where more sections follow or came before
pub Stops-first : (answer : List ℕ → Answer) (xs ys : Sections) (x : Gathered) (fault : RunFault) → Stops answer xs x fault → Stops answer (xs ++ ys) x fault
Stops-first answer xs ys x fault = Refuses-weaker answer (λ (f : RunFault). joined xs x.room ≡ Err f) (λ (f : RunFault). joined (xs ++ ys) x.room ≡ Err f) (λ tells f h. joined-fault xs ys x.room f h) fault

pub Stops-later : (answer : List ℕ → Answer) (xs ys : Sections) (x y : Gathered) (fault : RunFault) → (Tells answer → Adds xs x y) → Stops answer ys y fault → Stops answer (xs ++ ys) x fault
Stops-later answer xs ys x y fault h = Refuses-weaker answer (λ (f : RunFault). joined ys y.room ≡ Err f) (λ (f : RunFault). joined (xs ++ ys) x.room ≡ Err f) (λ tells f g. joined-later xs ys x y f (h tells) g) fault
