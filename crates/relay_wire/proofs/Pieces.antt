-- Words and lines, one after another.
use Rattle.std.proofs.Common.{◌≡◌, ℕ, ◌+◌, ◌<◌, List, Bor, [], ◌∷◌, ◌++◌, length, take, drop, map, flat_map, sum_by, get_or, ap, append_assoc, subst, sym, ◌∙◌, codes, ◌≤◌, arith, rules}
use Rattle.std.specs.List.{enumerate_from, join_with_byte}
use Rattle.std.proofs.lemmas.List.{take_more, take_all, take-append-drop, map-append, append-nil, length-map}
use Rattle.std.proofs.lemmas.List.Concat.{flat_map-append}
use Rattle.std.proofs.lemmas.List.FromFn.{length-enumerate_from, get_or-enumerate_from}
use Rattle.relay_wire.specs.Findings.{spaced, after_spaces}
use Rattle.relay_wire.specs.PlanText.{counts_line, first_line, line, lines_of, numbered_texts}
use Rattle.relay_wire.specs.PlanTexts.{bare, plan_from}
use Rattle.relay_wire.specs.declared.plan.Planned.{Planned}

pub spaced_after : (w : List ℕ) (ws : List (List ℕ)) → join_with_byte 32 (w ∷ ws) ≡ w ++ after_spaces ws
spaced_after w [] = search (rules, append-nil)
spaced_after w (x ∷ xs) = ap (λ l. w ++ (32 ∷ l)) (spaced_after x xs)

-- a word behind others, and those behind it
pub words_behind : (out front word : List ℕ) (ws : List (List ℕ)) → (out ++ (front ++ word)) ++ after_spaces ws ≡ out ++ (front ++ spaced (word ∷ ws))
words_behind out front word ws =
    append_assoc out (front ++ word) (after_spaces ws)
    ∙ ap (λ (l : List ℕ). out ++ l) (append_assoc front word (after_spaces ws) ∙ ap (λ (l : List ℕ). front ++ l) (sym (spaced_after word ws)))

one_more : {X : Type 0} (f : X → List ℕ) (xs : List X) (x : X) → flat_map f (xs ++ x ∷ []) ≡ flat_map f xs ++ f x
one_more f xs x = rw flat_map-append (ap (λ l. flat_map f xs ++ l) (append-nil (f x)))

pub pieces_more : {X : Type 0} (f : X → List ℕ) (xs : List X) (i : ℕ) (d : X) → i < length xs → flat_map f (take (i + 1) xs) ≡ flat_map f (take i xs) ++ f (get_or xs i d)
pieces_more f xs i d h = rw (take_more xs i d h) (one_more f (take i xs) (get_or xs i d))

pub lines_more : {X : Type 0} (f : X → List ℕ) (xs : List X) (i : ℕ) (d : X) → i < length xs → lines_of (map f (take (i + 1) xs)) ≡ lines_of (map f (take i xs)) ++ line (f (get_or xs i d))
lines_more f xs i d h = rw (take_more xs i d h, map-append f (take i xs) (get_or xs i d ∷ [])) (one_more line (map f (take i xs)) (f (get_or xs i d)))

pub lines_step : (out written new : List ℕ) (lines : List (List ℕ)) (i : ℕ) (d : List ℕ) → i < length lines → d ≡ get_or lines i d → written ≡ out ++ lines_of (take i lines) → new ≡ written ++ line d → new ≡ out ++ lines_of (take (i + 1) lines)
lines_step out written new lines i d h at before after =
    after
    ∙ ap (λ (l : List ℕ). l ++ line d) before
    ∙ append_assoc out (lines_of (take i lines)) (line d)
    ∙ ap (λ (l : List ℕ). out ++ l) (ap (λ (l : List ℕ). lines_of (take i lines) ++ line l) at ∙ sym (pieces_more line lines i d h))

pub numbered_item : (text : ℕ → Planned → List ℕ) (n : ℕ) (xs : List Planned) (i : ℕ) (d : Planned) → i < length xs → text (get_or (enumerate_from n xs) i (0, d)).0 (get_or (enumerate_from n xs) i (0, d)).1 ≡ text (n + i) (get_or xs i d)
numbered_item text n xs i d h = ap (λ (p : ℕ × Planned). text p.0 p.1) (get_or-enumerate_from n xs i (0, d) h)

pub numbered_more_from : (text : ℕ → Planned → List ℕ) (n : ℕ) (xs : List Planned) (i : ℕ) (d : Planned) → i < length xs → numbered_texts text (take (i + 1) (enumerate_from n xs)) ≡ numbered_texts text (take i (enumerate_from n xs)) ++ text (n + i) (get_or xs i d)
numbered_more_from text n xs i d h =
    let within : i < length (enumerate_from n xs) = rw (length-enumerate_from n xs) h in
    pieces_more (λ t. text t.0 t.1) (enumerate_from n xs) i (0, d) within ∙ ap (λ (l : List ℕ). numbered_texts text (take i (enumerate_from n xs)) ++ l) (numbered_item text n xs i d h)

pub numbered_all_from : (n : ℕ) (xs : List Planned) (i : ℕ) → length xs ≤ i → take i (enumerate_from n xs) ≡ enumerate_from n xs
numbered_all_from n xs i h = take_all i (enumerate_from n xs) (rw (length-enumerate_from n xs) h)

pub numbered_more : (text : ℕ → Planned → List ℕ) (xs : List Planned) (i : ℕ) (d : Planned) → i < length xs → numbered_texts text (take (i + 1) (enumerate_from 1 xs)) ≡ numbered_texts text (take i (enumerate_from 1 xs)) ++ text (i + 1) (get_or xs i d)
numbered_more text xs i d h =
    let next : 1 + i ≡ i + 1 = omega arith in
    subst (λ (n : ℕ). numbered_texts text (take (i + 1) (enumerate_from 1 xs)) ≡ numbered_texts text (take i (enumerate_from 1 xs)) ++ text n (get_or xs i d)) next (numbered_more_from text 1 xs i d h)

pub numbered_all : (xs : List Planned) (i : ℕ) → length xs ≤ i → take i (enumerate_from 1 xs) ≡ enumerate_from 1 xs
numbered_all xs i h = numbered_all_from 1 xs i h

parts_joined : {X : Type 0} (xs front back : List X) (mid : ℕ) → front ≡ take mid xs → back ≡ drop mid xs → front ++ back ≡ xs
parts_joined xs front back mid f b = ap (λ l. l ++ back) f ∙ ap (λ l. take mid xs ++ l) b ∙ take-append-drop mid xs

-- transactions that are parted: the numbers go on
pub numbered_append : (text : ℕ → Planned → List ℕ) (n : ℕ) (xs ys : List Planned) → numbered_texts text (enumerate_from n (xs ++ ys)) ≡ numbered_texts text (enumerate_from n xs) ++ numbered_texts text (enumerate_from (n + length xs) ys)
numbered_append text n [] ys = let same : n ≡ n + 0 = omega arith in ap (λ (k : ℕ). numbered_texts text (enumerate_from k ys)) same
numbered_append text n (x ∷ xs) ys =
    let same : n + 1 + length xs ≡ n + length (x ∷ xs) = omega arith in
    ap (λ (l : List ℕ). text n x ++ l) (numbered_append text (n + 1) xs ys ∙ ap (λ (k : ℕ). numbered_texts text (enumerate_from (n + 1) xs) ++ numbered_texts text (enumerate_from k ys)) same)
    ∙ sym (append_assoc (text n x) (numbered_texts text (enumerate_from (n + 1) xs)) (numbered_texts text (enumerate_from (n + length (x ∷ xs)) ys)))

pub lines_append : (xs ys : List (List ℕ)) → lines_of (xs ++ ys) ≡ lines_of xs ++ lines_of ys
lines_append xs ys = flat_map-append line xs ys

pub lines_parted : (lines front back : List (List ℕ)) (mid : ℕ) → front ≡ take mid lines → back ≡ drop mid lines → lines_of front ++ lines_of back ≡ lines_of lines
lines_parted lines front back mid f b = sym (lines_append front back) ∙ ap (λ (l : List (List ℕ)). lines_of l) (parts_joined lines front back mid f b)

pub bare_parted : (lines front back : List (Bor (List ℕ))) (mid : ℕ) → front ≡ take mid lines → back ≡ drop mid lines → lines_of (bare front) ++ lines_of (bare back) ≡ lines_of (bare lines)
bare_parted lines front back mid f b =
    sym (lines_append (bare front) (bare back))
    ∙ ap (λ (l : List (List ℕ)). lines_of l) (sym (map-append (λ line. line.now) front back) ∙ ap (λ (l : List (Bor (List ℕ))). bare l) (parts_joined lines front back mid f b))

pub numbered_parted : (text : ℕ → Planned → List ℕ) (n : ℕ) (xs front back : List Planned) (mid : ℕ) → front ≡ take mid xs → back ≡ drop mid xs
    → numbered_texts text (enumerate_from n front) ++ numbered_texts text (enumerate_from (n + length front) back) ≡ numbered_texts text (enumerate_from n xs)
numbered_parted text n xs front back mid f b = sym (numbered_append text n front back) ∙ ap (λ (l : List Planned). numbered_texts text (enumerate_from n l)) (parts_joined xs front back mid f b)

pair_more : (out a b rest : List ℕ) → (out ++ after_spaces (a ∷ b ∷ [])) ++ rest ≡ out ++ (32 ∷ (a ++ (32 ∷ (b ++ rest))))
pair_more out a b rest =
    let inner : (a ++ (32 ∷ (b ++ []))) ++ rest ≡ a ++ (32 ∷ (b ++ rest)) = append_assoc a (32 ∷ (b ++ [])) rest ∙ ap (λ (l : List ℕ). a ++ (32 ∷ l)) (append_assoc b [] rest) in
    append_assoc out (32 ∷ (a ++ (32 ∷ (b ++ [])))) rest ∙ ap (λ (l : List ℕ). out ++ (32 ∷ l)) inner

counts_joined : (x y z : List ℕ) → codes "plan" ++ (32 ∷ (x ++ (32 ∷ (codes "transactions" ++ (32 ∷ (y ++ (32 ∷ (codes "recipients" ++ (32 ∷ (z ++ (32 ∷ (codes "findings" ++ 10 ∷ [])))))))))))) ≡ line (spaced (codes "plan" ∷ x ∷ codes "transactions" ∷ y ∷ codes "recipients" ∷ z ∷ codes "findings" ∷ []))
counts_joined x y z = simp append_assoc

pub counts_are : (out x y z : List ℕ) → ((((out ++ codes "plan") ++ after_spaces (x ∷ codes "transactions" ∷ [])) ++ after_spaces (y ∷ codes "recipients" ∷ [])) ++ after_spaces (z ∷ codes "findings" ∷ [])) ++ 10 ∷ [] ≡ out ++ line (spaced (codes "plan" ∷ x ∷ codes "transactions" ∷ y ∷ codes "recipients" ∷ z ∷ codes "findings" ∷ []))
counts_are out x y z =
    let third : List ℕ = 32 ∷ (z ++ (32 ∷ (codes "findings" ++ 10 ∷ []))) in
    let second : List ℕ = 32 ∷ (y ++ (32 ∷ (codes "recipients" ++ third))) in
    let first : List ℕ = 32 ∷ (x ++ (32 ∷ (codes "transactions" ++ second))) in
    pair_more (((out ++ codes "plan") ++ after_spaces (x ∷ codes "transactions" ∷ [])) ++ after_spaces (y ∷ codes "recipients" ∷ [])) z (codes "findings") (10 ∷ [])
    ∙ pair_more ((out ++ codes "plan") ++ after_spaces (x ∷ codes "transactions" ∷ [])) y (codes "recipients") third
    ∙ pair_more (out ++ codes "plan") x (codes "transactions") second
    ∙ append_assoc out (codes "plan") first
    ∙ ap (λ l. out ++ l) (counts_joined x y z)

check_joined : (x y : List ℕ) → codes "check" ++ (32 ∷ (x ++ (32 ∷ (codes "findings" ++ (32 ∷ (y ++ (32 ∷ (codes "notes" ++ 10 ∷ [])))))))) ≡ line (spaced (codes "check" ∷ x ∷ codes "findings" ∷ y ∷ codes "notes" ∷ []))
check_joined x y = simp append_assoc

pub check_counts_are : (out x y : List ℕ) → (((out ++ codes "check") ++ after_spaces (x ∷ codes "findings" ∷ [])) ++ after_spaces (y ∷ codes "notes" ∷ [])) ++ 10 ∷ [] ≡ out ++ line (spaced (codes "check" ∷ x ∷ codes "findings" ∷ y ∷ codes "notes" ∷ []))
check_counts_are out x y =
    let second : List ℕ = 32 ∷ (y ++ (32 ∷ (codes "notes" ++ 10 ∷ []))) in
    let first : List ℕ = 32 ∷ (x ++ (32 ∷ (codes "findings" ++ second))) in
    pair_more ((out ++ codes "check") ++ after_spaces (x ∷ codes "findings" ∷ [])) y (codes "notes") (10 ∷ [])
    ∙ pair_more (out ++ codes "check") x (codes "findings") second
    ∙ append_assoc out (codes "check") first
    ∙ ap (λ l. out ++ l) (check_joined x y)

pub four_pieces : (out a b c d : List ℕ) → (((out ++ a) ++ b) ++ c) ++ d ≡ out ++ (((a ++ b) ++ c) ++ d)
four_pieces out a b c d = simp append_assoc

pub two_behind : (out a b c d : List ℕ) → ((out ++ a) ++ b) ++ (c ++ d) ≡ out ++ (((a ++ b) ++ c) ++ d)
two_behind out a b c d = simp append_assoc

ends_here : (out a b rest : List ℕ) → (out ++ (a ++ (b ++ []))) ++ rest ≡ out ++ (a ++ (b ++ rest))
ends_here out a b rest = simp (append-nil, append_assoc)

pub transaction_is : (out first second : List ℕ) (route to : List (List ℕ)) → ((out ++ lines_of (first ∷ second ∷ [])) ++ lines_of route) ++ lines_of to ≡ out ++ lines_of (first ∷ second ∷ route ++ to)
transaction_is out first second route to =
    let joined : lines_of (route ++ to) ≡ lines_of route ++ lines_of to = flat_map-append line route to in
    let end : (out ++ lines_of (first ∷ second ∷ [])) ++ (lines_of route ++ lines_of to) ≡ out ++ (line first ++ (line second ++ (lines_of route ++ lines_of to))) = ends_here out (line first) (line second) (lines_of route ++ lines_of to) in
    append_assoc (out ++ lines_of (first ∷ second ∷ [])) (lines_of route) (lines_of to) ∙ end ∙ ap (λ l. out ++ (line first ++ (line second ++ l))) (sym joined)

pub numbered_step_from : (text : ℕ → Planned → List ℕ) (n : ℕ) (out written new : List ℕ) (xs : List Planned) (i : ℕ) (d : Planned) → i < length xs → d ≡ get_or xs i d → written ≡ out ++ numbered_texts text (take i (enumerate_from n xs)) → new ≡ written ++ text (n + i) d → new ≡ out ++ numbered_texts text (take (i + 1) (enumerate_from n xs))
numbered_step_from text n out written new xs i d h at before after =
    let more : numbered_texts text (take (i + 1) (enumerate_from n xs)) ≡ numbered_texts text (take i (enumerate_from n xs)) ++ text (n + i) (get_or xs i d) = numbered_more_from text n xs i d h in
    let same : text (n + i) (get_or xs i d) ≡ text (n + i) d = ap (λ p. text (n + i) p) (sym at) in
    after
    ∙ ap (λ l. l ++ text (n + i) d) before
    ∙ append_assoc out (numbered_texts text (take i (enumerate_from n xs))) (text (n + i) d)
    ∙ ap (λ l. out ++ l) (ap (λ l. numbered_texts text (take i (enumerate_from n xs)) ++ l) (sym same) ∙ sym more)

pub numbered_step : (text : ℕ → Planned → List ℕ) (out written new : List ℕ) (xs : List Planned) (i : ℕ) (d : Planned) → i < length xs → d ≡ get_or xs i d → written ≡ out ++ numbered_texts text (take i (enumerate_from 1 xs)) → new ≡ written ++ text (i + 1) d → new ≡ out ++ numbered_texts text (take (i + 1) (enumerate_from 1 xs))
numbered_step text out written new xs i d h at before after =
    let same : i + 1 ≡ 1 + i = omega arith in
    numbered_step_from text 1 out written new xs i d h at before (after ∙ ap (λ n. written ++ text n d) same)

-- A transaction's script stands behind its lines.
pub scripted_is : (out first : List ℕ) (route : List (List ℕ)) (last script : List ℕ) → (((out ++ line first) ++ lines_of route) ++ line last) ++ script ≡ out ++ (lines_of (first ∷ route ++ last ∷ []) ++ script)
scripted_is out first route last script =
    let end : lines_of (route ++ last ∷ []) ≡ lines_of route ++ line last = one_more line route last in
    let inner : (out ++ line first) ++ lines_of route ≡ out ++ (line first ++ lines_of route) = append_assoc out (line first) (lines_of route) in
    let middle : ((out ++ line first) ++ lines_of route) ++ line last ≡ out ++ lines_of (first ∷ route ++ last ∷ []) =
    ap (λ l. l ++ line last) inner
    ∙ append_assoc out (line first ++ lines_of route) (line last)
    ∙ ap (λ l. out ++ l) (append_assoc (line first) (lines_of route) (line last) ∙ ap (λ l. line first ++ l) (sym end)) in
    ap (λ l. l ++ script) middle ∙ append_assoc out (lines_of (first ∷ route ++ last ∷ [])) script

-- the first line of a plan that is made of these parts
pub first_line_from : (hostname : List ℕ) (ts : List Planned) (fs : List (Bor (List ℕ))) (r : ℕ) → r ≡ sum_by (λ t. length t.to) ts → line (counts_line (length ts) r (length fs)) ≡ line (first_line (plan_from hostname ts (bare fs)))
first_line_from hostname ts fs r r_is =
    ap (λ (k : ℕ). line (counts_line (length ts) k (length fs))) r_is
    ∙ ap (λ (k : ℕ). line (counts_line (length ts) (sum_by (λ t. length t.to) ts) k)) (sym (length-map fs (λ line. line.now)))
