-- How the answers to what is asked, one after another, make one answer.
use Rattle.std.proofs.Common.{◌≡◌, ℕ, ◌+◌, ◌-◌, ◌^◌, ◌≤◌, Bool, true, false, List, [], ◌∷◌, ◌++◌, length, map, take, drop, Option, Some, None, refl, sym, ap, subst, ◌∙◌, arith, append_assoc}
use Rattle.std.specs.Prelude.{⊤}
use Rattle.std.specs.List.{fold}
use Rattle.std.specs.Option.{IfSome}
use Rattle.std.specs.Io.KnownBytes.{Appends, IsAtEnd, prepend_known}
use Rattle.std.proofs.KnownBytes.{Appends-nil, Appends-trans}
use Rattle.std.proofs.Math.Seq.{take-append-add, take-length}
use Rattle.std.proofs.lemmas.List.{append-nil, map-append, length-map, take-append-drop, take-map, take_at}
use Rattle.std.proofs.lemmas.List.Concat.{flat_map-append}
use Rattle.std.proofs.lemmas.List.Sums.{fold-append}
use Rattle.relay_job.specs.declared.job.Job.{Job}
use Rattle.relay_envelopes.specs.declared.counts.EnvelopeCounts.{EnvelopeCounts}
use Rattle.relay_envelopes.specs.Sections.{Section}
use Rattle.aliasplan_each.specs.declared.wording.Wording.{Wording}
use Rattle.relay_planning.specs.declared.options.Limits.{Limits}
use Rattle.aliasplan_each.specs.Asks.{Ask, planned, asks_in}
use Rattle.aliasplan_each.specs.Asks.Ask.{plan, change}
use Rattle.aliasplan_each.specs.Blocks.{no_counts}
use Rattle.aliasplan_each.specs.BesideSteps.{WritesBlock, FrontsBlock}
use Rattle.aliasplan_each.specs.BesideSteps.FrontsBlock.{nothing, some}
use Rattle.aliasplan_each.specs.ChangeSteps.{WritesChange, FrontsChange}
use Rattle.aliasplan_each.specs.Feeding.{kept, kept_ask, AreAlike, to_come, Leads, LeadsKnown}
use Rattle.aliasplan_each.specs.Given.{Given}
use Rattle.aliasplan_each.specs.Replies.{Reply, text_of, texts_of, with_reply, counts_of, tables_behind, coming_behind, IsReply, AreReplies}
use Rattle.aliasplan_each.specs.Replies.Reply.{block, changed}
use Rattle.aliasplan_each.specs.ReplySteps.{RepliesToAll, FrontsReplies}
use Rattle.aliasplan_each.proofs.BlockFacts.{IsBlock-kept}

-- the tables behind some replies, and what the source gives from then on
abbrev pub tables_after : Job → List Reply → Job
tables_after tables replies = fold tables_behind tables replies

abbrev pub coming_after : (ℕ → Given) → List Reply → ℕ → Given
coming_after coming replies = fold coming_behind coming replies

module _ (limits : Limits) (wording : Wording) where
  AreReplies-more : (asks more : List Ask) (replies added : List Reply) (tables : Job) (coming : ℕ → Given) → AreReplies limits wording tables coming asks replies → AreReplies limits wording (tables_after tables replies) (coming_after coming replies) more added → AreReplies limits wording tables coming (asks ++ more) (replies ++ added)
  AreReplies-more [] more [] added tables coming h k = k
  AreReplies-more (ask ∷ asks) more (reply ∷ replies) added tables coming h k = (h.0, AreReplies-more asks more replies added (tables_behind tables reply) (coming_behind coming reply) h.1 k)
  AreReplies-more [] more (reply ∷ replies) added tables coming h k = absurd h
  AreReplies-more (ask ∷ asks) more [] added tables coming h k = absurd h

  -- What isn't kept of a section changes no reply.
  IsReply-alike : (ask other : Ask) (tables : Job) (given : Given) (reply : Reply) → kept_ask limits.bytes ask ≡ kept_ask limits.bytes other → IsReply limits wording tables given ask reply → IsReply limits wording tables given other reply
  IsReply-alike (plan s) (plan t) tables given (block b) e h = let same : kept limits.bytes s ≡ kept limits.bytes t = cc in IsBlock-kept limits wording tables s t same b h
  IsReply-alike change change tables given (changed text after) e h = h
  IsReply-alike (plan s) change tables given reply e h = absurd (let no : ⊥ = cc in no)
  IsReply-alike change (plan t) tables given reply e h = absurd (let no : ⊥ = cc in no)
  IsReply-alike (plan s) (plan t) tables given (changed text after) e h = absurd h
  IsReply-alike change change tables given (block b) e h = absurd h

  AreReplies-alike : (asks others : List Ask) (replies : List Reply) (tables : Job) (coming : ℕ → Given) → AreAlike limits.bytes asks others → AreReplies limits wording tables coming asks replies → AreReplies limits wording tables coming others replies
  AreReplies-alike [] [] replies tables coming e h = h
  AreReplies-alike (a ∷ more) (b ∷ bs) (reply ∷ replies) tables coming e h =
      let head : kept_ask limits.bytes a ≡ kept_ask limits.bytes b = cc in
      let tail : AreAlike limits.bytes more bs = cc in
      (IsReply-alike a b tables (coming 0) reply head h.0, AreReplies-alike more bs replies (tables_behind tables reply) (coming_behind coming reply) tail h.1)
  AreReplies-alike (a ∷ more) (b ∷ bs) [] tables coming e h = absurd h
  AreReplies-alike [] (b ∷ bs) replies tables coming e h = absurd (let no : ⊥ = cc in no)
  AreReplies-alike (a ∷ more) [] replies tables coming e h = absurd (let no : ⊥ = cc in no)

-- as many first asks are alike
first-alike : (max : ℕ) (asks came left : List Ask) → AreAlike max asks (came ++ left) → AreAlike max came (take (length came) asks)
first-alike max asks came left e =
    sym (take_at (map (kept_ask max) came) (map (kept_ask max) left) (length came) (length-map came (kept_ask max)))
    ∙ ap (take (length came)) (sym (map-append (kept_ask max) came left) ∙ sym e)
    ∙ take-map (kept_ask max) (length came) asks

module _ (limits : Limits) (wording : Wording) (tables : Job) (coming : ℕ → Given) where
  -- The answers to what has come are written, and this is left.
  pub record HasReplied (input : List ℕ) (left : List Ask) (rest : ℕ) (old now : Option (List ℕ)) (counts : EnvelopeCounts) (planner : Job) (given : ℕ → Given) : Type 0 where
    pub came : List Ask
    pub asks : AreAlike limits.bytes (asks_in limits.bytes input) (came ++ left)
    pub fewer : rest ≤ length input
    pub replies : List Reply
    pub are_replies : AreReplies limits wording tables coming came replies
    pub written : Appends old now (texts_of replies)
    pub counted : counts ≡ counts_of replies
    pub planner_is : planner ≡ tables_after tables replies
    pub given_is : (k : ℕ) → given k ≡ coming_after coming replies k

  -- of bytes that may be known
  abbrev pub RepliedKnown : Option (List ℕ) → ℕ → Bool → Option Section → Option (List ℕ) → Option (List ℕ) → Option (List ℕ) → EnvelopeCounts → Job → (ℕ → Given) → Type 0
  RepliedKnown None number asked begun bytes old now counts planner given = ⊤
  RepliedKnown (Some input) number asked begun None old now counts planner given = ⊥
  RepliedKnown (Some input) number asked begun (Some bytes) old now counts planner given = HasReplied input (to_come limits.bytes number asked begun bytes) (number + length bytes) old now counts planner given

  pub Replied-start : (remaining : Option (List ℕ)) (number : ℕ) (pending : List ℕ) (asked : Bool) (begun : Option Section) (old : Option (List ℕ)) (counts : EnvelopeCounts) → number ≡ 0 → pending ≡ [] → asked ≡ false → begun ≡ None → counts ≡ no_counts → RepliedKnown remaining number asked begun (prepend_known pending remaining) old old counts tables coming
  Replied-start None number pending asked begun old counts e f t b g = tt
  Replied-start (Some input) number pending asked begun old counts e f t b g = rw (e, f, t, b) (record {
    came = [];
    asks = refl;
    fewer = omega arith;
    replies = [];
    are_replies = tt;
    written = Appends-nil old;
    counted = g;
    planner_is = refl;
    given_is = λ k. refl;
  })

  pub FrontsReplies-none : (asks : List Ask) (old : Option (List ℕ)) → FrontsReplies limits wording tables coming asks old old
  FrontsReplies-none asks old = record { came = []; rest = asks; parts = refl; replies = []; are_replies = tt; count = 0; written = Appends-nil old }

  module _ (input : List ℕ) (left : List Ask) (rest : ℕ) (old now : Option (List ℕ)) (counts : EnvelopeCounts) (planner : Job) (given : ℕ → Given)
      (h : HasReplied input left rest old now counts planner given) where
    front-replied : FrontsReplies limits wording tables coming (asks_in limits.bytes input) old now
    front-replied = record {
      came = take (length h.came) (asks_in limits.bytes input);
      rest = drop (length h.came) (asks_in limits.bytes input);
      parts = sym (take-append-drop (length h.came) (asks_in limits.bytes input));
      replies = h.replies;
      are_replies = AreReplies-alike limits wording h.came _ h.replies tables coming (first-alike limits.bytes (asks_in limits.bytes input) h.came left h.asks) h.are_replies;
      count = length (texts_of h.replies);
      written = rw (take-length (texts_of h.replies)) h.written;
    }

    -- this is asked next, and this is the reply
    module _ (ask : Ask) (reply : Reply) (after : List Ask) (less : ℕ) (new : Option (List ℕ)) (leads : Leads limits.bytes left (ask ∷ []) after rest less) (is : IsReply limits wording planner (given 0) ask reply) where
      replies-more : AreReplies limits wording tables coming (h.came ++ ask ∷ []) (h.replies ++ reply ∷ [])
      replies-more =
          AreReplies-more limits wording h.came (ask ∷ []) h.replies (reply ∷ []) tables coming h.are_replies
          (subst (λ (t : Job). IsReply limits wording t (coming_after coming h.replies 0) ask reply) h.planner_is (subst (λ (g : Given). IsReply limits wording planner g ask reply) (h.given_is 0) is), tt)

      asks-more : AreAlike limits.bytes (asks_in limits.bytes input) ((h.came ++ ask ∷ []) ++ after)
      asks-more =
          h.asks ∙ map-append (kept_ask limits.bytes) h.came left ∙ ap (λ l. map (kept_ask limits.bytes) h.came ++ l) leads.asks ∙ sym (map-append (kept_ask limits.bytes) h.came (ask ∷ after))
          ∙ ap (map (kept_ask limits.bytes)) (sym (append_assoc h.came (ask ∷ []) after))

      text-more : texts_of (h.replies ++ reply ∷ []) ≡ texts_of h.replies ++ text_of reply
      text-more = flat_map-append text_of h.replies (reply ∷ []) ∙ ap (λ l. texts_of h.replies ++ l) (append-nil (text_of reply))

      replied-more : (next : EnvelopeCounts) (then : Job) (gives : ℕ → Given) → Appends now new (text_of reply) → next ≡ with_reply counts reply → then ≡ tables_behind planner reply → ((k : ℕ) → gives k ≡ coming_behind given reply k) → ((k : ℕ) → coming_behind given reply k ≡ coming_behind (coming_after coming h.replies) reply k) → HasReplied input after less old new next then gives
      replied-more next then gives w c t later same = record {
        came = h.came ++ ask ∷ [];
        asks = asks-more;
        fewer = omega (arith, h.fewer, leads.fewer);
        replies = h.replies ++ reply ∷ [];
        are_replies = replies-more;
        written = rw text-more (Appends-trans old now new (texts_of h.replies) (text_of reply) h.written w);
        counted = c ∙ ap (λ (n : EnvelopeCounts). with_reply n reply) h.counted ∙ sym (fold-append with_reply no_counts h.replies (reply ∷ []));
        planner_is = t ∙ ap (λ (j : Job). tables_behind j reply) h.planner_is ∙ sym (fold-append tables_behind tables h.replies (reply ∷ []));
        given_is = λ k. later k ∙ same k ∙ sym (ap (λ (f : ℕ → Given). f k) (fold-append coming_behind coming h.replies (reply ∷ [])));
      }

      stopped : (count : ℕ) → Appends now new (take count (text_of reply)) → FrontsReplies limits wording tables coming (asks_in limits.bytes input) old new
      stopped count w = record {
        came = take (length (h.came ++ ask ∷ [])) (asks_in limits.bytes input);
        rest = drop (length (h.came ++ ask ∷ [])) (asks_in limits.bytes input);
        parts = sym (take-append-drop (length (h.came ++ ask ∷ [])) (asks_in limits.bytes input));
        replies = h.replies ++ reply ∷ [];
        are_replies = AreReplies-alike limits wording (h.came ++ ask ∷ []) _ (h.replies ++ reply ∷ []) tables coming (first-alike limits.bytes (asks_in limits.bytes input) (h.came ++ ask ∷ []) after asks-more) replies-more;
        count = length (texts_of h.replies) + count;
        written =
            let cut : take (length (texts_of h.replies) + count) (texts_of (h.replies ++ reply ∷ [])) ≡ texts_of h.replies ++ take count (text_of reply) = ap (take (length (texts_of h.replies) + count)) text-more ∙ take-append-add (texts_of h.replies) (text_of reply) count in
            rw cut (Appends-trans old now new (texts_of h.replies) (take count (text_of reply)) h.written w);
      }

  -- nothing more was written
  FrontsReplies-nothing : (asks : List Ask) (old now new : Option (List ℕ)) → FrontsReplies limits wording tables coming asks old now → Appends now new [] → FrontsReplies limits wording tables coming asks old new
  FrontsReplies-nothing asks old now new h w = record {
    came = h.came;
    rest = h.rest;
    parts = h.parts;
    replies = h.replies;
    are_replies = h.are_replies;
    count = h.count;
    written = rw (append-nil (take h.count (texts_of h.replies))) at (Appends-trans old now new (take h.count (texts_of h.replies)) [] h.written w);
  }

  -- The steps of a run.
  module _ (remaining : Option (List ℕ)) (number : ℕ) (asked : Bool) (begun : Option Section) (bytes : Option (List ℕ)) (old now : Option (List ℕ)) (counts : EnvelopeCounts) (planner : Job) (given : ℕ → Given) where
    module _ (next : ℕ) (turns : Bool) (goes_on : Option Section) (left : Option (List ℕ)) (new : Option (List ℕ)) where
      pub Replied-block : (s : Section) (more : EnvelopeCounts) → RepliedKnown remaining number asked begun bytes old now counts planner given → LeadsKnown limits.bytes number asked begun bytes (planned (Some s)) next turns goes_on left → WritesBlock limits wording planner s now new counts more → RepliedKnown remaining next turns goes_on left old new more planner given
      Replied-block s more h k w = at remaining bytes left h k where
        at : (remaining bytes left : Option (List ℕ)) → RepliedKnown remaining number asked begun bytes old now counts planner given → LeadsKnown limits.bytes number asked begun bytes (planned (Some s)) next turns goes_on left → RepliedKnown remaining next turns goes_on left old new more planner given
        at None bytes left h k = tt
        at (Some input) None left h k = absurd h
        at (Some input) (Some ls) None h k = absurd k
        at (Some input) (Some ls) (Some ys) h k = replied-more input _ _ old now counts planner given h (plan s) (block w.block) _ _ new k w.is more planner given w.written w.counted refl (λ k. refl) h.given_is

      pub Replied-stopped : (s : Section) → RepliedKnown remaining number asked begun bytes old now counts planner given → LeadsKnown limits.bytes number asked begun bytes (planned (Some s)) next turns goes_on left → FrontsBlock limits wording planner s now new → IfSome remaining (λ input. FrontsReplies limits wording tables coming (asks_in limits.bytes input) old new)
      Replied-stopped s h k w = at remaining bytes left h k w where
        at : (remaining bytes left : Option (List ℕ)) → RepliedKnown remaining number asked begun bytes old now counts planner given → LeadsKnown limits.bytes number asked begun bytes (planned (Some s)) next turns goes_on left → FrontsBlock limits wording planner s now new → IfSome remaining (λ input. FrontsReplies limits wording tables coming (asks_in limits.bytes input) old new)
        at None bytes left h k w = tt
        at (Some input) None left h k w = absurd h
        at (Some input) (Some ls) None h k w = absurd k
        at (Some input) (Some ls) (Some ys) h k (nothing w) = FrontsReplies-nothing (asks_in limits.bytes input) old now new (front-replied input _ _ old now counts planner given h) w
        at (Some input) (Some ls) (Some ys) h k (some b count is w) = stopped input _ _ old now counts planner given h (plan s) (block b) _ _ new k is count w

    -- `%tables` is answered
    module _ (next : ℕ) (goes_on : Option Section) (left : Option (List ℕ)) (new : Option (List ℕ)) where
      pub Replied-change : (after : Job) (gives : ℕ → Given) → RepliedKnown remaining number asked begun bytes old now counts planner given → LeadsKnown limits.bytes number asked begun bytes [] next true goes_on left → WritesChange limits wording.form (given 0) planner after now new → ((k : ℕ) → gives k ≡ given (k + 1)) → RepliedKnown remaining next false goes_on left old new counts after gives
      Replied-change after gives h k w later = at remaining bytes left h k where
        at : (remaining bytes left : Option (List ℕ)) → RepliedKnown remaining number asked begun bytes old now counts planner given → LeadsKnown limits.bytes number asked begun bytes [] next true goes_on left → RepliedKnown remaining next false goes_on left old new counts after gives
        at None bytes left h k = tt
        at (Some input) None left h k = absurd h
        at (Some input) (Some ls) None h k = absurd k
        at (Some input) (Some ls) (Some ys) h k = replied-more input _ _ old now counts planner given h change (changed w.text after) _ _ new (record { asks = k.asks; fewer = k.fewer }) w.is counts after gives w.written refl refl later (λ k. h.given_is (k + 1))

      pub Replied-stopped_change : RepliedKnown remaining number asked begun bytes old now counts planner given → LeadsKnown limits.bytes number asked begun bytes [] next true goes_on left → FrontsChange limits wording.form (given 0) planner now new → IfSome remaining (λ input. FrontsReplies limits wording tables coming (asks_in limits.bytes input) old new)
      Replied-stopped_change h k w = at remaining bytes left h k where
        at : (remaining bytes left : Option (List ℕ)) → RepliedKnown remaining number asked begun bytes old now counts planner given → LeadsKnown limits.bytes number asked begun bytes [] next true goes_on left → IfSome remaining (λ input. FrontsReplies limits wording tables coming (asks_in limits.bytes input) old new)
        at None bytes left h k = tt
        at (Some input) None left h k = absurd h
        at (Some input) (Some ls) None h k = absurd k
        at (Some input) (Some ls) (Some ys) h k = stopped input _ _ old now counts planner given h change (changed w.text w.after) _ _ new (record { asks = k.asks; fewer = k.fewer }) w.is w.count w.written

    -- none is to come
    pub Replied-end : (next : ℕ) (goes_on : Option Section) (left : Option (List ℕ)) → RepliedKnown remaining number asked begun bytes old now counts planner given → LeadsKnown limits.bytes number asked begun bytes [] next false goes_on left → goes_on ≡ None → IsAtEnd left → IfSome remaining (λ input. RepliesToAll limits wording tables coming input old now counts)
    Replied-end next goes_on left h k none end = at remaining bytes left h k end where
      at : (remaining bytes left : Option (List ℕ)) → RepliedKnown remaining number asked begun bytes old now counts planner given → LeadsKnown limits.bytes number asked begun bytes [] next false goes_on left → IsAtEnd left → IfSome remaining (λ input. RepliesToAll limits wording tables coming input old now counts)
      at None bytes left h k end = tt
      at (Some input) None left h k end = absurd h
      at (Some input) (Some ls) None h k end = absurd k
      at (Some input) (Some ls) (Some ys) h k end =
          let left_none : to_come limits.bytes next false goes_on ys ≡ [] = rw (none, end) refl in
          let led : AreAlike limits.bytes (to_come limits.bytes number asked begun ls) [] = rw left_none at k.asks in
          let all : AreAlike limits.bytes h.came (asks_in limits.bytes input) = sym (h.asks ∙ map-append (kept_ask limits.bytes) h.came (to_come limits.bytes number asked begun ls) ∙ ap (λ l. map (kept_ask limits.bytes) h.came ++ l) led ∙ append-nil (map (kept_ask limits.bytes) h.came)) in
          record {
            replies = h.replies;
            are_replies = AreReplies-alike limits wording h.came (asks_in limits.bytes input) h.replies tables coming all h.are_replies;
            written = h.written;
            counted = h.counted;
          }

    pub Replied-front : RepliedKnown remaining number asked begun bytes old now counts planner given → IfSome remaining (λ input. FrontsReplies limits wording tables coming (asks_in limits.bytes input) old now)
    Replied-front h = at remaining bytes h where
      at : (remaining bytes : Option (List ℕ)) → RepliedKnown remaining number asked begun bytes old now counts planner given → IfSome remaining (λ input. FrontsReplies limits wording tables coming (asks_in limits.bytes input) old now)
      at None bytes h = tt
      at (Some input) None h = absurd h
      at (Some input) (Some ls) h = front-replied input _ _ old now counts planner given h

    -- there are more bytes than can be counted
    pub Replied-long : RepliedKnown remaining number asked begun bytes old now counts planner given → IfSome bytes (λ bytes. 2 ^ 64 - 1 ≤ number + length bytes) → IfSome remaining (λ input. 2 ^ 64 - 1 ≤ length input)
    Replied-long h p = at remaining bytes h p where
      at : (remaining bytes : Option (List ℕ)) → RepliedKnown remaining number asked begun bytes old now counts planner given → IfSome bytes (λ bytes. 2 ^ 64 - 1 ≤ number + length bytes) → IfSome remaining (λ input. 2 ^ 64 - 1 ≤ length input)
      at None bytes h p = tt
      at (Some input) None h p = absurd h
      at (Some input) (Some ls) h p = omega (arith, h.fewer, p)
