use Rattle.std.proofs.Common.{◌≡◌, ℕ, List, [], ◌++◌, take, Option, None, Some, IfSome, option_map, ap, ◌∙◌}
use Rattle.aliasplan_command.proofs.file_source.bytes_of.Goals as goal

-- what a reader gives to its end, of which no more than a limit is read, is the front of that length
front_of_whole : (whole : Option (List ℕ)) (most : ℕ) (before after : List ℕ) → before ≡ [] → IfSome (option_map (take most) whole) (λ read. after ≡ before ++ read) → IfSome whole (λ text. after ≡ take most text)
front_of_whole None most before after none read = tt
front_of_whole (Some text) most before after none read = read ∙ ap (λ l. l ++ take most text) none

front_read : {R : Type 0} (remaining : R → Option (List ℕ)) (reader inner : R) (most limit : ℕ) (before after : List ℕ) → inner ≡ reader → limit ≡ most → before ≡ []
    → IfSome (option_map (take limit) (remaining inner)) (λ read. after ≡ before ++ read) → IfSome (remaining reader) (λ text. after ≡ take most text)
front_read remaining reader inner most limit before after same equal none read = front_of_whole (remaining reader) most before after none (rw same at (rw equal at read))

pub returns-in-Ok-clause-bytes : goal.returns-in-Ok-clause-bytes
returns-in-Ok-clause-bytes g c = front_read g.F.Read.remaining _ _ _ _ _ _ c.take.ensures.inner c.take.ensures.limit c.new-bytes.ensures.items c.in-Ok.ensures.bytes
