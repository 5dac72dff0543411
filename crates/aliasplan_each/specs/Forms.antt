-- The lines of an answer to many envelopes in each form.
use Rattle.std.specs.Prelude.{ℕ, List, ◌∷◌, ◌++◌, codes}
use Rattle.relay_wire.specs.declared.plan.Plan.{Plan}
use Rattle.relay_wire.specs.PlanText.{line}
use Rattle.relay_envelopes.specs.declared.refusal.Refusal.{Refusal}
use Rattle.relay_envelopes.specs.declared.counts.EnvelopeCounts.{EnvelopeCounts}
use Rattle.relay_envelopes.specs.EachText.{tables_text_of, envelope_line, refusal_line, done_line}
use Rattle.relay_envelopes.specs.EachJson.{json_line, string_member, tables_json, planned_json, refused_json, done_json}
use Rattle.relay_planning.specs.declared.options.Form.{Form}
use Rattle.relay_planning.specs.declared.options.Form.TheVariants as forms
use Rattle.relay_planning.specs.Written.{text_in}
use Rattle.relay_returns.specs.declared.block.Return.{Return}
use Rattle.relay_returns.specs.Returns.{returned_members}
use Rattle.aliasplan.specs.Returns.{returned_text_in}

-- the findings of files and tables
abbrev pub tables_text_in : Form → List (List ℕ) → List ℕ
tables_text_in forms.Plan findings = tables_text_of findings
tables_text_in forms.Wire findings = tables_text_of findings
tables_text_in forms.Json findings = tables_json findings

-- an envelope with its plan
abbrev pub planned_text_in : Form → List ℕ → Plan → List ℕ
planned_text_in forms.Plan id plan = line (envelope_line id) ++ text_in forms.Plan plan
planned_text_in forms.Wire id plan = line (envelope_line id) ++ text_in forms.Wire plan
planned_text_in forms.Json id plan = planned_json id plan

-- the same with its returns
abbrev pub returned_block_in : Form → List ℕ → Plan → List Return → List ℕ
returned_block_in forms.Plan id plan returns = line (envelope_line id) ++ returned_text_in forms.Plan plan returns
returned_block_in forms.Wire id plan returns = line (envelope_line id) ++ returned_text_in forms.Wire plan returns
returned_block_in forms.Json id plan returns = json_line (string_member (codes "envelope") id ∷ returned_members plan returns)

-- one that is refused
abbrev pub refused_text_in : Form → List ℕ → Refusal → List ℕ
refused_text_in forms.Plan id refusal = line (envelope_line id) ++ line (refusal_line refusal)
refused_text_in forms.Wire id refusal = line (envelope_line id) ++ line (refusal_line refusal)
refused_text_in forms.Json id refusal = refused_json id refusal

-- the last line
abbrev pub done_text_in : Form → EnvelopeCounts → List ℕ
done_text_in forms.Plan counts = line (done_line counts)
done_text_in forms.Wire counts = line (done_line counts)
done_text_in forms.Json counts = done_json counts
