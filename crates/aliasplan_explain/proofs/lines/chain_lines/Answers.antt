use Rattle.aliasplan_explain.proofs.lines.chain_lines.Goals as goal

pub returns-clause-lines : goal.returns-clause-lines
returns-clause-lines g c = c.in_ok-lines.ensures c.in_ok-given_by.given_by c.in_ok-given_by.ensures
