use Rattle.logic.proofs.Forked.{fork_placed}
use Rattle.logic.proofs.place_fork.Goals as goal

pub returns : goal.returns
returns c = λ ns q more base h l at low list st. fork_placed ns q more _ base _ _ _ _ _ _ _ _ _ h l at low list st c.with_comment.ensures c.append_subtree.ensures c.append_logic_rule_result.ensures
