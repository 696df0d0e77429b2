use mathlib.Core.Path.{sym, ap, subst}
use native.Mathlib.Omega.{arith}
use Rattle.definition.specs.Subtree.{append_logic_rule_result}
use Rattle.definition.specs.TreeShape.{TreedThroughout}
use Rattle.subtree.specs.Items.{filled}
use Rattle.subtree.proofs.Rows.{rows_count, held_few, joining_start, joining_next, joining_end, joining_full}
use Rattle.subtree.proofs.Placing.{left_as}
use Rattle.subtree.proofs.append_logic_rule_result.Goals as goal

pub returns-then-tree-gt-MOST_IDENTIFIERS : goal.returns-then-tree-gt-MOST_IDENTIFIERS
returns-then-tree-gt-MOST_IDENTIFIERS c = λ ns q is p f t st. joining_full q _ c.if-tree-gt-MOST_IDENTIFIERS.true p

pub loop-k-init : goal.loop-k-init
loop-k-init c = λ ns q rs p f t st. joining_start ns q rs p f st

pub loop-k-preserved : goal.loop-k-preserved
loop-k-preserved c = λ ns q rs p f t st.
    let h = c.if-tree-gt-MOST_IDENTIFIERS.false in
    joining_next rs c.loop-k.k _ _ c.loop-k-test.true (held_few p h) (t h) c.get_or-item.ensures.0 c.with_middle_vertical_nodes.ensures (c.loop-k.invariant ns q rs p f t st) c.append_subtree.ensures

pub returns : goal.returns
returns c = λ ns q is p f t st.
    let h = c.if-tree-gt-MOST_IDENTIFIERS.false in
    let put = t h in
    let rs = put.all in
    left_as (append_logic_rule_result ns q is) (ap (append_logic_rule_result ns q) put.are)
    (joining_end (filled rs) c.loop-k.k (omega (arith, (rows_count (held_few p h) put.rows).0)) (c.loop-k.invariant ns q rs p f (λ _. put.rows) (subst (TreedThroughout ns q) (sym put.are) st)))
