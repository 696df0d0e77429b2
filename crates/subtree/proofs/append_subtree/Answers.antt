use native.Mathlib.Omega.{arith}
use mathlib.Core.Path.{sym, ◌∙◌}
use Rattle.subtree.proofs.Placing.{subtree_full, subtree_as, subtree_none, found_takers, subtree_many, subtree_on}
use Rattle.subtree.proofs.append_subtree.Goals as goal

pub returns-then-tree-gt-MOST_IDENTIFIERS : goal.returns-then-tree-gt-MOST_IDENTIFIERS
returns-then-tree-gt-MOST_IDENTIFIERS c = λ ns q t p f w r. subtree_full t _ ns q c.if-tree-gt-MOST_IDENTIFIERS.true p

pub returns-then-size-eq0 : goal.returns-then-size-eq0
returns-then-size-eq0 c = λ ns q t p f w r.
    let s = c.args.s in
    subtree_as s t _ ns q p c.if-tree-gt-MOST_IDENTIFIERS.false w (λ _. subtree_none s _ ns q (sym c.size.ensures ∙ c.if-size-eq0.true) p f)

pub returns-then-found-gt-MOST_IDENTIFIERS : goal.returns-then-found-gt-MOST_IDENTIFIERS
returns-then-found-gt-MOST_IDENTIFIERS c = λ ns q t p f w r.
    let a = c.args in
    let x = a.target.0 in
    let room = c.if-tree-gt-MOST_IDENTIFIERS.false in
    subtree_as a.s t x ns q p room w (λ i. subtree_many a.s x ns q (found_takers x ns _ _ _ p room r (c.new-found.ensures (omega arith)) c.takers.ensures) c.fill_up.ensures (λ e. c.if-size-eq0.false (c.size.ensures ∙ e)) i c.if-found-gt-MOST_IDENTIFIERS.true)

pub returns : goal.returns
returns c = λ ns q t p f w r.
    let a = c.args in
    let x = a.target.0 in
    let room = c.if-tree-gt-MOST_IDENTIFIERS.false in
    subtree_as a.s t x ns q p room w (λ i. subtree_on a.s x ns q (found_takers x ns _ _ _ p room r (c.new-found.ensures (omega arith)) c.takers.ensures) c.if-found-gt-MOST_IDENTIFIERS.false (λ ls l g. c.append_on.ensures ns q ls p f i l g))
