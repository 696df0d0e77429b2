use mathlib.Core.List.{◌++◌}
use native.Mathlib.Omega.{arith}
use Rattle.arrays.proofs.Tabled.{tabled_count}
use Rattle.definition.specs.Tree.{path}
use Rattle.definition.specs.Modality.{occurs}
use Rattle.logic.proofs.Listings.{listing_one}
use Rattle.logic.proofs.Giving.{giving_entry, giving_ends, seen_entry}
use Rattle.logic.proofs.give_on.Goals as goal

pub loop-j-preserved : goal.loop-j-preserved
loop-j-preserved c = λ t more fk n ls rs s f l k seen h i.
    let g = c.loop-j.invariant t more fk n ls rs s f l k seen h i in
    let up = c.loop-j-test.true in
    let leaf = c.nth.ensures.0 ls l k in
    giving_entry t fk n _ ls l k up leaf s f g
    (c.give_on_leaf-given.ensures.1 (t ++ g.more) (occurs t fk (path t c.nth.result)) (seen_entry t fk ls _ c.loop-j.j _ _ seen (omega (arith, up, tabled_count l k)) leaf c.on.ensures))
    (λ rs' rows small. let drawn = c.give_on_leaf-given.ensures.0 small in listing_one _ drawn (c.push.ensures rs' _ _ rows drawn))

pub returns : goal.returns
returns c = λ t more fk n ls rs s f l k seen h i.
    let e = giving_ends t fk n _ ls {j = c.loop-j.j} l k (omega (arith, c.loop-j-test.false)) (c.loop-j.invariant t more fk n ls rs s f l k seen h i) in
    record { nodes = e.0; rows = e.1 }
