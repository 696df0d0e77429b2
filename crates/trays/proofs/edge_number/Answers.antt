use native.Mathlib.Omega.{arith}
use Rattle.trays.proofs.Numbers.{row_of, row_none, row_start, row_next, number_next}
use Rattle.trays.proofs.Bytes.{bit_of}
use Rattle.trays.proofs.edge_number.Goals as goal

pub returns-then-graph-u : goal.returns-then-graph-u
returns-then-graph-u c = λ g d s l. row_none g d s _ c.if-graph-u.true

pub loop-v-init : goal.loop-v-init
loop-v-init c = (omega arith, λ g d l. row_start (row_of g c.args.u.0) l)

pub loop-v-preserved : goal.loop-v-preserved
loop-v-preserved c = (
  number_next _ c.loop-v-test.true (omega arith) c.loop-v.invariant.0 (bit_of _ c.from.ensures).1,
  λ g d l. row_next g _ c.loop-v-test.true (c.loop-v.invariant.1 g d l) (c.contains.ensures g d) (bit_of _ c.from.ensures).0,
)
