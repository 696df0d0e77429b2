use Prim.Native.Nat.{◌<◌}
use native.Mathlib.Omega.{arith}
use lib.ListN.{length}
use Rattle.definition.specs.Limits.{record_length}
use Rattle.definition.specs.Lists.{concat_map}
use Rattle.definition.specs.Records.{Rec, rec_at}
use Rattle.definition.specs.Trays.{record_bytes}
use Rattle.formula.specs.Recorded.{missing}
use Rattle.formula.proofs.Recorded.{recorded_count}
use Rattle.definition.proofs.Basics.Lists.{each_get}
use Rattle.definition.proofs.Call.Trays.{length_parts, record_length_lem}
use Rattle.trays.proofs.Bytes.{not_kept}
use Rattle.slices.proofs.Parts.{parts_start, parts_next, parts_end}
use Rattle.trays.proofs.write_formulas.Goals as goal

pub loop-i-init : goal.loop-i-init
loop-i-init c = λ rs p h. parts_start record_bytes record_length record_length_lem rs _

pub loop-i-preserved : goal.loop-i-preserved
unfolding rec_at
loop-i-preserved c = λ rs p h. let l = c.if-formulas-gt-MOST_FORMULAS.false in let i = c.loop-i.i in let e = recorded_count p l in let low : i < length rs = omega (arith, c.loop-i-test.true) in parts_next record_bytes record_length record_length_lem rs _ i (c.loop-i.invariant rs p h) missing (omega arith) low (c.put_formula-at.ensures rs p l (each_get (λ (x : Rec). x.mark < 256) rs missing h i (λ g. absurd (omega arith))))

pub returns : goal.returns
returns c = (λ rs p l h r. let e = recorded_count p l in c.put_zeros.ensures.0 c.args.tray.now (concat_map record_bytes rs) (parts_end record_bytes record_length record_length_lem rs _ c.loop-i.i (c.loop-i.invariant rs p h) (omega (arith, c.loop-i-test.false))) (omega (arith, length_parts record_length record_bytes record_length_lem rs)) r, not_kept c.if-tray-lt-FORMULA_TRAY_LENGTH.false c.if-formulas-gt-MOST_FORMULAS.false)
