use mathlib.Core.Path.{◌∙◌, sym}
use native.Mathlib.Numerals.{add-one}
use lib.Seq.{take-suc-set}
use Rattle.std.proofs.Common.{rules}
use Rattle.checks.proofs.Reading.{reading_refused, reading_next, begun}
use Rattle.checks.proofs.check_records.Goals as goal

pub returns-in_err-check_record : goal.returns-in_err-check_record
returns-in_err-check_record c =
    let (a, b, size, long, room, p) = c.loop-i.invariant in
    let ((same, (cut, six), k), here, more, small) = c.in-Some.ensures.steps in
    let few = begun _ _ _ _ c.loop-i.sizes cut (six ∙ size) room long c.requires in
    let f = reading_refused p _ _ cut (six ∙ size) c.read_record-x.result c.read_record-x.ensures _ _ (here ∙ sym few.1) (rw here at c.expanded_size-size.ensures) c.in_err-check_record.ensures in
    search (rules, f)

pub loop-i-preserved : goal.loop-i-preserved
loop-i-preserved c =
    let (a, b, size, long, room, p) = c.loop-i.invariant in
    let ((same, (cut, six), k), here, more, small) = c.in-Some.ensures.steps in
    let few = begun _ _ _ _ c.loop-i.sizes cut (six ∙ size) room long c.requires in
    let next = reading_next p _ _ cut (six ∙ size) c.read_record-x.result c.read_record-x.ensures _ _ (here ∙ sym few.1) (rw here at c.expanded_size-size.ensures) c.in_ok-check_record.ensures (take-suc-set c.loop-i.sizes _ _ few.0) in
    (search rules, search rules, search rules, search rules, rw more few.2, rw (more, here, add-one) next)
