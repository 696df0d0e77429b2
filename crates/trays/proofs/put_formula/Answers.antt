use borrow.Author.Rules.{rules}
use mathlib.Core.Path.{ap}
use Rattle.definition.specs.Records.{rec_at}
use Rattle.formula.specs.declared.Record.{Record}
use Rattle.slices.proofs.Writing.{low_same, puts_then, puts_as}
use Rattle.trays.proofs.Bytes.{record_bytes_lem, number_low}
use Rattle.trays.proofs.put_formula.Goals as goal

pub returns : goal.returns
returns c = λ rs p h b.
    let x = rec_at rs c.args.f.0 in
    let read = c.record_at-record.ensures rs p h in
    puts_as
    (record_bytes_lem x
    (low_same (search rules) (ap (λ (r : Record). r.kind) read) (number_low x.kind))
    (low_same (search rules) (ap (λ (r : Record). r.mark) read) b)
    (ap (λ (r : Record). r.left.0) read)
    (ap (λ (r : Record). r.right.0) read))
    (puts_then c.put-a.ensures.0
    (puts_then c.put-b.ensures.0
    (puts_then c.put_two-c.ensures.0
    c.put_two.ensures.0)))
