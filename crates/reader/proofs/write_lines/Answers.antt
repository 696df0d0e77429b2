use Rattle.std.proofs.Common.{arith}
use lib.Seq.{length-take-le}
use Rattle.reader.proofs.Whole.{written}
use Rattle.reader.proofs.write_lines.Goals as goal

pub copy_from_slice-requires : goal.copy_from_slice-requires
copy_from_slice-requires c = omega (arith, length-take-le 24576 c.args.tray.now c.requires)

pub returns : goal.returns
returns c = written c.args.words.now c.args.tray.now c.lines.new.records.bytes c.copy_from_slice.new.self c.lines.new.records.count c.lines.ensures c.copy_from_slice.ensures.after
