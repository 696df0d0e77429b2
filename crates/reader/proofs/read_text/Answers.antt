use Rattle.std.proofs.Common.{refl, arith}
use Rattle.reader.proofs.Whole.{text_taken}
use Rattle.reader.proofs.read_text.Goals as goal

pub returns : goal.returns
returns c = text_taken c.args.text.now _ _ c.args.tray.now _ c.write_lines.result (omega arith) c.in_ok-scan.ensures refl c.write_lines.ensures
