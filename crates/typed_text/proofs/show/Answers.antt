use Rattle.std.proofs.Common.{subst, arith, rules, sym, replicate}
use lib.Seq.{length-take-le}
use Rattle.definition.specs.Limits.{text_tray_length}
use Rattle.reader.specs.Contract.{ReadText}
use Rattle.typed_text.specs.Showing.{ShownAs}
use Rattle.typed_text.proofs.Whole.{taken_room, taken_shown, lines_refused, refused_shown}
use Rattle.typed_text.proofs.show.Goals as goal

pub slice_bounds-tray-end : goal.slice_bounds-tray-end
slice_bounds-tray-end c = taken_room c.args.rules.now _ text_tray_length _ (subst (ReadText _ _ _) c.in-Ok.is c.read_text.ensures)

pub slice_bounds-lines-end : goal.slice_bounds-lines-end
slice_bounds-lines-end c = sym (length-take-le _ _ (taken_room c.args.rules.now _ text_tray_length _ (subst (ReadText _ _ _) c.in-Ok.is c.read_text.ensures)))

pub returns-in-Ok : goal.returns-in-Ok
returns-in-Ok c = taken_shown c.args.rules.now _ text_tray_length _ _ (subst (ReadText _ _ _) c.in-Ok.is c.read_text.ensures) c.lines.ensures

pub returns-in-Err : goal.returns-in-Err
returns-in-Err c =
    subst (ShownAs c.args.rules.now c.refusal_lines.result.items) (sym c.offset_of.ensures)
    (refused_shown c.args.rules.now c.read_text.new.tray text_tray_length c.in-Err.error c.refusal_lines.result.items
    (subst (ReadText c.args.rules.now (replicate text_tray_length 0) c.read_text.new.tray) c.in-Err.is c.read_text.ensures) (omega arith)
    (lines_refused _ _ _ _ _ c.refusal_lines.ensures c.from.ensures c.from-refusal.ensures (search rules)))
