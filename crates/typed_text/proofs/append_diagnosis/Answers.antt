use Rattle.std.proofs.Common.{◌≤◌, arith, ◌∷◌, [], ◌++◌, ◌+◌, ◌-◌, length, take, drop, length-take, length-drop, ◌∙◌, ap, ℕ, List}
use Rattle.frames.proofs.Texts.{both, appended}
use Rattle.typed_text.proofs.Marks.{diagnosis_is, line_shown, spaces_under}
use Rattle.typed_text.proofs.append_diagnosis.Goals as goal

pub returns : goal.returns
returns c =
    let text = c.args.text.now in
    let at = c.args.at in
    let start = c.line_start-start.result in
    let end = c.line_end-end.result in
    let before = take (at - start) (drop start text) in
    let after = take (end - at) (drop at text) in
    let line : length before + length after ≤ 4096 =
    omega (arith, length-take (at - start) (drop start text), length-drop start text, length-take (end - at) (drop at text), length-drop at text, c.requires.at_in_bounds, c.line_start-start.ensures.1, c.line_end-end.ensures.1, c.line_end-end.ensures.2) in
    let shown-line = both _ _ _ _ _ c.append_shown.ensures.items c.append_shown-2.ensures.items
    ∙ ap (λ (l : List ℕ). c.append_heading.new.out.items ++ l) (line_shown text start at end c.line_start-start.ensures.1 c.line_end-end.ensures.1) in
    let newline = c.append.ensures.fits (omega (arith, c.append_heading.ensures.len, c.append_shown.ensures.len, c.append_shown-2.ensures.len, line)) in
    let under = c.append_spaces.ensures.items
    ∙ ap (λ (l : List ℕ). c.append.new.text.items ++ l)
    (spaces_under text c.append_heading.new.out.items c.append_shown.new.out.items start at _ c.line_start-start.ensures.1 c.append_shown.ensures.items (omega (arith, c.len.ensures.value, c.len-heading.ensures.value))) in
    let behind = appended c.append_shown-2.new.out.items c.append.new.text.items (10 ∷ []) newline in
    let mark =
    c.append-2.ensures.fits
    (omega (arith, c.append_heading.ensures.len, c.append_shown.ensures.len, c.append_shown-2.ensures.len, line, behind, c.append_spaces.ensures.len, c.len.ensures.value, c.len-heading.ensures.value)) in
    diagnosis_is _ _ _ _ _ _ _ _ _ c.line_start-start.ensures.0 c.line_end-end.ensures.0 c.append_heading.ensures.items shown-line newline under mark
