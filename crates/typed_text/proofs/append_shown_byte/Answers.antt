use Rattle.std.proofs.Common.{rules, arith, ◌≡◌, ◌∙◌, ap, sym, ℕ, List, ◌∷◌, [], ◌++◌, length, take}
use Rattle.typed_text.specs.Diagnosis.{shown}
use Rattle.frames.proofs.Texts.{both, appended}
use Rattle.typed_text.proofs.Marks.{byte_digits}
use Rattle.typed_text.proofs.append_shown_byte.Goals as goal

pub returns : goal.returns
unfolding shown
returns c =
    let digits = byte_digits c.args.b _ _ (search rules) c.hex-count.ensures.len c.hex-count.ensures.digits in
    let first : c.append.new.text.items ≡ c.args.out.now.items ++ (92 ∷ 120 ∷ []) = c.append.ensures.fits (omega (arith, c.requires)) in
    let two = appended c.args.out.now.items c.append.new.text.items (92 ∷ 120 ∷ []) first in
    let second = c.append-2.ensures.fits (omega (arith, c.requires, two, ap length digits)) in
    rw (sym c.is_plain.ensures ∙ c.if-is_plain.false) (record {
      items = both _ _ _ (92 ∷ 120 ∷ []) _ first (second ∙ ap (λ (l : List ℕ). c.append.new.text.items ++ l) digits);
      len = omega (arith, two, appended c.append.new.text.items c.append-2.new.text.items (take c.hex-count.result c.hex-count.new.out) second, ap length digits);
    })
