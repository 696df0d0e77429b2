use Rattle.std.proofs.Common.{rules, ◌≡◌, ◌∙◌, ap, List, ℕ, ◌++◌}
use Rattle.slices.specs.Text.{decimal_of}
use Rattle.frames.proofs.Texts.{both, decimal_is}
use Rattle.frames.proofs.append_number.Goals as goal

pub returns-clause-fits : goal.returns-clause-fits
returns-clause-fits g c =
    λ h.
    let is : c.as_bytes.result.now ≡ decimal_of c.args.number = c.as_bytes.ensures.value ∙ c.format.ensures.text ∙ decimal_is _ (search rules) in
    both c.args.text.now.items _ _ _ _ (c.append.ensures.fits (search rules) ∙ ap (λ (s : List ℕ). c.args.text.now.items ++ s) is) c.push.ensures.items
