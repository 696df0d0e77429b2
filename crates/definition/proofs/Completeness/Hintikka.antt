-- A set of formulas at worlds that Priest's rules close, and that says and denies no atom at once, is true in its model.
use mathlib.Core.Path.{◌≡◌, sym, ap, ◌∙◌}
use mathlib.Core.Bool.{true, false, not}
use mathlib.Core.Logic.{inl, inr}
use Prim.Native.Nat.{ℕ}
use Rattle.definition.specs.Formula.{Form, atom, non, and, or, imply, bi_imply, strict_imply, possible, necessary}
use Rattle.definition.specs.Models.{Model, truth}
use Rattle.definition.specs.Rules.{as_possible, as_necessary, priest, priest_non}
use Rattle.definition.proofs.Basics.Lists.{true_false, and_left, and_right, or_true, either, not_true_false, any_below, all_below, any_below_of, all_below_of}
use Rattle.definition.proofs.Soundness.Priest.{Claims}

module _ (M : Model) (H : ℕ → Form → Type 0) (closed : (w : ℕ) (p : Form) → H w p → Claims M H w (priest p))
    (says : (w a : ℕ) → H w (atom a) → M.value w a ≡ true) (denies : (w a : ℕ) → H w (non (atom a)) → M.value w a ≡ false) where
  -- p is true where it is in the set, and false where its negation is
  abbrev True : Form → Type 0
  True p = ((w : ℕ) → H w p → truth M p w ≡ true) × ((w : ℕ) → H w (non p) → truth M p w ≡ false)

  implied : (p q : Form) → True p → True q → True (imply p q)
  unfolding truth priest priest_non
  implied p q f g = (
    λ w h. elim (closed w (imply p q) h) [ inl a ↦ rw (f.1 w a.0) | inr a ↦ or_true (not (truth M p w)) (g.0 w a.0) ],
    λ w h. let c = closed w (non (imply p q)) h in rw (f.0 w c.0, g.1 w c.1.0),
  )

  box : (p : Form) → True p → (w : ℕ) → (Claims M H w (as_necessary p) → truth M (necessary p) w ≡ true) × (Claims M H w (as_possible (non p)) → truth M (necessary p) w ≡ false)
  unfolding truth
  box p f w = (
    λ c. all_below_of _ M.size (λ v l. elim (either (M.reach w v)) [ inl r ↦ rw (r, f.0 v (c v l r)) | inr r ↦ rw r ]),
    λ c. not_true_false _ (λ h. true_false (sym (all_below _ M.size h c.0 c.1) ∙ rw (c.2, f.1 c.0 c.3))),
  )

  diamond : (p : Form) → True p → (w : ℕ) → (Claims M H w (as_possible p) → truth M (possible p) w ≡ true) × (Claims M H w (as_necessary (non p)) → truth M (possible p) w ≡ false)
  unfolding truth
  diamond p f w = (
    λ c. any_below_of _ M.size c.0 c.1 (rw (c.2, f.0 c.0 c.3)),
    λ c. not_true_false _ (λ h.
        let v = any_below _ M.size h in
        true_false (sym (and_right (M.reach w v.0) _ v.2) ∙ f.1 v.0 (c v.0 v.1 (and_left (M.reach w v.0) _ v.2)))),
  )

  pub hintikka : (p : Form) → True p
  unfolding truth priest priest_non
  hintikka (atom a) = (λ w h. says w a h, λ w h. denies w a h)
  hintikka (non p) =
      let f = hintikka p in
      (λ w h. ap not (f.1 w h), λ w h. ap not (f.0 w (closed w (non (non p)) h).0))
  hintikka (and p q) =
      let f = hintikka p in
      let g = hintikka q in (
        λ w h. let c = closed w (and p q) h in rw (f.0 w c.0, g.0 w c.1.0),
        λ w h. elim (closed w (non (and p q)) h) [ inl a ↦ rw (f.1 w a.0) | inr a ↦ not_true_false _ (λ e. true_false (sym (and_right (truth M p w) _ e) ∙ g.1 w a.0)) ],
      )
  hintikka (or p q) =
      let f = hintikka p in
      let g = hintikka q in (
        λ w h. elim (closed w (or p q) h) [ inl a ↦ rw (f.0 w a.0) | inr a ↦ or_true (truth M p w) (g.0 w a.0) ],
        λ w h. let c = closed w (non (or p q)) h in rw (f.1 w c.0, g.1 w c.1.0),
      )
  hintikka (imply p q) = implied p q (hintikka p) (hintikka q)
  hintikka (bi_imply p q) =
      let f = hintikka p in
      let g = hintikka q in (
        λ w h. elim (closed w (bi_imply p q) h) [ inl a ↦ rw (f.0 w a.0, g.0 w a.1.0) | inr a ↦ rw (f.1 w a.0, g.1 w a.1.0) ],
        λ w h. elim (closed w (non (bi_imply p q)) h) [ inl a ↦ rw (f.0 w a.0, g.1 w a.1.0) | inr a ↦ rw (f.1 w a.0, g.0 w a.1.0) ],
      )
  hintikka (strict_imply p q) =
      let b = box (imply p q) (implied p q (hintikka p) (hintikka q)) in
      (λ w h. (b w).0 (closed w (strict_imply p q) h), λ w h. (b w).1 (closed w (non (strict_imply p q)) h))
  hintikka (possible p) =
      let d = diamond p (hintikka p) in
      (λ w h. (d w).0 (closed w (possible p) h), λ w h. (d w).1 (closed w (necessary (non p)) (closed w (non (possible p)) h).0))
  hintikka (necessary p) =
      let b = box p (hintikka p) in
      (λ w h. (b w).0 (closed w (necessary p) h), λ w h. (b w).1 (closed w (possible (non p)) (closed w (non (necessary p)) h).0))
