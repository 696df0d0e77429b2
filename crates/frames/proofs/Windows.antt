-- The window of an input: counting by parts, and keeping by parts, say the same as the whole.
use mathlib.Core.Path.{◌≡◌, refl, sym, ◌∙◌, ap, subst}
use mathlib.Core.List.{List, ◌++◌}
use mathlib.Core.Bool.{Bool, true, false}
use mathlib.Core.Logic.{◌⊎◌, inl, inr, ⊎_elim}
use Prim.Native.Nat.{ℕ, ◌+◌, ◌-◌, ◌%◌, ◌≤◌, ◌<◌, min}
use native.Mathlib.Omega.{arith}
use native.Mathlib.Nat.{add-mod, min-eq_right}
use borrow.Author.Tests.{le-leb, lt-leb, leb-true, leb-false}
use lib.Dec.{leb}
use lib.ListN.{length, take, drop, length-append}
use lib.Seq.{paste, paste-zero, take-length, take-paste, length-take-le}
use borrow.Rule.Slice.PartMut.{put_mid}
use Rattle.std.proofs.lemmas.Slice.{put_mid-paste}
use Rattle.definition.specs.Limits.{record_length}
use Rattle.frames.specs.Window.{window_length, over_length, kept_length, window, kept_with, Window}

pub within : (n : ℕ) → (n ≤ window_length) ⊎ (window_length < n)
within n = go (leb n window_length) refl
  where
    go : (b : Bool) → leb n window_length ≡ b → (n ≤ window_length) ⊎ (window_length < n)
    go true e = inl (leb-true n window_length e)
    go false e = inr (leb-false n window_length e)

pub window_exact : (n : ℕ) → n ≤ window_length → window n ≡ n
unfolding window
window_exact n h = rw (le-leb n window_length h)

pub window_over : (n : ℕ) → window_length < n → window n ≡ over_length + n % record_length
unfolding window
window_over n h = rw (lt-leb n window_length h)

pub window_sum : (a n : ℕ) → window_length < a + n → over_length + (a % record_length + n % record_length) % record_length ≡ window (a + n)
window_sum a n h = ap (λ (k : ℕ). over_length + k) (sym (add-mod a n record_length)) ∙ sym (window_over (a + n) h)

-- a count kept in the window and added to says the same as the whole count
pub window_window : (a n : ℕ) → window (window a + n) ≡ window (a + n)
window_window a n =
    ⊎_elim
    (λ (h : a ≤ window_length). ap (λ (k : ℕ). window (k + n)) (window_exact a h))
    (λ (h : window_length < a).
    ap (λ (k : ℕ). window (k + n)) (window_over a h)
    ∙ window_over (over_length + a % record_length + n) (omega arith)
    ∙ ap (λ (k : ℕ). over_length + k) (omega arith)
    ∙ sym (window_over (a + n) (omega arith)))
    (within a)

window_most : (n : ℕ) → window n ≤ kept_length
window_most n =
    ⊎_elim (λ (h : n ≤ window_length). omega (arith, window_exact n h)) (λ (h : window_length < n). omega (arith, window_over n h)) (within n)

kept_exact : (whole kept part : List ℕ) (seen : ℕ) → kept_length ≤ length kept → Window whole kept seen → length whole + length part ≤ window_length
    → take (window (seen + length part)) (kept_with kept seen part) ≡ whole ++ part
unfolding kept_with
kept_exact whole kept part seen size w h =
    let known : seen ≡ length whole = w.counted ∙ window_exact (length whole) (omega arith) in
    let room : min (length kept - seen) (length part) ≡ length part = min-eq_right (omega arith) in
    subst (λ (k : ℕ). take (window (seen + length part)) (paste kept seen part k) ≡ whole ++ part) (sym room)
    (ap (λ (k : ℕ). take k (paste kept seen part (length part))) (window_exact (seen + length part) (omega arith))
    ∙ take-paste kept seen part (length part) (omega arith) (omega arith)
    ∙ ap (λ (s : List ℕ). s ++ take (length part) part) (w.bytes (omega arith))
    ∙ ap (λ (s : List ℕ). whole ++ s) (take-length part))

-- what is kept of the whole and a further part is kept of both together
pub window_next : (whole kept part : List ℕ) (seen : ℕ) → kept_length ≤ length kept → Window whole kept seen
    → Window (whole ++ part) (kept_with kept seen part) (window (seen + length part))
window_next whole kept part seen size w =
    record {
      counted =
          ap (λ (k : ℕ). window (k + length part)) w.counted
          ∙ window_window (length whole) (length part)
          ∙ ap window (sym (length-append whole part));
      bytes = λ h. kept_exact whole kept part seen size w (omega (arith, length-append whole part));
    }

-- a count that is its own window is within what is kept
pub counted_most : (n : ℕ) → window n ≡ n → n ≤ kept_length
counted_most n e = omega (arith, window_most n, e)

-- the bytes seen are an input that the bytes kept are the window of
pub window_seen : (kept : List ℕ) (seen : ℕ) → length (take seen kept) ≡ seen → window seen ≡ seen → Window (take seen kept) kept seen
window_seen kept seen size e = record { counted = sym e ∙ ap window (sym size); bytes = λ h. refl }

window_twice : (n : ℕ) → window (window n) ≡ window n
window_twice n =
    let none : n + 0 ≡ n = omega arith in
    let same : window n + 0 ≡ window n = omega arith in
    ap window (sym same) ∙ window_window n 0 ∙ ap window none

-- what counts a further part is its own window
pub counted_is : (r n : ℕ) → r ≡ window n → window r ≡ r
counted_is r n e = ap window e ∙ window_twice n ∙ sym e

-- a write begins at the bytes seen, or nothing is written
begins : (seen size more from n : ℕ) → from ≡ min seen size → n ≡ min more (size - from) → (from ≡ seen) ⊎ (n ≡ 0)
begins seen size more from n f r = go (leb seen size) refl
  where
    go : (b : Bool) → leb seen size ≡ b → (from ≡ seen) ⊎ (n ≡ 0)
    go true e = let h : seen ≤ size = leb-true seen size e in inl (omega arith)
    go false e = let h : size < seen = leb-false seen size e in inr (omega arith)

pasted : (kept part : List ℕ) (seen from n m : ℕ) → (from ≡ seen) ⊎ (n ≡ 0) → n ≡ m → paste kept from part n ≡ paste kept seen part m
pasted kept part seen from n m (inl e) r = rw (e, r)
pasted kept part seen from n m (inr z) r =
    ap (paste kept from part) z
    ∙ sym (paste-zero kept from part)
    ∙ paste-zero kept seen part
    ∙ ap (paste kept seen part) (sym z ∙ r)

-- what is kept after a write behind the bytes seen
pub kept_put : (kept part now : List ℕ) (seen from n k : ℕ) → now ≡ take n part → from ≡ min seen (length kept) → n ≡ min (length part) (length kept - from) → k ≡ n
    → put_mid from k kept now ≡ kept_with kept seen part
unfolding kept_with
kept_put kept part now seen from n k e f r s =
    let short : n ≤ length part = omega (arith, r) in
    let all : length (take n part) ≡ n = length-take-le n part short in
    put_mid-paste from k kept now (take n part) n e (sym s) (sym all)
    ∙ ap (λ (l : List ℕ). take from kept ++ l ++ drop (from + n) kept) (ap (λ (m : ℕ). take m (take n part)) (sym all) ∙ take-length (take n part))
    ∙ pasted kept part seen from n _ (begins seen (length kept) (length part) from n f r) (omega arith)

-- a further part takes the window of an input to the window of both together
pub window_kept : (whole kept part now : List ℕ) (seen r : ℕ) → kept_length ≤ length kept → now ≡ kept_with kept seen part → r ≡ window (seen + length part)
    → Window whole kept seen → Window (whole ++ part) now r
window_kept whole kept part now seen r size e d w = rw (e, d) (window_next whole kept part seen size w)
