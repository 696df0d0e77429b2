-- What a line does to the counts.
use mathlib.Core.Path.{◌≡◌, refl}
use mathlib.Core.Bool.{Bool, true, false, cond, ◌||◌}
use mathlib.Core.List.{List, [], ◌∷◌}
use mathlib.Core.Logic.{◌⊎◌, inl, inr}
use Prim.Native.Nat.{ℕ, ◌+◌, ◌≤◌}
use native.Mathlib.Omega.{arith}
use lib.Dec.{eqb, ltb}
use lib.ListN.{length, get_or}
use borrow.Author.Tests.{ltb-false, eq-eqb, ne_eqb}
use Rattle.std.specs.Prelude.{Ok, Err}
use Rattle.definition.specs.Lists.{empty}
use Rattle.cases.specs.Compared.{Compared, difference_of}
use Rattle.cases.specs.Tally.{one_more, one_failed, one_line, one_case, judged, finished, Since}
use Rattle.cases.specs.File.{file_start}
use Rattle.cases.specs.declared.reading.Tally.{Tally}

-- ---- a whole line
empty_none : (line : List ℕ) → length line ≡ 0 → empty line ≡ true
empty_none [] e = refl
empty_none (b ∷ bs) e = absurd (omega arith)

empty_some : (line : List ℕ) → (length line ≡ 0 → ⊥) → empty line ≡ false
empty_some [] h = absurd (h refl)
empty_some (b ∷ bs) h = refl

module _ (line : List ℕ) (t : Tally) where
  pub finished_empty : length line ≡ 0 → one_line t ≡ finished line t
  unfolding finished
  finished_empty h = rw (empty_none line h)

  pub finished_comment : (length line ≡ 0 → ⊥) → get_or line 0 0 ≡ 35 → one_line t ≡ finished line t
  unfolding finished
  finished_comment h q = rw (empty_some line h, eq-eqb _ _ q)

  pub finished_case : (length line ≡ 0 → ⊥) → (get_or line 0 0 ≡ 35 → ⊥) → judged (difference_of line) (one_case (one_line t)) ≡ finished line t
  unfolding finished
  finished_case h q = rw (empty_some line h, ne_eqb _ _ q)

pub ruleset finishing = (finished_empty, finished_comment, finished_case)

-- ---- cases and failures do not fall
one_more_lem : (n : ℕ) → (one_more n ≡ n + 1) ⊎ ((one_more n ≡ n) × (1000000000 ≤ n))
unfolding one_more
one_more_lem n = go (ltb n 1000000000) refl where
  go : (b : Bool) → ltb n 1000000000 ≡ b → (one_more n ≡ n + 1) ⊎ ((one_more n ≡ n) × (1000000000 ≤ n))
  go true h = inl (rw h)
  go false h = inr (rw h, ltb-false _ _ h)

pub since_same : (t : Tally) → Since 0 t t
since_same t = record { cases = omega arith; failures = omega arith; rise = λ h. omega arith }

pub since_then : {a b c : Tally} → Since 0 a b → Since 0 b c → Since 0 a c
since_then p q =
    record {
      cases = omega (arith, p.cases, q.cases);
      failures = omega (arith, p.failures, q.failures);
      rise = λ h. omega (arith, q.rise h, p.rise (omega (arith, q.cases)));
    }

failed_or_same : (c : Compared) (t : Tally) → (judged c t ≡ t) ⊎ (judged c t ≡ one_failed t)
unfolding judged
failed_or_same (Ok u) t = inl refl
failed_or_same (Err d) t = inr refl

since_case : (t : Tally) → Since 0 t (one_case (one_line t))
unfolding one_case one_line
since_case t = go (one_more_lem t.cases) where
  go : (one_more t.cases ≡ t.cases + 1) ⊎ ((one_more t.cases ≡ t.cases) × (1000000000 ≤ t.cases)) → Since 0 t (one_case (one_line t))
  go (inl h) = record { cases = omega (arith, h); failures = omega arith; rise = λ l. omega (arith, h) }
  go (inr h) = record { cases = omega (arith, h.0); failures = omega arith; rise = λ l. omega (arith, h.0) }

since_failed : (t : Tally) → Since 0 t (one_failed (one_case (one_line t)))
unfolding one_failed one_case one_line
since_failed t = go (one_more_lem t.cases) (one_more_lem t.failed) where
  go :
      (one_more t.cases ≡ t.cases + 1) ⊎ ((one_more t.cases ≡ t.cases) × (1000000000 ≤ t.cases)) →
      (one_more t.failed ≡ t.failed + 1) ⊎ ((one_more t.failed ≡ t.failed) × (1000000000 ≤ t.failed)) →
      Since 0 t (one_failed (one_case (one_line t)))
  go (inl h) (inl k) = record { cases = omega (arith, h); failures = omega (arith, k); rise = λ l. omega (arith, h, k) }
  go (inl h) (inr k) = record { cases = omega (arith, h); failures = omega (arith, k.0); rise = λ l. omega (arith, h, k.0) }
  go (inr h) (inl k) = record { cases = omega (arith, h.0); failures = omega (arith, k); rise = λ l. omega (arith, h.0, h.1, l) }
  go (inr h) (inr k) = record { cases = omega (arith, h.0); failures = omega (arith, k.0); rise = λ l. omega (arith, h.0, k.0) }

since_judged : (t : Tally) (d : Compared) → Since 0 t (judged d (one_case (one_line t)))
since_judged t d = go (failed_or_same d (one_case (one_line t))) where
  go : (judged d (one_case (one_line t)) ≡ one_case (one_line t)) ⊎ (judged d (one_case (one_line t)) ≡ one_failed (one_case (one_line t))) → Since 0 t (judged d (one_case (one_line t)))
  go (inl h) = rw h (since_case t)
  go (inr h) = rw h (since_failed t)

since_line : (t : Tally) → Since 0 t (one_line t)
unfolding one_line
since_line t = record { cases = omega arith; failures = omega arith; rise = λ h. omega arith }

pub since_finished : (line : List ℕ) (t : Tally) {r : Tally} → r ≡ finished line t → Since 0 t r
unfolding finished
since_finished line t {r} e = rw e (go (empty line || eqb (get_or line 0 0) 35)) where
  go : (b : Bool) → Since 0 t (cond b (one_line t) (judged (difference_of line) (one_case (one_line t))))
  go true = since_line t
  go false = since_judged t (difference_of line)

-- the end of a file, and a file that can't be read to its end
pub since_end : (t : Tally) {r : Tally} → Since 0 (file_start t) r → Since 1 t r
since_end t p = record { cases = p.cases; failures = p.failures; rise = λ h. omega (arith, p.rise h) }

pub since_report : (t : Tally) {s r : Tally} → Since 0 (file_start t) s → r ≡ one_failed s → Since 1 t r
unfolding one_failed
since_report t {s} p e = rw e (go (one_more_lem s.failed)) where
  go : (one_more s.failed ≡ s.failed + 1) ⊎ ((one_more s.failed ≡ s.failed) × (1000000000 ≤ s.failed)) → Since 1 t (one_failed s)
  go (inl h) = record { cases = p.cases; failures = omega (arith, h, p.failures); rise = λ l. omega (arith, h, p.rise l) }
  go (inr h) = record { cases = p.cases; failures = omega (arith, h.0, p.failures); rise = λ l. omega (arith, h.0, p.rise l) }
