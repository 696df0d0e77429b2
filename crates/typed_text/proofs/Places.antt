-- Lines and columns.
use Rattle.std.proofs.Common.{◌≡◌, refl, sym, ◌∙◌, ap, subst, Bool, true, false, cond, List, [], ◌∷◌, ℕ, zero, suc, ◌+◌, ◌≤◌, ◌<◌, length, take, get_or, arith}
use mathlib.Core.Logic.{◌⊎◌, inl, inr, ⊎_elim}
use native.Mathlib.Numerals.{add-one}
use borrow.Author.Tests.{eq-eqb, ne_eqb, eqb-true, leb-true, leb-false}
use lib.Dec.{leb}
use Rattle.std.specs.List.{count_by}
use Rattle.std.proofs.lemmas.List.{get_or-take}
use Rattle.std.proofs.lemmas.List.Sums.{count_by_more_yes, count_by_more_no}
use lib.Seq.{take-length}
use lib.ListN.{drop}
use Rattle.std.proofs.Common.{◌-◌, length-drop}
use Rattle.typed_text.specs.Diagnosis.{is_newline, line_number, line_start, up_to_newline}

-- the newlines before an offset
pub number_is : (text : List ℕ) (at : ℕ) → at ≤ length text → 1 + count_by is_newline (take at text) ≡ line_number text at
unfolding line_number
number_is text zero h = refl
number_is text (suc o) h = ap (λ (n : ℕ). 1 + count_by is_newline (take n text)) (sym (add-one o)) ∙ go (is_newline (get_or text o 0)) refl (number_is text o (omega arith))
  where
    go : (b : Bool) → is_newline (get_or text o 0) ≡ b → 1 + count_by is_newline (take o text) ≡ line_number text o → 1 + count_by is_newline (take (o + 1) text) ≡ line_number text o + cond b 1 0
    go true t p = omega (arith, count_by_more_yes is_newline text o 0 h t, p)
    go false t p = omega (arith, count_by_more_no is_newline text o 0 h t, p)

Holds : Bool → Type 0
Holds true = Unit {0}
Holds false = ⊥

split : (i o : ℕ) → i < suc o → (i < o) ⊎ (i ≡ o)
split i o h = go (leb o i) refl
  where
    go : (b : Bool) → leb o i ≡ b → (i < o) ⊎ (i ≡ o)
    go true e = inr (omega (arith, leb-true o i e))
    go false e = inl (leb-false o i e)

start_at : (text : List ℕ) (at i : ℕ) → i < at → get_or text i 0 ≡ 10 → ((k : ℕ) → i < k → k < at → get_or text k 0 ≡ 10 → ⊥) → i + 1 ≡ line_start text at
unfolding line_start Holds
start_at text zero i h e f = absurd (omega arith)
start_at text (suc o) i h e f = go (is_newline (get_or text o 0)) refl (λ l. start_at text o i l e (λ k a b. f k a (omega arith)))
  where
    go : (b : Bool) → is_newline (get_or text o 0) ≡ b → (i < o → i + 1 ≡ line_start text o) → i + 1 ≡ cond b (suc o) (line_start text o)
    go true t p =
        ⊎_elim
        (λ (l : i < o). absurd (f o l (omega arith) (eqb-true (get_or text o 0) 10 t)))
        (λ (s : i ≡ o). omega (arith, s))
        (split i o h)
    go false t p =
        ⊎_elim
        p
        (λ (s : i ≡ o). absurd (subst Holds (sym (eq-eqb (get_or text o 0) 10 (ap (λ (m : ℕ). get_or text m 0) (sym s) ∙ e)) ∙ t) tt))
        (split i o h)

-- behind the last newline before an offset
pub start_found : (text : List ℕ) (at i : ℕ) → i < at → get_or (take at text) i 0 ≡ 10 → ((k : ℕ) → i < k → k < at → get_or (take at text) k 0 ≡ 10 → ⊥)
    → (i + 1 ≡ line_start text at) × (i + 1 ≤ at)
start_found text at i h e f = (
  start_at text at i h (sym (get_or-take at text i 0 h) ∙ e) (λ k a b g. f k a b (get_or-take at text k 0 b ∙ g)),
  omega arith,
)

start_of_text : (text : List ℕ) (at : ℕ) → ((k : ℕ) → k < at → get_or text k 0 ≡ 10 → ⊥) → 0 ≡ line_start text at
unfolding line_start
start_of_text text zero f = refl
start_of_text text (suc o) f = rw (ne_eqb (get_or text o 0) 10 (f o (omega arith))) (start_of_text text o (λ k a. f k (omega arith)))

-- or where the text begins
pub start_none : (text : List ℕ) (at : ℕ) → ((k : ℕ) → k < at → get_or (take at text) k 0 ≡ 10 → ⊥) → (0 ≡ line_start text at) × (0 ≤ at)
start_none text at f = (start_of_text text at (λ k a g. f k a (get_or-take at text k 0 a ∙ g)), omega arith)

pub rest_is : (text : List ℕ) (at : ℕ) → take (length text - at) (drop at text) ≡ drop at text
rest_is text at = ap (λ (n : ℕ). take n (drop at text)) (sym (length-drop at text)) ∙ take-length (drop at text)

-- a line up to its newline
pub end_found : (rest : List ℕ) (n : ℕ) → n < length rest → get_or rest n 0 ≡ 10 → ((k : ℕ) → k < n → get_or rest k 0 ≡ 10 → ⊥) → n ≡ length (up_to_newline rest)
unfolding up_to_newline
end_found [] n h e f = absurd (omega arith)
end_found (b ∷ rest) zero h e f = rw (eq-eqb b 10 e) refl
end_found (b ∷ rest) (suc n) h e f = rw (ne_eqb b 10 (f 0 (omega arith))) (ap suc (end_found rest n (omega arith) e (λ k a. f (suc k) (omega arith))))

-- or to the text's end
pub end_none : (rest : List ℕ) → ((k : ℕ) → k < length rest → get_or rest k 0 ≡ 10 → ⊥) → length rest ≡ length (up_to_newline rest)
unfolding up_to_newline
end_none [] f = refl
end_none (b ∷ rest) f = rw (ne_eqb b 10 (f 0 (omega arith))) (ap suc (end_none rest (λ k a. f (suc k) (omega arith))))
