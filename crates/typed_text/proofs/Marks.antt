-- The parts of a diagnosis, one behind the other.
use Rattle.std.proofs.Common.{◌≡◌, refl, sym, ◌∙◌, ap, true, false, List, [], ◌∷◌, ◌++◌, ℕ, zero, suc, ◌+◌, ◌-◌, ◌/◌, ◌%◌, ◌^◌, ◌≤◌, ◌<◌, length, take, get_or, append_assoc, arith, length-append}
use native.Mathlib.Numerals.{add-one}
use native.Mathlib.Nat.{pow-le-pow_right}
use mathlib.Core.List.{append-nil}
use lib.Seq.{slice, take-suc, take-add}
use Rattle.std.proofs.lemmas.List.{drop-take, drop-drop, replicate-append-replicate}
use lib.ListN.{drop, replicate}
use Rattle.io.specs.Digits.{hex_digit_ascii, last_digits, IsDigitCount}
use Rattle.definition.specs.Lists.{concat_map}
use Rattle.frames.proofs.Texts.{both}
use Rattle.typed_text.specs.Diagnosis.{line_start, line_end, heading, shown, blank, shown_as, shown_from, shown_line, mark, diagnosis}

each_both : (f : ℕ → List ℕ) (xs ys : List ℕ) → concat_map f (xs ++ ys) ≡ concat_map f xs ++ concat_map f ys
each_both f [] ys = refl
each_both f (x ∷ xs) ys = ap (λ (l : List ℕ). f x ++ l) (each_both f xs ys) ∙ sym (append_assoc (f x) (concat_map f xs) (concat_map f ys))

each_append : (f : ℕ → List ℕ) (xs : List ℕ) (b : ℕ) → concat_map f (xs ++ (b ∷ [])) ≡ concat_map f xs ++ f b
each_append f xs b = each_both f xs (b ∷ []) ∙ ap (λ (l : List ℕ). concat_map f xs ++ l) (append-nil (f b))

pub each_none : (f : ℕ → List ℕ) (out : List ℕ) → out ≡ out ++ concat_map f []
each_none f out = sym (append-nil out)

-- what is made of one byte more
pub each_next : (f : ℕ → List ℕ) (first out now glyph bytes : List ℕ) (i : ℕ) → i < length bytes → out ≡ first ++ concat_map f (take i bytes) → now ≡ out ++ glyph → glyph ≡ f (get_or bytes i 0)
    → now ≡ first ++ concat_map f (take (i + 1) bytes)
each_next f first out now glyph bytes i h p q e =
    both first out now (concat_map f (take i bytes)) glyph p q
    ∙ ap (λ (l : List ℕ). first ++ l)
    (ap (λ (l : List ℕ). concat_map f (take i bytes) ++ l) e
    ∙ sym (each_append f (take i bytes) (get_or bytes i 0))
    ∙ ap (concat_map f) (sym (take-suc bytes i 0 h) ∙ ap (λ (n : ℕ). take n bytes) (sym (add-one i))))

-- a space more
pub spaces_none : (out : List ℕ) → out ≡ out ++ replicate 0 32
spaces_none out = sym (append-nil out)

pub spaces_next : (first out now : List ℕ) (i : ℕ) → out ≡ first ++ replicate i 32 → now ≡ out ++ (32 ∷ []) → now ≡ first ++ replicate (i + 1) 32
spaces_next first out now i p q = both first out now (replicate i 32) (32 ∷ []) p q ∙ ap (λ (l : List ℕ). first ++ l) (replicate-append-replicate i 1 32)

pub two_digits : (n k : ℕ) → n < 256 → IsDigitCount 16 2 n k → k ≡ 2
two_digits n zero h d = absurd (omega (arith, d.0))
two_digits n (suc zero) h d = absurd (omega (arith, d.0))
two_digits n (suc (suc zero)) h d = refl
two_digits n (suc (suc (suc k))) h d =
    let large : 16 ^ 2 ≤ 16 ^ (suc (suc (suc k)) - 1) = pow-le-pow_right {n = 16} (omega arith) {i = 2} {j = suc (suc (suc k)) - 1} (omega arith) in
    absurd (omega (arith, large, d.2 (omega arith), h))

-- the two digits of a byte
pub byte_digits : (n k : ℕ) (s : List ℕ) → n < 256 → IsDigitCount 16 2 n k → s ≡ last_digits 16 k n → s ≡ hex_digit_ascii (n / 16) ∷ hex_digit_ascii (n % 16) ∷ []
byte_digits n k s h d e =
    e ∙ ap (λ (m : ℕ). last_digits 16 m n) (two_digits n k h d)
    ∙ ap (λ (m : ℕ). hex_digit_ascii m ∷ hex_digit_ascii (n % 16) ∷ []) (omega arith)

-- all three lines
pub diagnosis_is : (text a b c d now : List ℕ) (at start end : ℕ) → start ≡ line_start text at → end ≡ line_end text at → a ≡ heading text at → b ≡ a ++ shown_from false text start end
    → c ≡ b ++ (10 ∷ []) → d ≡ c ++ shown_from true text start at → now ≡ d ++ (94 ∷ 10 ∷ []) → now ≡ diagnosis text at
unfolding diagnosis shown_line mark
diagnosis_is text a b c d now at start end n m p q r s t =
    rw (sym n, sym m) (both [] c now _ _ (both [] a c _ _ p (both a b c _ _ q r)) (both c d now _ _ s t))

-- the bytes from one offset to another
pub slice_is : (start end : ℕ) (text : List ℕ) → start ≤ end → take (end - start) (drop start text) ≡ slice start end text
slice_is start end text h =
    let whole : start + (end - start) ≡ end = omega arith in
    sym (drop-take start (end - start) text) ∙ ap (λ (n : ℕ). drop start (take n text)) whole

-- bytes as they are shown, and as spaces
part_shown : (xs : List ℕ) → concat_map (shown_as false) xs ≡ concat_map shown xs
unfolding shown_as
part_shown [] = refl
part_shown (x ∷ xs) = ap (λ (l : List ℕ). shown x ++ l) (part_shown xs)

part_blank : (xs : List ℕ) → concat_map (shown_as true) xs ≡ replicate (length (concat_map shown xs)) 32
unfolding shown_as blank
part_blank [] = refl
part_blank (x ∷ xs) =
    ap (λ (l : List ℕ). replicate (length (shown x)) 32 ++ l) (part_blank xs)
    ∙ replicate-append-replicate (length (shown x)) (length (concat_map shown xs)) 32
    ∙ ap (λ (n : ℕ). replicate n 32) (sym (length-append (shown x) (concat_map shown xs)))

-- a line as it is shown: up to the mark, and from it on
pub line_shown : (text : List ℕ) (start at end : ℕ) → start ≤ at → at ≤ end →
    concat_map shown (take (at - start) (drop start text)) ++ concat_map shown (take (end - at) (drop at text)) ≡ shown_from false text start end
line_shown text start at end h k =
    sym (each_both shown (take (at - start) (drop start text)) (take (end - at) (drop at text)))
    ∙ ap (concat_map shown) (parts ∙ slice_is start end text (omega arith))
    ∙ sym (part_shown (slice start end text))
  where
    there : at ≡ start + (at - start)
    there = omega arith

    long : at - start + (end - at) ≡ end - start
    long = omega arith

    parts : take (at - start) (drop start text) ++ take (end - at) (drop at text) ≡ take (end - start) (drop start text)
    parts =
        ap (λ (l : List ℕ). take (at - start) (drop start text) ++ take (end - at) l) (ap (λ (n : ℕ). drop n text) there ∙ sym (drop-drop (at - start) start text))
        ∙ sym (take-add (at - start) (end - at) (drop start text))
        ∙ ap (λ (n : ℕ). take n (drop start text)) long

-- under what is shown before the mark, as many spaces
pub spaces_under : (text before now : List ℕ) (start at width : ℕ) → start ≤ at → now ≡ before ++ concat_map shown (take (at - start) (drop start text)) → width ≡ length now - length before
    → replicate width 32 ≡ shown_from true text start at
spaces_under text before now start at width h p w =
    let size : width ≡ length (concat_map shown (take (at - start) (drop start text))) = omega (arith, w, ap length p, length-append before (concat_map shown (take (at - start) (drop start text)))) in
    ap (λ (n : ℕ). replicate n 32) size ∙ sym (part_blank (take (at - start) (drop start text))) ∙ ap (concat_map (shown_as true)) (slice_is start at text h)
