-- What the functions on the bytes find, on the contracts of their callees.
use mathlib.Core.Path.{◌≡◌, refl, sym, ap, subst, ◌∙◌}
use mathlib.Core.Bool.{Bool, true, false, cond, ◌&&◌}
use mathlib.Core.List.{List, [], ◌∷◌}
use Prim.Native.Nat.{ℕ, suc, ◌+◌, ◌*◌, ◌-◌, ◌≤◌, ◌<◌}
use native.Mathlib.Omega.{arith}
use native.Mathlib.Numerals.{add-one}
use lib.Dec.{leb}
use lib.ListN.{length, get_or, take, drop, length-append, length-drop, drop_of_length-le, get_or-eq_default}
use lib.Seq.{drop-cons, drop-drop, take_all}
use borrow.Author.Tests.{eqb-true, eqb-false, ne_eqb, leb-true, leb-false}
use Rattle.definition.specs.Limits.{largest_atom}
use Rattle.grammar.specs.Tokens.{Token, name, invalid}
use Rattle.grammar.specs.Lexing.{is_digit, Digits, value_from, value, placed, Lexes, nothing, a_space, a_token, no_token}
use Rattle.grammar.specs.Scan.{Scan, found, lost, table, first_hit, digits_of, well_begun, name_by, scan, lexed}
use Rattle.grammar.proofs.Lexed.{scan_sound, scan_lost, spells_some, lexes_at, lexed_as}
use Rattle.lexer.specs.Words.{word_of}
use Rattle.std.specs.Prelude.{nat_eq, take_while}
use native.Mathlib.Nat.{add-zero}
use Rattle.std.specs.List.{prefix_len}
use Rattle.std.proofs.lemmas.List.Folds.{length-prefix_len}
use Rattle.std.proofs.lemmas.List.Sums.{prefix_len-le-length, take_while-cons}
use Rattle.lexer.specs.Bytes.{name_by_digits, Shown, no_more, token, not_spelled, Shows, SpelledAs, Begins}
use Rattle.lexer.specs.declared.Word.{Word}
use Rattle.lexer.specs.declared.Spelling.{Spelling}

-- the digits
all_digits : (bs : List ℕ) → Digits (digits_of bs)
all_digits [] = tt
all_digits (b ∷ bs) = go (is_digit b) refl (all_digits bs)
  where
    go : (x : Bool) → is_digit b ≡ x → Digits (digits_of bs) → Digits (cond x (b ∷ digits_of bs) [])
    go true e h = (e, h)
    go false e h = tt

-- the number does not shrink
least : (v : ℕ) (ds : List ℕ) → v ≤ value_from v ds
unfolding value_from
least v [] = omega arith
least v (d ∷ ds) = omega (arith, least (10 * v + (d - 48)) ds)

-- a token that the scan finds is the next; where it finds none, an invalid one is
shows_found : (text : List ℕ) (at : ℕ) (t : Token) (k : ℕ) → scan (drop at text) ≡ found t k → at < length text → Shown text at at (at + k) (word_of t)
shows_found text at t k e h =
    let g = scan_sound (drop at text) t k e in
    let x : Lexes (at + k) (drop k (drop at text)) (lexed text (at + k)) = subst (λ (v : List ℕ). Lexes (at + k) v (lexed text (at + k))) (sym (drop-drop k at text)) (lexes_at text (at + k)) in
    let y : Lexes (at + length g.bytes) (drop k (drop at text)) (lexed text (at + k)) = subst (λ (i : ℕ). Lexes (at + i) (drop k (drop at text)) (lexed text (at + k))) g.size x in
    let m : 1 ≤ k = omega (arith, spells_some g.spells, g.size) in
    token t
    (lexed_as text at (placed at t ∷ lexed text (at + k)) (subst (λ (v : List ℕ). Lexes at v (placed at t ∷ lexed text (at + k))) g.split (a_token at g.spells g.follows y)))
    (omega arith)
    (omega (arith, ap length g.split, length-append g.bytes (drop k (drop at text)), length-drop at text, g.size))

shows_lost : (text : List ℕ) (at end : ℕ) → scan (drop at text) ≡ lost → at < length text → (get_or text at 0 ≡ 32 → ⊥) → Shown text at at end Word.Invalid
shows_lost text at end e h n =
    let d = drop-cons text at 0 h in
    not_spelled (lexed_as text at (placed at invalid ∷ []) (subst (λ (v : List ℕ). Lexes at v (placed at invalid ∷ [])) (sym d)
    (no_token at (get_or text at 0) (drop (suc at) text) n (scan_lost (get_or text at 0 ∷ drop (suc at) text) (ap scan (sym d) ∙ e)))))

-- the digits make the name, or none
digits_while : (bs : List ℕ) → take_while is_digit bs ≡ digits_of bs
digits_while [] = refl
digits_while (b ∷ bs) = take_while-cons is_digit b bs ∙ ap (λ (v : List ℕ). cond (is_digit b) (b ∷ v) []) (digits_while bs)

module _ (bs : List ℕ) (n : ℕ) (e : n ≡ length (take_while is_digit bs)) where
  counted : n ≡ length (digits_of bs)
  counted = e ∙ ap length (digits_while bs)

  taken : take n bs ≡ digits_of bs
  taken = ap (λ (i : ℕ). take i bs) (e ∙ length-prefix_len is_digit bs) ∙ digits_while bs

  few : n ≤ length bs
  few = omega (arith, e, length-prefix_len is_digit bs, prefix_len-le-length is_digit bs)

  pub taken_digits : Digits (take n bs)
  taken_digits = subst Digits (sym taken) (all_digits bs)

  pub named : (w : Word) → w ≡ name_by_digits (take n bs) → SpelledAs (name_by (digits_of bs)) (1 + length bs) (record { word = w; size = 1 + n })
  unfolding name_by
  named w q = subst (λ (v : Word). SpelledAs (name_by (digits_of bs)) (1 + length bs) (record { word = v; size = 1 + n })) (sym (q ∙ ap name_by_digits taken)) (go (well_begun (digits_of bs) && leb (value (digits_of bs)) largest_atom))
    where
      go : (x : Bool) → SpelledAs (cond x (found (name (value (digits_of bs))) (suc (length (digits_of bs)))) lost) (1 + length bs) (record { word = cond x (Word.Name (value (digits_of bs))) Word.Invalid; size = 1 + n })
      go true = (refl, omega (arith, counted), omega (arith, few))
      go false = (refl, omega (arith, few))

-- the number of the digits up to one of them
pub record More (ds : List ℕ) (i n : ℕ) : Type 0 where
  pub digits : Digits (drop (i + 1) ds)
  pub goes : value_from (10 * n + (get_or ds i 0 - 48)) (drop (i + 1) ds) ≡ value ds
  pub least : 10 * n + (get_or ds i 0 - 48) ≤ value ds

pub more : (ds : List ℕ) (i n : ℕ) → i < length ds → (n ≤ largest_atom) × Digits (drop i ds) × (value_from n (drop i ds) ≡ value ds) → More ds i n
unfolding value_from
more ds i n h (_, k, e) =
    let d = drop-cons ds i 0 h in
    let next : ℕ = 10 * n + (get_or ds i 0 - 48) in
    let g : value_from next (drop (i + 1) ds) ≡ value ds = rw add-one (ap (value_from n) (sym d) ∙ e) in
    record { digits = rw add-one ((subst Digits d k).1); goes = g; least = omega (arith, g, least next (drop (i + 1) ds)) }

pub all_counted : (ds : List ℕ) (i n : ℕ) → length ds ≤ i → value_from n (drop i ds) ≡ value ds → n ≡ value ds
unfolding value_from
all_counted ds i n h e = ap (value_from n) (sym (drop_of_length-le ds h)) ∙ e

-- what begins the bytes
-- a slice up to the end
rest_is : (bs : List ℕ) (i : ℕ) → take (length bs - i) (drop i bs) ≡ drop i bs
rest_is bs i = take_all (length bs - i) (drop i bs) (omega (arith, length-drop i bs))

pub begins_name : (bs : List ℕ) (x : Spelling) → 0 < length bs → get_or bs 0 0 ≡ 97 → SpelledAs (name_by (digits_of (take (length bs - 1) (drop 1 bs)))) (1 + length (take (length bs - 1) (drop 1 bs))) x → Begins bs x
unfolding scan
begins_name bs x h e s =
    let q = rest_is bs 1 in
    let z : 1 + length (drop 1 bs) ≡ length bs = omega (arith, length-drop 1 bs) in
    let w : name_by (digits_of (drop 1 bs)) ≡ scan bs = sym (rw e refl) in
    let t : SpelledAs (name_by (digits_of (drop 1 bs))) (1 + length (drop 1 bs)) x = subst (λ (v : List ℕ). SpelledAs (name_by (digits_of v)) (1 + length v) x) q s in
    (λ n. absurd (omega arith), λ _. subst (λ (v : Scan). SpelledAs v (length bs) x) w (subst (λ (i : ℕ). SpelledAs (name_by (digits_of (drop 1 bs))) i x) z t))

pub begins_fixed : (bs : List ℕ) (x : Spelling) → 0 < length bs → (get_or bs 0 0 ≡ 97 → ⊥) → SpelledAs (first_hit table (get_or bs 0 0) (get_or bs 1 0) (get_or bs 2 0)) (length bs) x → Begins bs x
unfolding scan
begins_fixed bs x h n s = (λ e. absurd (omega arith), λ _. rw (ne_eqb (get_or bs 0 0) 97 n) s)

-- at a place
shows : (text : List ℕ) (at : ℕ) (s : Scan) (most : ℕ) (x : Spelling) → at < length text → (get_or text at 0 ≡ 32 → ⊥) → scan (drop at text) ≡ s → SpelledAs s most x → Shown text at at (at + x.size) x.word
shows text at (found t k) most x h n e (w, z, _) = subst (λ (v : Word). Shown text at at (at + x.size) v) (sym w) (subst (λ (i : ℕ). Shown text at at (at + i) (word_of t)) (sym z) (shows_found text at t k e h))
shows text at lost most x h n e (w, _) = subst (λ (v : Word). Shown text at at (at + x.size) v) (sym w) (shows_lost text at (at + x.size) e h n)

-- after the spaces
-- a space is passed on
pub space_next : (text : List ℕ) (i : ℕ) → i < length text → get_or text i 0 ≡ 32 → lexed text i ≡ lexed text (suc i)
space_next text i h e =
    let d : 32 ∷ drop (suc i) text ≡ drop i text = ap (λ (x : ℕ). x ∷ drop (suc i) text) (sym e) ∙ sym (drop-cons text i 0 h) in
    lexed_as text i (lexed text (suc i)) (subst (λ (v : List ℕ). Lexes i v (lexed text (suc i))) d (a_space (lexes_at text (suc i))))

abbrev is_space : ℕ → Bool
is_space b = nat_eq b 32

record After (text : List ℕ) (at start : ℕ) : Type 0 where
  inside : start ≤ length text
  past : at ≤ start
  same : lexed text at ≡ lexed text start
  no_space : get_or text start 0 ≡ 32 → ⊥

after_spaces : (text bs : List ℕ) (at : ℕ) → at ≤ length text → drop at text ≡ bs → After text at (at + prefix_len is_space bs)
after_spaces text [] at le e =
    let h : length text ≤ at = omega (arith, ap length e, length-drop at text) in
    rw add-zero (record { inside = le; past = omega arith; same = refl; no_space = λ q. omega (arith, q, get_or-eq_default text 0 h) })
after_spaces text (b ∷ bs) at le e = go (is_space b) refl (after_spaces text bs (suc at))
  where
    h : at < length text
    h = omega (arith, ap length e, length-drop at text)

    both : get_or text at 0 ∷ drop (suc at) text ≡ b ∷ bs
    both = sym (drop-cons text at 0 h) ∙ e

    here : get_or text at 0 ≡ b
    here = let q = both in cc

    others : drop (suc at) text ≡ bs
    others = let q = both in cc

    go : (x : Bool) → is_space b ≡ x → (suc at ≤ length text → drop (suc at) text ≡ bs → After text (suc at) (suc at + prefix_len is_space bs)) → After text at (at + cond x (1 + prefix_len is_space bs) 0)
    go true q more =
        let m = more h others in
        let z : suc at + prefix_len is_space bs ≡ at + (1 + prefix_len is_space bs) = omega arith in
        let w : b ≡ 32 = eqb-true b 32 q in
        subst (After text at) z (record { inside = m.inside; past = omega (arith, m.past); same = space_next text at h (here ∙ w) ∙ m.same; no_space = m.no_space })
    go false q more = rw add-zero (record { inside = le; past = omega arith; same = refl; no_space = λ z. eqb-false b 32 q (sym here ∙ z) })

-- the token that is next from a place behind spaces is next from before them
pub shows_moved : (text : List ℕ) (at start : ℕ) {from to : ℕ} {w : Word} → at ≤ start → lexed text at ≡ lexed text start → Shown text start from to w → Shown text at from to w
shows_moved text at start le e (no_more a b) = no_more (e ∙ a) b
shows_moved text at start le e (token t l m i) = token t (e ∙ l) (omega (arith, le)) i
shows_moved text at start le e (not_spelled l) = not_spelled (e ∙ l)

pub shows_after : (text : List ℕ) (at n : ℕ) (x : Spelling) → at ≤ length text → n ≡ length (take_while is_space (take (length text - at) (drop at text))) →
    Begins (take (length text - (at + n)) (drop (at + n) text)) x → Shows text at (record { word = x.word; start = at + n; end = at + n + x.size })
shows_after text at n x h c begun = (spaces.inside, go (leb (suc (at + n)) (length text)) refl)
  where
    counted : n ≡ prefix_len is_space (drop at text)
    counted = c ∙ ap (λ (v : List ℕ). length (take_while is_space v)) (rest_is text at) ∙ length-prefix_len is_space (drop at text)

    spaces : After text at (at + n)
    spaces = subst (λ (i : ℕ). After text at (at + i)) (sym counted) (after_spaces text (drop at text) at h refl)

    here : Begins (drop (at + n) text) x
    here = subst (λ (v : List ℕ). Begins v x) (rest_is text (at + n)) begun

    move : {w : Word} → Shown text (at + n) (at + n) ((at + n) + x.size) w → Shown text at (at + n) ((at + n) + x.size) w
    move = shows_moved text at (at + n) spaces.past spaces.same

    go : (b : Bool) → leb (suc (at + n)) (length text) ≡ b → Shown text at (at + n) ((at + n) + x.size) x.word
    go true q =
        let h : (at + n) < length text = leb-true (suc (at + n)) (length text) q in
        move (shows text (at + n) (scan (drop (at + n) text)) (length (drop (at + n) text)) x h spaces.no_space refl (here.1 (omega (arith, length-drop (at + n) text))))
    go false q =
        let h : length text ≤ (at + n) = omega (arith, leb-false (suc (at + n)) (length text) q) in
        let w : x.word ≡ Word.End = (here.0 (omega (arith, length-drop (at + n) text))).0 in
        subst (λ (v : Word). Shown text at (at + n) ((at + n) + x.size) v) (sym w)
        (no_more (spaces.same ∙ lexed_as text (at + n) [] (subst (λ (v : List ℕ). Lexes (at + n) v []) (sym (drop_of_length-le text h)) nothing)) (omega (arith, spaces.inside)))
