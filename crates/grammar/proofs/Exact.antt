-- Over tokens: the definitional reader takes a text and says its formulas, or answers the tokens from the first on that can't continue; so tokens that the automaton takes can be continued.
use mathlib.Core.Path.{◌≡◌, refl, ap, subst, ◌∙◌}
use mathlib.Core.Bool.{Bool, true, false}
use mathlib.Core.List.{List, [], ◌∷◌, ◌++◌}
use mathlib.Core.Option.{Option, none, some}
use Prim.Native.Nat.{ℕ, zero, suc, ◌+◌, ◌*◌, ◌≤◌, ◌<◌}
use native.Mathlib.Omega.{arith}
use lib.Dec.{eqb}
use lib.ListN.{length}
use borrow.Author.Tests.{eqb-true, eqb-false}
use Rattle.definition.specs.Formula.{Form}
use Rattle.grammar.specs.Tokens.{Sign, Joint, Token, name, sign, joint, opening, closing, newline, invalid, signed, joined, level, loosest, Side, leftward, rightward, side}
use Rattle.grammar.specs.Grammar.{Text, blank, Viable}
use Rattle.grammar.proofs.Reader.{Res, ok, stuck, spent, and_then, closed, choice, phrase, more}
use Rattle.grammar.specs.Automaton.{Ends, State, fresh, step, runs, run, Halts, Takes, Fails}
use Rattle.grammar.proofs.Connectives.{one_side}
use Rattle.grammar.proofs.Automaton.{runs_append, text_runs, halts_not, refused_there, finish, finish_runs}
use Rattle.grammar.proofs.Taking.{ends_operand, shorter, takes_name, takes_sign, takes_brackets, takes_single, takes_left, takes_right, fails_here, fails_sign, fails_inside, not_looser, fails_refused, fails_later, halts_refused, halts_line, halts_next, text_line}

-- what reading a phrase came to: it is taken, and what follows ends it; or it fails where the automaton stops
data Result (l : ℕ) (ts : List Token) : Res → Type 0 where
  taken : {p : Form} {r : List Token} → Takes l ts p r → Ends l r → Result l ts (ok p r)
  failed : {r : List Token} → Fails ts r → Result l ts (stuck r)

signs : (s : Sign) (ts : List Token) (x : Res) → Result 0 ts x → Result 0 (sign s ∷ ts) (and_then x (λ p r. ok (signed s p) r))
signs s ts _ (taken h e) = taken (takes_sign s h) e
signs s ts _ (failed h) = failed (fails_sign s h)

-- a bracketed formula, by what follows the formula in it
closes : (ts : List Token) (p : Form) (r : List Token) → Takes loosest ts p r → Ends loosest r → Result 0 (opening ∷ ts) (closed p r)
closes ts p [] h e = failed (fails_refused h (λ d. tt))
closes ts p (name a ∷ r) h e = failed (fails_refused h (λ d. refl))
closes ts p (sign s ∷ r) h e = failed (fails_refused h (λ d. refl))
closes ts p (joint j ∷ r) h e = absurd (not_looser j e)
closes ts p (opening ∷ r) h e = failed (fails_refused h (λ d. refl))
closes ts p (closing ∷ r) h e = taken (takes_brackets h) (ends_operand r)
closes ts p (newline ∷ r) h e = failed (fails_refused h (λ d. refl))
closes ts p (invalid ∷ r) h e = failed (fails_refused h (λ d. refl))

bracket : (ts : List Token) (x : Res) → Result loosest ts x → Result 0 (opening ∷ ts) (and_then x closed)
bracket ts _ (taken {p = p} {r = r} h e) = closes ts p r h e
bracket ts _ (failed h) = failed (fails_inside h)

-- what stands right of a joint
on_left : (j : Joint) (l : ℕ) (ts us : List Token) (p : Form) (x : Res) (k : Form → List Token → Res) → level j ≡ suc l → side j ≡ leftward →
    Takes (suc l) ts p (joint j ∷ us) → Result l us x →
    ((q : Form) (r : List Token) → Takes (suc l) ts (joined j p q) r → Ends l r → length r < length us → Result (suc l) ts (k q r)) →
    Result (suc l) ts (and_then x k)
on_left j l ts us p _ k e s h (taken {p = q} {r = r} g f) go = go q r (takes_left j e s h g) f (shorter g)
on_left j l ts us p _ k e s h (failed g) go = failed (fails_later j h g)

on_right : (j : Joint) (l : ℕ) (ts us : List Token) (p : Form) (x : Res) → level j ≡ suc l → side j ≡ rightward →
    Takes l ts p (joint j ∷ us) → Result (suc l) us x → Result (suc l) ts (and_then x (λ q r. ok (joined j p q) r))
on_right j l ts us p _ e s h (taken g f) = taken (takes_right j e s h g) f
on_right j l ts us p _ e s h (failed g) = failed (fails_later j h g)

-- where the phrase's joint is not of this level
past : (j : Joint) (l : ℕ) → l < level j → (eqb (level j) (suc l) ≡ false) → suc l < level j
past j l h e = omega (arith, eqb-false (level j) (suc l) e)

choosing : (j : Joint) (l : ℕ) (ts us : List Token) (p : Form) (goLeft goRight : Unit {0} → Res) → Takes (suc l) ts p (joint j ∷ us) → l < level j →
    (level j ≡ suc l → side j ≡ leftward → Result (suc l) ts (goLeft tt)) →
    (level j ≡ suc l → side j ≡ rightward → Result (suc l) ts (goRight tt)) →
    (b : Bool) → eqb (level j) (suc l) ≡ b → (s : Side) → side j ≡ s → Result (suc l) ts (choice b s (ok p (joint j ∷ us)) goLeft goRight)
choosing j l ts us p gl gr h f a b false e s q = taken h (past j l f e)
choosing j l ts us p gl gr h f a b true e leftward q = a (eqb-true (level j) (suc l) e) q
choosing j l ts us p gl gr h f a b true e rightward q = b (eqb-true (level j) (suc l) e) q

-- a phrase of the tighter level, and what follows it
loosen : (l : ℕ) (ts : List Token) (x : Res) (k : Form → List Token → Res) → Result l ts x →
    ((p : Form) (r : List Token) → Takes l ts p r → Ends l r → Result (suc l) ts (k p r)) → Result (suc l) ts (and_then x k)
loosen l ts _ k (taken {p = p} {r = r} h e) go = go p r h e
loosen l ts _ k (failed h) go = failed h

mutual
  unfolding phrase more

  sound : (m l : ℕ) (ts : List Token) → l ≤ loosest → 8 * length ts + l < m → Result l ts (phrase m l ts)
  sound zero l ts le h = absurd (omega arith)
  sound (suc n) zero [] le h = failed (fails_here [] tt)
  sound (suc n) zero (name a ∷ ts) le h = taken (takes_name a ts) (ends_operand ts)
  sound (suc n) zero (sign s ∷ ts) le h = signs s ts (phrase n 0 ts) (sound n 0 ts (omega arith) (omega arith))
  sound (suc n) zero (opening ∷ ts) le h = bracket ts (phrase n loosest ts) (sound n loosest ts (omega arith) (omega arith))
  sound (suc n) zero (joint j ∷ ts) le h = failed (fails_here (joint j ∷ ts) (λ d. refl))
  sound (suc n) zero (closing ∷ ts) le h = failed (fails_here (closing ∷ ts) (λ d. refl))
  sound (suc n) zero (newline ∷ ts) le h = failed (fails_here (newline ∷ ts) (λ d. refl))
  sound (suc n) zero (invalid ∷ ts) le h = failed (fails_here (invalid ∷ ts) (λ d. refl))
  sound (suc n) (suc l) ts le h =
      loosen l ts (phrase n l ts) (λ p r. more n l p r) (sound n l ts (omega arith) (omega arith))
      (λ p r g e. sound_more n l ts p r (omega arith) (omega (arith, shorter g)) (takes_single g) (λ j us f s q. subst (λ (v : List Token). Takes l ts p v) q g) e)

  sound_more : (m l : ℕ) (ts : List Token) (p : Form) (r : List Token) → l < loosest → 8 * length r + 7 ≤ m → Takes (suc l) ts p r →
      ((j : Joint) (us : List Token) → level j ≡ suc l → side j ≡ rightward → r ≡ joint j ∷ us → Takes l ts p (joint j ∷ us)) → Ends l r → Result (suc l) ts (more m l p r)
  sound_more zero l ts p r le h g k e = absurd (omega arith)
  sound_more (suc n) l ts p [] le h g k e = taken g tt
  sound_more (suc n) l ts p (name a ∷ us) le h g k e = taken g tt
  sound_more (suc n) l ts p (sign s ∷ us) le h g k e = taken g tt
  sound_more (suc n) l ts p (joint j ∷ us) le h g k e =
      choosing j l ts us p (λ _. and_then (phrase n l us) (λ q r. more n l (joined j p q) r)) (λ _. and_then (phrase n (suc l) us) (λ q r. ok (joined j p q) r)) g e
      (λ f s. on_left j l ts us p (phrase n l us) (λ q r. more n l (joined j p q) r) f s g (sound n l us (omega arith) (omega arith))
      (λ q r c d w. sound_more n l ts (joined j p q) r le (omega arith) c (λ i vs x y z. absurd (one_side j i (suc l) f x s y)) d))
      (λ f s. on_right j l ts us p (phrase n (suc l) us) f s (k j us f s refl) (sound n (suc l) us (omega arith) (omega arith)))
      (eqb (level j) (suc l)) refl (side j) refl
  sound_more (suc n) l ts p (opening ∷ us) le h g k e = taken g tt
  sound_more (suc n) l ts p (closing ∷ us) le h g k e = taken g tt
  sound_more (suc n) l ts p (newline ∷ us) le h g k e = taken g tt
  sound_more (suc n) l ts p (invalid ∷ us) le h g k e = taken g tt

-- the formulas of the lines; or the tokens from the first on that can't continue
pub data Answer : Type 0 where
  all : List Form → Answer
  stopped : List Token → Answer

abbrev prefixed : Form → Answer → Answer
prefixed p (all ps) = all (p ∷ ps)
prefixed p (stopped r) = stopped r

abbrev ended : (List Token → Answer) → Form → List Token → Answer
ended k p [] = stopped []
ended k p (name a ∷ ts) = stopped (name a ∷ ts)
ended k p (sign s ∷ ts) = stopped (sign s ∷ ts)
ended k p (joint j ∷ ts) = stopped (joint j ∷ ts)
ended k p (opening ∷ ts) = stopped (opening ∷ ts)
ended k p (closing ∷ ts) = stopped (closing ∷ ts)
ended k p (newline ∷ ts) = prefixed p (k ts)
ended k p (invalid ∷ ts) = stopped (invalid ∷ ts)

abbrev line_of : (List Token → Answer) → Res → Answer
line_of k (ok p r) = ended k p r
line_of k (stuck r) = stopped r
line_of k spent = stopped []

unfoldable pub lines : ℕ → List Token → Answer
lines zero ts = stopped ts
lines (suc n) [] = all []
lines (suc n) (t ∷ ts) = line_of (λ us. lines n us) (phrase (8 * length (t ∷ ts) + 5) loosest (t ∷ ts))

-- the definitional reader of a text's tokens
abbrev pub read_tokens : List Token → Answer
read_tokens ts = lines (suc (length ts)) ts

-- what the answer tells of the tokens
pub data Answered (ts : List Token) : Answer → Type 0 where
  texted : {ps : List Form} → Text ts ps → Answered ts (all ps)
  halted : {r : List Token} → Halts fresh ts r → Answered ts (stopped r)

prefixes : {t : Token} {ts us : List Token} (p : Form) (a : Answer) → Takes loosest (t ∷ ts) p (newline ∷ us) → Answered us a → Answered (t ∷ ts) (prefixed p a)
prefixes p _ h (texted g) = texted (text_line h g)
prefixes p _ h (halted g) = halted (halts_next h g)

ends_line : {t : Token} {ts : List Token} (k : List Token → Answer) (p : Form) (r : List Token) → Takes loosest (t ∷ ts) p r → Ends loosest r →
    ((us : List Token) → length us < length r → Answered us (k us)) → Answered (t ∷ ts) (ended k p r)
ends_line k p [] h e go = halted (halts_refused h tt)
ends_line k p (name a ∷ r) h e go = halted (halts_refused h refl)
ends_line k p (sign s ∷ r) h e go = halted (halts_refused h refl)
ends_line k p (joint j ∷ r) h e go = absurd (not_looser j e)
ends_line k p (opening ∷ r) h e go = halted (halts_refused h refl)
ends_line k p (closing ∷ r) h e go = halted (halts_refused h refl)
ends_line k p (newline ∷ r) h e go = prefixes p (k r) h (go r (omega arith))
ends_line k p (invalid ∷ r) h e go = halted (halts_refused h refl)

a_line : {t : Token} {ts : List Token} (k : List Token → Answer) (x : Res) → Result loosest (t ∷ ts) x →
    ((us : List Token) → length us < length (t ∷ ts) → Answered us (k us)) → Answered (t ∷ ts) (line_of k x)
a_line k _ (taken {p = p} {r = r} h e) go = ends_line k p r h e (λ us l. go us (omega (arith, shorter h)))
a_line k _ (failed h) go = halted (halts_line h)

lines_answer : (n : ℕ) (ts : List Token) → length ts < n → Answered ts (lines n ts)
unfolding lines
lines_answer zero ts h = absurd (omega arith)
lines_answer (suc n) [] h = texted blank
lines_answer (suc n) (t ∷ ts) h =
    a_line (λ us. lines n us) (phrase (8 * length (t ∷ ts) + 5) loosest (t ∷ ts)) (sound (8 * length (t ∷ ts) + 5) loosest (t ∷ ts) (omega arith) (omega arith))
    (λ us l. lines_answer n us (omega arith))

pub answers : (ts : List Token) → Answered ts (read_tokens ts)
answers ts = lines_answer (suc (length ts)) ts (omega arith)

-- what stops belongs to no text
pub halted_no_text : (ts r : List Token) (ps : List Form) → Halts fresh ts r → Text ts ps → ⊥
halted_no_text ts r ps h t = halts_not ts r h (text_runs t)

-- tokens that the automaton takes can be continued to a text: the reader takes them with what it still wants
pub viable_run : (ts : List Token) (w : State) → run fresh ts ≡ some w → Viable ts
viable_run ts w e = go (read_tokens (ts ++ finish w)) (answers (ts ++ finish w))
  where
    ends : run fresh (ts ++ finish w) ≡ some fresh
    ends = runs_append (some fresh) ts (finish w) ∙ ap (λ (o : Option State). runs (finish w) o) e ∙ finish_runs w

    go : (a : Answer) → Answered (ts ++ finish w) a → Viable ts
    go _ (texted {ps = ps} t) = (finish w, ps, t)
    go _ (halted {r = r} h) = absurd (halts_not (ts ++ finish w) r h ends)

pub halted_not_viable : (b : List Token) (w : State) (t : Token) → run fresh b ≡ some w → step w t ≡ none → Viable (b ++ (t ∷ [])) → ⊥
halted_not_viable b w t e f (us, ps, x) = refused_there b w t us fresh e f (text_runs x)
