-- The automaton takes every text of the grammar to its end, and a token that it refuses can't continue a text.
use mathlib.Core.Path.{◌≡◌, refl, sym, ap, subst, ◌∙◌}
use mathlib.Core.List.{List, [], ◌∷◌, ◌++◌, append_assoc}
use mathlib.Core.Option.{Option, none, some}
use Prim.Native.Nat.{ℕ, zero, suc}
use native.Mathlib.Omega.{arith}
use Rattle.definition.specs.Formula.{Form}
use Rattle.grammar.specs.Tokens.{Joint, Token, name, joint, closing, newline}
use Rattle.grammar.specs.Automaton.{State, fresh, operand, operator, step, stepped, runs, run, Unfinished, Refuses, Halts}
use Rattle.grammar.specs.Grammar.{Phrase, named, under, bracketed, single, grouped_left, grouped_right, Text, blank, line}

pub runs_none : (ts : List Token) → runs ts none ≡ none
runs_none [] = refl
runs_none (t ∷ ts) = runs_none ts

pub runs_append : (o : Option State) (ts us : List Token) → runs (ts ++ us) o ≡ runs us (runs ts o)
runs_append o [] us = refl
runs_append o (t ∷ ts) us = runs_append (stepped o t) ts us

across : (j : Joint) (ts us : List Token) (d : ℕ) → run (operand d) ts ≡ some (operator d) → run (operand d) us ≡ some (operator d) → run (operand d) (ts ++ (joint j ∷ us)) ≡ some (operator d)
across j ts us d h k = runs_append (some (operand d)) ts (joint j ∷ us) ∙ ap (runs (joint j ∷ us)) h ∙ k

-- a phrase takes it from wanting an operand to wanting a joint
pub walks : {l : ℕ} {us : List Token} {p : Form} → Phrase l us p → (d : ℕ) → run (operand d) us ≡ some (operator d)
walks named d = refl
walks (under h) d = walks h d
walks (bracketed {ts = ts} h) d = runs_append (some (operand (suc d))) ts (closing ∷ []) ∙ ap (runs (closing ∷ [])) (walks h (suc d))
walks (single h) d = walks h d
walks (grouped_left j {ts = ts} {us = us} e s h k) d = across j ts us d (walks h d) (walks k d)
walks (grouped_right j {ts = ts} {us = us} e s h k) d = across j ts us d (walks h d) (walks k d)

fresh_as : (ts : List Token) (t : Token) (us : List Token) → run fresh (ts ++ (t ∷ us)) ≡ run (operand 0) (ts ++ (t ∷ us))
fresh_as [] t us = refl
fresh_as (u ∷ ts) t us = refl

pub text_runs : {ts : List Token} {ps : List Form} → Text ts ps → run fresh ts ≡ some fresh
text_runs blank = refl
text_runs (line {ts = ts} {us = us} h t) =
    fresh_as ts newline us ∙ runs_append (some (operand 0)) ts (newline ∷ us) ∙ ap (runs (newline ∷ us)) (walks h 0) ∙ text_runs t

pub halts_at : (s : State) (r : List Token) → Refuses s r → Halts s r r
halts_at s r h = record { before = []; state = s; split = refl; taken = refl; refuses = h }

-- after tokens that lead from s to w
pub halts_after : (s w : State) (us ts r : List Token) → run s us ≡ some w → Halts w ts r → Halts s (us ++ ts) r
halts_after s w us ts r e h = record {
  before = us ++ h.before;
  state = h.state;
  split = ap (λ (v : List Token). us ++ v) h.split ∙ sym (append_assoc us h.before r);
  taken = runs_append (some s) us h.before ∙ ap (runs h.before) e ∙ h.taken;
  refuses = h.refuses;
}

pub halts_fresh : (t : Token) (ts r : List Token) → Halts (operand 0) (t ∷ ts) r → Halts fresh (t ∷ ts) r
halts_fresh t ts r h = go h.before h.state h.split h.taken h.refuses
  where
    go : (b : List Token) (w : State) → t ∷ ts ≡ b ++ r → run (operand 0) b ≡ some w → Refuses w r → Halts fresh (t ∷ ts) r
    go [] w e n f =
        let k : w ≡ operand 0 = cc in
        let g : Refuses (operand 0) (t ∷ ts) = subst (λ (o : State). Refuses o (t ∷ ts)) k (subst (λ (v : List Token). Refuses w v) (sym e) f) in
        record { before = []; state = fresh; split = e; taken = refl; refuses = subst (λ (v : List Token). Refuses fresh v) e g }
    go (u ∷ b) w e n f = record { before = u ∷ b; state = w; split = e; taken = n; refuses = f }

-- what stops cannot go on
pub stops : (w : State) (r : List Token) (z : State) → Refuses w r → run w r ≡ some z → (w ≡ z) × Unfinished w
stops w [] z f e = ((cc), f)
stops w (t ∷ ts) z f e =
    let a : run w (t ∷ ts) ≡ none = ap (runs ts) f ∙ runs_none ts in
    let k : ◌≡◌ {A = ℕ} 0 1 = cc in
    absurd (omega arith)

-- no tokens that it takes to a line's start are ones at which it stops
pub halts_not : (ts r : List Token) → Halts fresh ts r → run fresh ts ≡ some fresh → ⊥
halts_not ts r h e = go (stops h.state r fresh h.refuses at_end)
  where
    at_end : run h.state r ≡ some fresh
    at_end = sym (ap (runs r) h.taken) ∙ sym (runs_append (some fresh) h.before r) ∙ sym (ap (run fresh) h.split) ∙ e

    go : (h.state ≡ fresh) × Unfinished h.state → ⊥
    go (k, u) = subst Unfinished k u

-- with the token at which it stops, none that it takes
pub refused_there : (b : List Token) (w : State) (t : Token) (us : List Token) (z : State) → run fresh b ≡ some w → step w t ≡ none → run fresh ((b ++ (t ∷ [])) ++ us) ≡ some z → ⊥
refused_there b w t us z n f e =
    let a : run fresh (b ++ (t ∷ us)) ≡ some z = ap (run fresh) (sym (append_assoc b (t ∷ []) us)) ∙ e in
    let c : run fresh (b ++ (t ∷ us)) ≡ none = runs_append (some fresh) b (t ∷ us) ∙ ap (runs (t ∷ us)) n ∙ ap (runs us) f ∙ runs_none us in
    let k : ◌≡◌ {A = ℕ} 0 1 = cc in
    omega arith

-- tokens that take it from a state to a line's start
abbrev pub closings : ℕ → List Token
closings zero = newline ∷ []
closings (suc d) = closing ∷ closings d

abbrev pub finish : State → List Token
finish fresh = []
finish (operand d) = name 0 ∷ closings d
finish (operator d) = closings d

closings_run : (d : ℕ) → run (operator d) (closings d) ≡ some fresh
closings_run zero = refl
closings_run (suc d) = closings_run d

pub finish_runs : (w : State) → run w (finish w) ≡ some fresh
finish_runs fresh = refl
finish_runs (operand d) = closings_run d
finish_runs (operator d) = closings_run d
