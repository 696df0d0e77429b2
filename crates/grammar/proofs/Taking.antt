-- What reading a phrase comes to, step by step: it is taken, with tokens left; or it fails, at the tokens where the automaton stops.
use mathlib.Core.Path.{◌≡◌, refl, sym, ap, subst, ◌∙◌}
use mathlib.Core.List.{List, [], ◌∷◌, ◌++◌, append_assoc}
use mathlib.Core.Option.{none, some}
use Prim.Native.Nat.{ℕ, suc, ◌≤◌, ◌<◌}
use native.Mathlib.Omega.{arith}
use lib.ListN.{length, length-append}
use Rattle.definition.specs.Formula.{Form, atom}
use Rattle.grammar.specs.Tokens.{Sign, Joint, Token, name, sign, joint, opening, closing, newline, invalid, signed, joined, level, loosest, leftward, rightward, side}
use Rattle.grammar.specs.Grammar.{Phrase, named, under, bracketed, single, grouped_left, grouped_right, Text, line}
use Rattle.grammar.specs.Automaton.{Ends, fresh, operand, operator, step, Refuses, Halts, Takes, Fails}
use Rattle.grammar.proofs.Connectives.{level_between}
use Rattle.grammar.proofs.Automaton.{walks, halts_at, halts_after, halts_fresh}

-- no joint is looser than a whole formula
pub not_looser : (j : Joint) → loosest < level j → ⊥
not_looser j h = omega (arith, (level_between j).1)

-- anything ends a phrase of level 0
pub ends_operand : (r : List Token) → Ends 0 r
ends_operand [] = tt
ends_operand (name a ∷ r) = tt
ends_operand (sign s ∷ r) = tt
ends_operand (joint j ∷ r) = omega (arith, (level_between j).0)
ends_operand (opening ∷ r) = tt
ends_operand (closing ∷ r) = tt
ends_operand (newline ∷ r) = tt
ends_operand (invalid ∷ r) = tt

-- a phrase has a token
phrase_some : {l : ℕ} {p : Form} (ts : List Token) → Phrase l ts p → 1 ≤ length ts
phrase_some [] h =
    let e : some (operand 0) ≡ some (operator 0) = walks h 0 in
    let z : ◌≡◌ {A = ℕ} 0 1 = cc in
    absurd (omega arith)
phrase_some (t ∷ ts) h = omega arith

pub shorter : {l : ℕ} {ts : List Token} {p : Form} {r : List Token} → Takes l ts p r → length r < length ts
shorter {r = r} h = omega (arith, phrase_some h.tokens h.reads, length-append h.tokens r, ap length h.split)

pub takes_name : (a : ℕ) (r : List Token) → Takes 0 (name a ∷ r) (atom a) r
takes_name a r = record { tokens = name a ∷ []; split = refl; reads = named }

pub takes_sign : (s : Sign) {ts : List Token} {p : Form} {r : List Token} → Takes 0 ts p r → Takes 0 (sign s ∷ ts) (signed s p) r
takes_sign s h = record { tokens = sign s ∷ h.tokens; split = ap (λ (v : List Token). sign s ∷ v) h.split; reads = under h.reads }

pub takes_brackets : {ts : List Token} {p : Form} {r : List Token} → Takes loosest ts p (closing ∷ r) → Takes 0 (opening ∷ ts) p r
takes_brackets {r = r} h = record {
  tokens = opening ∷ (h.tokens ++ (closing ∷ []));
  split = ap (λ (v : List Token). opening ∷ v) (h.split ∙ sym (append_assoc h.tokens (closing ∷ []) r));
  reads = bracketed h.reads;
}

pub takes_single : {l : ℕ} {ts : List Token} {p : Form} {r : List Token} → Takes l ts p r → Takes (suc l) ts p r
takes_single h = record { tokens = h.tokens; split = h.split; reads = single h.reads }

joins : (xs ys zs ts us : List Token) (t : Token) → ts ≡ xs ++ (t ∷ us) → us ≡ ys ++ zs → ts ≡ (xs ++ (t ∷ ys)) ++ zs
joins xs ys zs ts us t e f = e ∙ ap (λ (v : List Token). xs ++ (t ∷ v)) f ∙ sym (append_assoc xs (t ∷ ys) zs)

pub takes_left : (j : Joint) {l : ℕ} {ts us : List Token} {p q : Form} {r : List Token} → level j ≡ suc l → side j ≡ leftward →
    Takes (suc l) ts p (joint j ∷ us) → Takes l us q r → Takes (suc l) ts (joined j p q) r
takes_left j {ts = ts} {us = us} {r = r} e s h k = record { tokens = h.tokens ++ (joint j ∷ k.tokens); split = joins h.tokens k.tokens r ts us (joint j) h.split k.split; reads = grouped_left j e s h.reads k.reads }

pub takes_right : (j : Joint) {l : ℕ} {ts us : List Token} {p q : Form} {r : List Token} → level j ≡ suc l → side j ≡ rightward →
    Takes l ts p (joint j ∷ us) → Takes (suc l) us q r → Takes (suc l) ts (joined j p q) r
takes_right j {ts = ts} {us = us} {r = r} e s h k = record { tokens = h.tokens ++ (joint j ∷ k.tokens); split = joins h.tokens k.tokens r ts us (joint j) h.split k.split; reads = grouped_right j e s h.reads k.reads }

-- no operand begins with the token
abbrev pub NoOperand : List Token → Type 0
NoOperand [] = Unit {0}
NoOperand (t ∷ ts) = (d : ℕ) → step (operand d) t ≡ none

pub fails_here : (ts : List Token) → NoOperand ts → Fails ts ts
fails_here [] h d = halts_at (operand d) [] tt
fails_here (t ∷ ts) h d = halts_at (operand d) (t ∷ ts) (h d)

pub fails_sign : (s : Sign) {ts r : List Token} → Fails ts r → Fails (sign s ∷ ts) r
fails_sign s {ts} {r} h d = halts_after (operand d) (operand d) (sign s ∷ []) ts r refl (h d)

pub fails_inside : {ts r : List Token} → Fails ts r → Fails (opening ∷ ts) r
fails_inside {ts} {r} h d = halts_after (operand d) (operand (suc d)) (opening ∷ []) ts r refl (h (suc d))

-- after a phrase, at what cannot go on
takes_halts : {l : ℕ} {ts : List Token} {p : Form} {r u : List Token} (d : ℕ) → Takes l ts p r → Halts (operator d) r u → Halts (operand d) ts u
takes_halts {ts = ts} {r = r} {u = u} d h k =
    subst (λ (v : List Token). Halts (operand d) v u) (sym h.split) (halts_after (operand d) (operator d) h.tokens r u (walks h.reads d) k)

-- a bracketed formula without its closing bracket
pub fails_refused : {ts : List Token} {p : Form} {r : List Token} → Takes loosest ts p r → ((d : ℕ) → Refuses (operator (suc d)) r) → Fails (opening ∷ ts) r
fails_refused {ts} {r = r} h f d = halts_after (operand d) (operand (suc d)) (opening ∷ []) ts r refl (takes_halts (suc d) h (halts_at (operator (suc d)) r (f d)))

-- a joint, and no operand after it
pub fails_later : (j : Joint) {l : ℕ} {ts us : List Token} {p : Form} {r : List Token} → Takes l ts p (joint j ∷ us) → Fails us r → Fails ts r
fails_later j {us = us} {r = r} h k d = takes_halts d h (halts_after (operator d) (operand d) (joint j ∷ []) us r refl (k d))

-- a line's phrase without its newline
pub halts_refused : {t : Token} {ts : List Token} {p : Form} {r : List Token} → Takes loosest (t ∷ ts) p r → Refuses (operator 0) r → Halts fresh (t ∷ ts) r
halts_refused {t} {ts} {r = r} h f = halts_fresh t ts r (takes_halts 0 h (halts_at (operator 0) r f))

-- a line whose phrase fails
pub halts_line : {t : Token} {ts r : List Token} → Fails (t ∷ ts) r → Halts fresh (t ∷ ts) r
halts_line {t} {ts} {r} h = halts_fresh t ts r (h 0)

-- after a line
pub halts_next : {t : Token} {ts : List Token} {p : Form} {r u : List Token} → Takes loosest (t ∷ ts) p (newline ∷ r) → Halts fresh r u → Halts fresh (t ∷ ts) u
halts_next {t} {ts} {p} {r} {u} h k = halts_fresh t ts u (takes_halts 0 h (halts_after (operator 0) fresh (newline ∷ []) r u refl k))

pub text_line : {ts : List Token} {p : Form} {r : List Token} {ps : List Form} → Takes loosest ts p (newline ∷ r) → Text r ps → Text ts (p ∷ ps)
text_line {p = p} {ps = ps} h t = subst (λ (v : List Token). Text v (p ∷ ps)) (sym h.split) (line h.reads t)
