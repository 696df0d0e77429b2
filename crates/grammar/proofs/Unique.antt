-- One reading: a phrase of the grammar is what the reader reads, whatever ends it; so a text has one reading.
use mathlib.Core.Path.{◌≡◌, refl, sym, subst}
use mathlib.Core.List.{List, [], ◌∷◌, ◌++◌, append_assoc, nil≢cons}
use Prim.Native.Nat.{ℕ, zero, suc, ◌+◌, ◌≤◌}
use native.Mathlib.Omega.{arith}
use borrow.Author.Tests.{eq-eqb, ne_eqb}
use Rattle.definition.specs.Formula.{Form, atom}
use Rattle.grammar.specs.Tokens.{Sign, Joint, Token, name, sign, joint, opening, closing, newline, invalid, signed, joined, level, loosest, leftward, rightward, side}
use Rattle.grammar.specs.Grammar.{Phrase, named, under, bracketed, single, grouped_left, grouped_right, Text, blank, line}
use Rattle.grammar.proofs.Connectives.{one_side}
use Rattle.grammar.proofs.Reader.{Res, ok, and_then, closed, phrase, more}
use Rattle.grammar.specs.Automaton.{Ends}

-- no joint of the level l + 1 groups to the right
NoRight : ℕ → Type 0
NoRight l = (j : Joint) → level j ≡ suc l → side j ≡ rightward → ⊥

no_right : (l : ℕ) (j : Joint) → level j ≡ suc l → side j ≡ leftward → NoRight l
unfolding NoRight
no_right l j e s i f r = one_side j i (suc l) e f s r

-- from some number on, f is x
Ev : (ℕ → Res) → Res → Type 0
Ev f x = (n : ℕ) × ((m : ℕ) → n ≤ m → f m ≡ x)

ev_is : (f : ℕ → Res) (x : Res) → ((m : ℕ) → f m ≡ x) → Ev f x
unfolding Ev
ev_is f x h = (0, λ m _. h m)

ev_suc : (f : ℕ → Res) (x : Res) → Ev (λ m. f (suc m)) x → Ev f x
unfolding Ev
ev_suc f x (n, h) = (suc n, go)
  where
    go : (m : ℕ) → suc n ≤ m → f m ≡ x
    go zero le = absurd (omega arith)
    go (suc m) le = h m (omega arith)

ev_then : (f : ℕ → Res) (k : ℕ → Form → List Token → Res) (p : Form) (r : List Token) (x : Res) → Ev f (ok p r) → Ev (λ m. k m p r) x → Ev (λ m. and_then (f m) (k m)) x
unfolding Ev
ev_then f k p r x (n, h) (o, g) = (n + o, λ m le. rw (h m (omega arith)) (g m (omega arith)))

-- a phrase of a level ends where one of a looser level does
weaker : (l : ℕ) (r : List Token) → Ends (suc l) r → Ends l r
weaker l [] e = tt
weaker l (name a ∷ r) e = tt
weaker l (sign s ∷ r) e = tt
weaker l (joint j ∷ r) e = omega arith
weaker l (opening ∷ r) e = tt
weaker l (closing ∷ r) e = tt
weaker l (newline ∷ r) e = tt
weaker l (invalid ∷ r) e = tt

more_stops : (l : ℕ) (p : Form) (r : List Token) → Ends (suc l) r → Ev (λ m. more m l p r) (ok p r)
unfolding phrase more
more_stops l p [] e = ev_suc _ _ (ev_is _ _ (λ m. refl))
more_stops l p (name a ∷ r) e = ev_suc _ _ (ev_is _ _ (λ m. refl))
more_stops l p (sign s ∷ r) e = ev_suc _ _ (ev_is _ _ (λ m. refl))
more_stops l p (joint j ∷ r) e = ev_suc _ _ (ev_is _ _ (λ m. rw (ne_eqb (level j) (suc l) (omega arith))))
more_stops l p (opening ∷ r) e = ev_suc _ _ (ev_is _ _ (λ m. refl))
more_stops l p (closing ∷ r) e = ev_suc _ _ (ev_is _ _ (λ m. refl))
more_stops l p (newline ∷ r) e = ev_suc _ _ (ev_is _ _ (λ m. refl))
more_stops l p (invalid ∷ r) e = ev_suc _ _ (ev_is _ _ (λ m. refl))

left_step : (j : Joint) (l : ℕ) (p q : Form) (ts r : List Token) (x : Res) → level j ≡ suc l → side j ≡ leftward →
    Ev (λ m. phrase m l ts) (ok q r) → Ev (λ m. more m l (joined j p q) r) x → Ev (λ m. more m l p (joint j ∷ ts)) x
unfolding phrase more
left_step j l p q ts r x e s h g =
    ev_suc (λ m. more m l p (joint j ∷ ts)) x
    (rw (eq-eqb (level j) (suc l) e, s) (ev_then (λ m. phrase m l ts) (λ m q r. more m l (joined j p q) r) q r x h g))

right_step : (j : Joint) (l : ℕ) (p q : Form) (ts r : List Token) → level j ≡ suc l → side j ≡ rightward →
    Ev (λ m. phrase m (suc l) ts) (ok q r) → Ev (λ m. more m l p (joint j ∷ ts)) (ok (joined j p q) r)
unfolding phrase more
right_step j l p q ts r e s h =
    ev_suc (λ m. more m l p (joint j ∷ ts)) (ok (joined j p q) r)
    (rw (eq-eqb (level j) (suc l) e, s) (ev_then (λ m. phrase m (suc l) ts) (λ m q r. ok (joined j p q) r) q r _ h (ev_is _ _ (λ m. refl))))

ends_joint : (j : Joint) (l : ℕ) (ts : List Token) → level j ≡ suc l → Ends l (joint j ∷ ts)
ends_joint j l ts e = omega arith

-- the reader's next level
loosened : (l : ℕ) (ts : List Token) (p : Form) (r : List Token) (x : Res) → Ev (λ m. phrase m l ts) (ok p r) → Ev (λ m. more m l p r) x → Ev (λ m. phrase m (suc l) ts) x
unfolding phrase more
loosened l ts p r x h g = ev_suc (λ m. phrase m (suc l) ts) x (ev_then (λ m. phrase m l ts) (λ m p r. more m l p r) p r x h g)

regrouped : (l : ℕ) (ts us r : List Token) (t : Token) (x : Res) → Ev (λ m. phrase m l (ts ++ (t ∷ (us ++ r)))) x → Ev (λ m. phrase m l ((ts ++ (t ∷ us)) ++ r)) x
regrouped l ts us r t x h = subst (λ (v : List Token). Ev (λ m. phrase m l v) x) (sym (append_assoc ts (t ∷ us) r)) h

in_brackets : (ts : List Token) (p : Form) (r : List Token) → Ev (λ m. phrase m loosest (ts ++ (closing ∷ r))) (ok p (closing ∷ r)) → Ev (λ m. phrase m 0 (opening ∷ ((ts ++ (closing ∷ [])) ++ r))) (ok p r)
unfolding phrase more
in_brackets ts p r h =
    subst (λ (v : List Token). Ev (λ m. phrase m 0 (opening ∷ v)) (ok p r)) (sym (append_assoc ts (closing ∷ []) r))
    (ev_suc (λ m. phrase m 0 (opening ∷ (ts ++ (closing ∷ r)))) (ok p r) (ev_then (λ m. phrase m loosest (ts ++ (closing ∷ r))) (λ m. closed) p (closing ∷ r) (ok p r) h (ev_is _ _ (λ m. refl))))

signs : (s : Sign) (ts : List Token) (p : Form) (r : List Token) → Ev (λ m. phrase m 0 ts) (ok p r) → Ev (λ m. phrase m 0 (sign s ∷ ts)) (ok (signed s p) r)
unfolding phrase more
signs s ts p r h = ev_suc (λ m. phrase m 0 (sign s ∷ ts)) (ok (signed s p) r) (ev_then (λ m. phrase m 0 ts) (λ m p r. ok (signed s p) r) p r _ h (ev_is _ _ (λ m. refl)))

names : (a : ℕ) (r : List Token) → Ev (λ m. phrase m 0 (name a ∷ r)) (ok (atom a) r)
unfolding phrase more
names a r = ev_suc (λ m. phrase m 0 (name a ∷ r)) _ (ev_is _ _ (λ m. refl))

abbrev Whole : ℕ → List Token → Form → Type 0
Whole l us p = (r : List Token) → Ends l r → Ev (λ m. phrase m l (us ++ r)) (ok p r)

-- at a level that groups to the left: the reader comes to where the phrase ends, and goes on from there
abbrev Spine : ℕ → List Token → Form → Type 0
Spine zero us p = Unit {0}
Spine (suc l) us p = NoRight l → (r : List Token) → Ends l r → (x : Res) → Ev (λ m. more m l p r) x → Ev (λ m. phrase m (suc l) (us ++ r)) x

reads : {l : ℕ} {us : List Token} {p : Form} → Phrase l us p → Whole l us p × Spine l us p
unfolding NoRight
reads (named {n = a}) = ((λ r e. names a r), tt)
reads (under {s = s} {ts = ts} {p = p} d) = ((λ r e. signs s (ts ++ r) p r ((reads d).0 r e)), tt)
reads (bracketed {ts = ts} {p = p} d) = ((λ r e. in_brackets ts p r ((reads d).0 (closing ∷ r) tt)), tt)
reads (single {l = l} {ts = ts} {p = p} d) = (
  (λ r e. loosened l (ts ++ r) p r (ok p r) ((reads d).0 r (weaker l r e)) (more_stops l p r e)),
  (λ nr r e x g. loosened l (ts ++ r) p r x ((reads d).0 r e) g),
)
reads (grouped_left j {l = l} {ts = ts} {us = us} {p = p} {q = q} f s d₁ d₂) = (
  (λ r e. regrouped (suc l) ts us r (joint j) _ ((reads d₁).1 (no_right l j f s) (joint j ∷ (us ++ r)) (ends_joint j l (us ++ r) f) (ok (joined j p q) r)
      (left_step j l p q (us ++ r) r _ f s ((reads d₂).0 r (weaker l r e)) (more_stops l (joined j p q) r e)))),
  (λ nr r e x g. regrouped (suc l) ts us r (joint j) x ((reads d₁).1 nr (joint j ∷ (us ++ r)) (ends_joint j l (us ++ r) f) x (left_step j l p q (us ++ r) r x f s ((reads d₂).0 r e) g))),
)
reads (grouped_right j {l = l} {ts = ts} {us = us} {p = p} {q = q} f s d₁ d₂) = (
  (λ r e. regrouped (suc l) ts us r (joint j) _ (loosened l _ p _ _ ((reads d₁).0 (joint j ∷ (us ++ r)) (ends_joint j l (us ++ r) f)) (right_step j l p q (us ++ r) r f s ((reads d₂).0 r e)))),
  (λ nr r e x g. absurd (nr j f s)),
)

-- two phrases of one level before one list of tokens, each ended, are the same
agree : (f : ℕ → Res) (p q : Form) (r s : List Token) → Ev f (ok p r) → Ev f (ok q s) → (p ≡ q) × (r ≡ s)
unfolding Ev
agree f p q r s (n, h) (m, g) =
    let a : f (n + m) ≡ ok p r = h (n + m) (omega arith) in
    let b : f (n + m) ≡ ok q s = g (n + m) (omega arith) in
    (cc, cc)

pub unique_phrase : (l : ℕ) {us vs : List Token} {p q : Form} (r s : List Token) → Phrase l us p → Phrase l vs q → Ends l r → Ends l s → us ++ r ≡ vs ++ s → (p ≡ q) × (r ≡ s)
unique_phrase l {us} {vs} {p} {q} r s d e a b h =
    agree (λ m. phrase m l (us ++ r)) p q r s ((reads d).0 r a) (subst (λ (v : List Token). Ev (λ m. phrase m l v) (ok q s)) (sym h) ((reads e).0 s b))

no_line : (ts us : List Token) → [] ≡ ts ++ (newline ∷ us) → ⊥
no_line [] us e = nil≢cons e
no_line (t ∷ ts) us e = nil≢cons e

same_text : {ts us : List Token} {ps qs : List Form} → Text ts ps → Text us qs → ts ≡ us → ps ≡ qs
same_text blank blank e = refl
same_text blank (line {ts = ts} {us = us} d t) e = absurd (no_line ts us e)
same_text (line {ts = ts} {us = us} d t) blank e = absurd (no_line ts us (sym e))
same_text (line {us = us} {p = p} {ps = ps} d t) (line {us = vs} {p = q} {ps = qs} c u) e =
    let h = unique_phrase loosest (newline ∷ us) (newline ∷ vs) d c tt tt e in
    let a : p ≡ q = h.0 in
    let k : us ≡ vs = (let w = h.1 in cc) in
    let b : ps ≡ qs = same_text t u k in
    cc

-- tokens have one reading
pub unique_text : {ts : List Token} {ps qs : List Form} → Text ts ps → Text ts qs → ps ≡ qs
unique_text t u = same_text t u refl
