-- Tokens that can be continued to a text are continued by bytes.
use mathlib.Core.Path.{◌≡◌, refl, sym, ap, subst, ◌∙◌}
use mathlib.Core.List.{List, [], ◌∷◌, ◌++◌, append_assoc}
use mathlib.Core.Option.{Option, none, some}
use Prim.Native.Nat.{ℕ, zero, suc, ◌+◌}
use native.Mathlib.Omega.{arith}
use lib.ListN.{length, length-append}
use Rattle.definition.specs.Formula.{Form}
use Rattle.grammar.specs.Tokens.{Token, name, sign, joint, opening, closing, newline, invalid}
use Rattle.grammar.specs.Grammar.{Viable}
use Rattle.grammar.specs.Lexing.{value_from, a_name, a_closing, a_newline, NoDigit, Follows, Placed, placed, tokens_of, Lexes, nothing, a_space, a_token, no_token}
use Rattle.grammar.specs.Reading.{Reads}
use Rattle.grammar.specs.Automaton.{State, fresh, operand, operator, stepped, runs, run}
use Rattle.grammar.proofs.Automaton.{runs_none, runs_append, text_runs, closings, finish, finish_runs}
use Rattle.grammar.proofs.Lexed.{lexed_as}
use Rattle.grammar.proofs.Texts.{tokens_append, scan_taken}

-- the bytes that take the automaton from a state to a line's start
closing_bytes : ℕ → List ℕ
closing_bytes zero = 10 ∷ []
closing_bytes (suc d) = 41 ∷ closing_bytes d

finish_bytes : State → List ℕ
finish_bytes fresh = []
finish_bytes (operand d) = 97 ∷ 48 ∷ closing_bytes d
finish_bytes (operator d) = closing_bytes d

Lexed : ℕ → List ℕ → List Token → Type 0
Lexed o bs ts = (us : List Placed) × (tokens_of us ≡ ts) × Lexes o bs us

lex_closings : (d o : ℕ) → Lexed o (closing_bytes d) (closings d)
unfolding closing_bytes Lexed
lex_closings zero o = (placed o newline ∷ [], refl, a_token o a_newline tt nothing)
lex_closings (suc d) o =
    let h = lex_closings d (o + 1) in
    (placed o closing ∷ h.0, ap (λ (v : List Token). closing ∷ v) h.1, a_token o a_closing tt h.2)

no_digit : (d : ℕ) → NoDigit (closing_bytes d)
unfolding closing_bytes
no_digit zero = refl
no_digit (suc d) = refl

lex_finish : (w : State) (o : ℕ) → Lexed o (finish_bytes w) (finish w)
unfolding finish_bytes Lexed value_from
lex_finish fresh o = ([], refl, nothing)
lex_finish (operand d) o =
    let h = lex_closings d (o + 2) in
    (placed o (name 0) ∷ h.0, ap (λ (v : List Token). name 0 ∷ v) h.1, a_token o (a_name (48 ∷ []) (refl, tt) tt (omega arith)) (no_digit d) h.2)
lex_finish (operator d) o = lex_closings d o

-- a space and more may follow tokens none of which is invalid
follows_on : (t : Token) (bs rest : List ℕ) → Follows t bs → Follows t (bs ++ (32 ∷ rest))
follows_on (name n) [] rest h = refl
follows_on (name n) (b ∷ bs) rest h = h
follows_on (sign s) bs rest h = tt
follows_on (joint j) bs rest h = tt
follows_on opening bs rest h = tt
follows_on closing bs rest h = tt
follows_on newline bs rest h = tt
follows_on invalid bs rest h = tt

no_invalid : (q : Option State) (w : State) → stepped q invalid ≡ some w → ⊥
no_invalid none w e = let z : ◌≡◌ {A = ℕ} 0 1 = cc in omega arith
no_invalid (some fresh) w e = let z : ◌≡◌ {A = ℕ} 0 1 = cc in omega arith
no_invalid (some (operand d)) w e = let z : ◌≡◌ {A = ℕ} 0 1 = cc in omega arith
no_invalid (some (operator d)) w e = let z : ◌≡◌ {A = ℕ} 0 1 = cc in omega arith

lexes_on : {o : ℕ} {bs : List ℕ} {ts : List Placed} (q : Option State) (w : State) (rest : List ℕ) (us : List Placed) → Lexes o bs ts → runs (tokens_of ts) q ≡ some w → Lexes (suc (o + length bs)) rest us → Lexes o (bs ++ (32 ∷ rest)) (ts ++ us)
lexes_on {o} q w rest us nothing e k = let z : suc (o + 0) ≡ suc o = omega arith in a_space (subst (λ (i : ℕ). Lexes i rest us) z k)
lexes_on {o} q w rest us (a_space {bs = bs} h) e k =
    let z : suc (o + suc (length bs)) ≡ suc (suc o + length bs) = omega arith in
    a_space (lexes_on q w rest us h e (subst (λ (i : ℕ). Lexes i rest us) z k))
lexes_on q w rest us (a_token o {b} {bs} {t} {ts} s f h) e k =
    subst (λ (v : List ℕ). Lexes o v (placed o t ∷ (ts ++ us))) (sym (append_assoc b bs (32 ∷ rest)))
    (a_token o s (follows_on t bs rest f) (lexes_on (stepped q t) w rest us h e (subst (λ (i : ℕ). Lexes i rest us) (omega (arith, length-append b bs)) k)))
lexes_on q w rest us (no_token o b bs n x) e k = absurd (no_invalid q w e)

-- the state after viable tokens
viable_state : (ts : List Token) → Viable ts → (w : State) × (run fresh ts ≡ some w)
viable_state ts (us, ps, t) = go (run fresh ts) refl
  where
    go : (o : Option State) → run fresh ts ≡ o → (w : State) × (run fresh ts ≡ some w)
    go none e =
        let a : run fresh (ts ++ us) ≡ none = runs_append (some fresh) ts us ∙ ap (λ (o : Option State). runs us o) e ∙ runs_none us in
        let b = text_runs t in
        let z : ◌≡◌ {A = ℕ} 0 1 = cc in
        absurd (omega arith)
    go (some w) e = (w, e)

pub continued : (bytes : List ℕ) (ts : List Placed) → Lexes 0 bytes ts → Viable (tokens_of ts) → (more : List ℕ) × (ps : List Form) × Reads (bytes ++ more) ps
unfolding Lexed
continued bytes ts h v = go (viable_state (tokens_of ts) v)
  where
    go : (w : State) × (run fresh (tokens_of ts) ≡ some w) → (more : List ℕ) × (ps : List Form) × Reads (bytes ++ more) ps
    go (w, e) =
        let f = lex_finish w (suc (0 + length bytes)) in
        let all : List ℕ = bytes ++ (32 ∷ finish_bytes w) in
        let l : Lexes 0 all (ts ++ f.0) = lexes_on (some fresh) w (finish_bytes w) f.0 h e f.2 in
        let a : tokens_of (ts ++ f.0) ≡ tokens_of ts ++ finish w = tokens_append ts f.0 ∙ ap (λ (u : List Token). tokens_of ts ++ u) f.1 in
        let r : run fresh (tokens_of (ts ++ f.0)) ≡ some fresh =
        ap (λ (u : List Token). run fresh u) a ∙ runs_append (some fresh) (tokens_of ts) (finish w) ∙ ap (λ (o : Option State). runs (finish w) o) e ∙ finish_runs w in
        let z = scan_taken all (ap (λ (u : List Placed). run fresh (tokens_of u)) (lexed_as all 0 (ts ++ f.0) l) ∙ r) in
        (32 ∷ finish_bytes w, z.0, z.1)
