-- Over bytes: one reading, one offset, and none of both; what the automaton says of a text; and the definitional reader of a text.
use mathlib.Core.Path.{◌≡◌, refl, sym, ap, subst, ◌∙◌}
use mathlib.Core.List.{List, [], ◌∷◌, ◌++◌, append_assoc, append-nil}
use mathlib.Core.Option.{some}
use Prim.Native.Nat.{ℕ, ◌-◌}
use native.Mathlib.Omega.{arith}
use lib.ListN.{length, drop, length-append, length-map}
use lib.Seq.{drop_at}
use Rattle.definition.specs.Formula.{Form}
use Rattle.grammar.specs.Tokens.{Token}
use Rattle.grammar.specs.Grammar.{Text, Viable}
use Rattle.grammar.specs.Lexing.{Placed, tokens_of, Lexes}
use Rattle.grammar.specs.Scan.{lexed}
use Rattle.grammar.specs.Reading.{Reads, At, UnreadableAt}
use Rattle.grammar.specs.Examples.{Outcome, taken, unreadable, ComesTo}
use Rattle.grammar.specs.Automaton.{State, fresh, run, Refuses, offset}
use Rattle.grammar.proofs.Unique.{unique_text}
use Rattle.grammar.proofs.Automaton.{halts_not}
use Rattle.grammar.proofs.Exact.{Answer, all, stopped, read_tokens, Answered, texted, halted, answers, halted_no_text, viable_run, halted_not_viable}
use Rattle.grammar.proofs.Lexed.{one_lexing, lexes_at}

pub one_reading : (bytes : List ℕ) (ps qs : List Form) → Reads bytes ps → Reads bytes qs → ps ≡ qs
one_reading bytes ps qs h k = unique_text h.says (subst (λ (v : List Placed). Text (tokens_of v) qs) (one_lexing k.lexed h.lexed) k.says)

pub tokens_append : (us vs : List Placed) → tokens_of (us ++ vs) ≡ tokens_of us ++ tokens_of vs
tokens_append [] vs = refl
tokens_append (x ∷ us) vs = ap (λ (v : List Token). x.token ∷ v) (tokens_append us vs)

-- a garbled text is none of the grammar
pub apart : (bytes : List ℕ) (o : ℕ) (ps : List Form) → UnreadableAt bytes o → Reads bytes ps → ⊥
apart bytes o ps g k = go g.after g.there (subst (λ (v : List Token). Text v ps) (tokens_append g.before g.after) (subst (λ (v : List Placed). Text (tokens_of v) ps) (one_lexing k.lexed g.lexed) k.says))
  where
    go : (vs : List Placed) → At bytes g.before vs o → Text (tokens_of g.before ++ tokens_of vs) ps → ⊥
    go [] (_, n) t = n ps (subst (λ (v : List Token). Text v ps) (append-nil (tokens_of g.before)) t)
    go (x ∷ vs) (_, n) t = n (tokens_of vs, ps, subst (λ (v : List Token). Text v ps) (sym (append_assoc (tokens_of g.before) (x.token ∷ []) (tokens_of vs))) t)

-- two cuts of one list: at one place, or the first earlier, or the second
data Cut (xs ys us vs : List Placed) : Type 0 where
  together : xs ≡ us → ys ≡ vs → Cut xs ys us vs
  sooner : (x : Placed) (zs : List Placed) → us ≡ xs ++ (x ∷ zs) → ys ≡ x ∷ (zs ++ vs) → Cut xs ys us vs
  later : (x : Placed) (zs : List Placed) → xs ≡ us ++ (x ∷ zs) → vs ≡ x ∷ (zs ++ ys) → Cut xs ys us vs

cut_more : (a : Placed) {xs ys us vs : List Placed} → Cut xs ys us vs → Cut (a ∷ xs) ys (a ∷ us) vs
cut_more a (together e f) = together (ap (λ (v : List Placed). a ∷ v) e) f
cut_more a (sooner x zs e f) = sooner x zs (ap (λ (v : List Placed). a ∷ v) e) f
cut_more a (later x zs e f) = later x zs (ap (λ (v : List Placed). a ∷ v) e) f

cuts : (xs ys us vs : List Placed) → xs ++ ys ≡ us ++ vs → Cut xs ys us vs
cuts [] ys [] vs e = together refl e
cuts [] ys (u ∷ us) vs e = sooner u us refl e
cuts (x ∷ xs) ys [] vs e = later x xs refl (sym e)
cuts (x ∷ xs) ys (u ∷ us) vs e =
    let h : x ≡ u = cc in
    let t : xs ++ ys ≡ us ++ vs = cc in
    subst (λ (a : Placed). Cut (x ∷ xs) ys (a ∷ us) vs) h (cut_more x (cuts xs ys us vs t))

viable_prefix : (xs ys : List Token) → Viable (xs ++ ys) → Viable xs
viable_prefix xs ys (us, ps, t) = (ys ++ us, ps, subst (λ (v : List Token). Text v ps) (append_assoc xs ys us) t)

longer_viable : (xs zs us : List Placed) (x : Placed) → us ≡ xs ++ (x ∷ zs) → Viable (tokens_of us) → Viable (tokens_of xs ++ (x.token ∷ []))
longer_viable xs zs us x e v =
    viable_prefix (tokens_of xs ++ (x.token ∷ [])) (tokens_of zs)
    (subst Viable (ap tokens_of e ∙ tokens_append xs (x ∷ zs) ∙ sym (append_assoc (tokens_of xs) (x.token ∷ []) (tokens_of zs))) v)

same_place : (bytes : List ℕ) (us vs : List Placed) (o p : ℕ) → At bytes us vs o → At bytes us vs p → o ≡ p
same_place bytes us [] o p (a, _) (b, _) = a ∙ sym b
same_place bytes us (x ∷ vs) o p (a, _) (b, _) = a ∙ sym b

-- the offset is not before one to which tokens can be continued
module _ (bytes : List ℕ) (o p : ℕ) (g : UnreadableAt bytes o) (h : UnreadableAt bytes p) where
  earlier : (x : Placed) (zs : List Placed) → h.before ≡ g.before ++ (x ∷ zs) → g.after ≡ x ∷ (zs ++ h.after) → ⊥
  earlier x zs e f = (subst (λ (v : List Placed). At bytes g.before v o) f g.there).1 (longer_viable g.before zs h.before x e h.viable)

pub one_offset : (bytes : List ℕ) (o p : ℕ) → UnreadableAt bytes o → UnreadableAt bytes p → o ≡ p
one_offset bytes o p g h = go (cuts g.before g.after h.before h.after (one_lexing g.lexed h.lexed))
  where
    go : Cut g.before g.after h.before h.after → o ≡ p
    go (together e f) = same_place bytes h.before h.after o p (subst (λ (v : List Placed). At bytes h.before v o) f (subst (λ (v : List Placed). At bytes v g.after o) e g.there)) h.there
    go (sooner x zs e f) = absurd (earlier bytes o p g h x zs e f)
    go (later x zs e f) = absurd (earlier bytes p o h g x zs e f)

-- What the automaton says of a text. Where it ends at a line's start, the text belongs to the grammar
pub reading : (text : List ℕ) (ps : List Form) → Text (tokens_of (lexed text 0)) ps → Reads text ps
reading text ps t =
    let ts : List Placed = lexed text 0 in
    record { tokens = ts; lexed = lexes_at text 0; says = t }

pub scan_taken : (text : List ℕ) → run fresh (tokens_of (lexed text 0)) ≡ some fresh → (ps : List Form) × Reads text ps
scan_taken text e = go (read_tokens (tokens_of (lexed text 0))) (answers (tokens_of (lexed text 0)))
  where
    go : (a : Answer) → Answered (tokens_of (lexed text 0)) a → (ps : List Form) × Reads text ps
    go _ (texted {ps = ps} t) = (ps, reading text ps t)
    go _ (halted {r = r} h) = absurd (halts_not (tokens_of (lexed text 0)) r h e)

-- where it stops, there the text is garbled
refused_at : (text : List ℕ) (us vs : List Placed) (s : State) → run fresh (tokens_of us) ≡ some s → Refuses s (tokens_of vs) → At text us vs (offset text vs)
refused_at text us [] s t f = (refl, λ ps x. halted_no_text (tokens_of us) [] ps (record { before = tokens_of us; state = s; split = sym (append-nil (tokens_of us)); taken = t; refuses = f }) x)
refused_at text us (x ∷ vs) s t f = (refl, halted_not_viable (tokens_of us) s x.token t f)

scan_at : (text : List ℕ) (us vs : List Placed) (s : State) → lexed text 0 ≡ us ++ vs → run fresh (tokens_of us) ≡ some s → Refuses s (tokens_of vs) → UnreadableAt text (offset text vs)
scan_at text us vs s e t f = record { before = us; after = vs; lexed = subst (λ (v : List Placed). Lexes 0 text v) e (lexes_at text 0); viable = viable_run (tokens_of us) s t; there = refused_at text us vs s t f }

pub scan_unreadable : (text : List ℕ) (us vs : List Placed) (s : State) → lexed text 0 ≡ us ++ vs → run fresh (tokens_of us) ≡ some s → Refuses s (tokens_of vs) →
    UnreadableAt text (offset text vs) × ((ps : List Form) → Reads text ps → ⊥)
scan_unreadable text us vs s e t f =
    let g : UnreadableAt text (offset text vs) = scan_at text us vs s e t f in
    (g, λ ps. apart text (offset text vs) ps g)

-- the definitional reader of a text, and that a text comes to what it answers
abbrev outcome : List ℕ → List Placed → Answer → Outcome
outcome text ts (all ps) = taken ps
outcome text ts (stopped r) = unreadable (offset text (drop (length ts - length r) ts))

abbrev pub read_bytes : List ℕ → Outcome
read_bytes text = outcome text (lexed text 0) (read_tokens (tokens_of (lexed text 0)))

tokens_split : (ts : List Placed) (xs ys : List Token) → tokens_of ts ≡ xs ++ ys → (us : List Placed) × (vs : List Placed) × (ts ≡ us ++ vs) × (tokens_of us ≡ xs) × (tokens_of vs ≡ ys)
tokens_split ts [] ys e = ([], ts, refl, refl, e)
tokens_split [] (x ∷ xs) ys e = let z : ◌≡◌ {A = ℕ} 0 1 = cc in absurd (omega arith)
tokens_split (t ∷ ts) (x ∷ xs) ys e =
    let (us, vs, a, b, c) = tokens_split ts xs ys (cc) in
    let d : t.token ≡ x = cc in
    (t ∷ us, vs, ap (λ (v : List Placed). t ∷ v) a, (cc), c)

comes : (text : List ℕ) (a : Answer) → Answered (tokens_of (lexed text 0)) a → ComesTo text (outcome text (lexed text 0) a)
comes text _ (texted {ps = ps} t) = reading text ps t
comes text _ (halted {r = r} h) = go (tokens_split (lexed text 0) h.before r h.split)
  where
    ts : List Placed
    ts = lexed text 0

    go : (us : List Placed) × (vs : List Placed) × (ts ≡ us ++ vs) × (tokens_of us ≡ h.before) × (tokens_of vs ≡ r) → UnreadableAt text (offset text (drop (length ts - length r) ts))
    go (us, vs, a, b, c) =
        let n : length us ≡ length ts - length r = omega (arith, ap length a, length-append us vs, ap length c, length-map vs (λ (x : Placed). x.token)) in
        let d : drop (length ts - length r) ts ≡ vs = ap (drop (length ts - length r)) a ∙ drop_at us vs (length ts - length r) n in
        subst (λ (v : List Placed). UnreadableAt text (offset text v)) (sym d)
        (scan_at text us vs h.state a (ap (run fresh) b ∙ h.taken) (subst (Refuses h.state) (sym c) h.refuses))

pub comes_to : (text : List ℕ) → ComesTo text (read_bytes text)
comes_to text = comes text (read_tokens (tokens_of (lexed text 0))) (answers (tokens_of (lexed text 0)))
