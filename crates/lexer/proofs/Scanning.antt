-- The scan's loop: the tokens so far are those of the text up to a place, and the automaton takes them.
use Rattle.std.proofs.Common.{◌≡◌, refl, sym, ap, ◌∙◌, List, [], ◌∷◌, ◌++◌, map, append_assoc, append-nil, ℕ, zero, suc, ◌+◌, ◌≤◌, ◌<◌, length, set, replicate, Err, arith}
use lib.ListN.{length-append}
use Rattle.std.proofs.lemmas.List.{map-append}
use lib.Seq.{set_at, get_or-append_seam}
use Rattle.std.proofs.Math.Option.{Option, none, some}
use Rattle.definition.specs.Limits.{most_text}
use Rattle.grammar.specs.Tokens.{Tilde, Box, Diamond, Ampersand, Bar, Arrow, Double, Both, Token, name, sign, joint, opening, closing, newline, invalid}
use Rattle.grammar.specs.Lexing.{Placed, placed, tokens_of}
use Rattle.grammar.specs.Scan.{lexed}
use Rattle.grammar.specs.Automaton.{State, fresh, operand, operator, step, runs, run, Unfinished, Refuses, offset}
use Rattle.grammar.specs.Reading.{UnreadableAt}
use Rattle.grammar.proofs.Automaton.{runs_append}
use Rattle.grammar.proofs.Texts.{tokens_append, scan_unreadable}
use Rattle.lexer.specs.Words.{word_of, token_of, before, tokens_within, tokens_from}
use Rattle.lexer.specs.Bytes.{Shown, no_more, token, not_spelled}
use Rattle.lexer.specs.Steps.{state_of, depth_of}
use Rattle.lexer.specs.declared.Word.{Word}
use Rattle.lexer.specs.declared.Awaited.{Awaited}
use Rattle.lexer.specs.declared.ScanError.{ScanError}
use Rattle.lexer.specs.Scanned.{ScannedAs}
use Rattle.lexer.proofs.Stepping.{token_word, deeper}

abbrev pub words_of : List Token → List Word
words_of = map word_of

before_word : (t : Token) (us : List Token) → before (word_of t) us ≡ t ∷ us
before_word (name a) us = refl
before_word (sign Tilde) us = refl
before_word (sign Box) us = refl
before_word (sign Diamond) us = refl
before_word (joint Ampersand) us = refl
before_word (joint Bar) us = refl
before_word (joint Arrow) us = refl
before_word (joint Double) us = refl
before_word (joint Both) us = refl
before_word opening us = refl
before_word closing us = refl
before_word newline us = refl
before_word invalid us = refl

-- words followed by ends are read as the tokens
reads_back : (n k : ℕ) (pre : List Word) (ts : List Token) → length (words_of ts) + k ≡ n → tokens_within n (pre ++ (words_of ts ++ replicate k Word.End)) (length pre) ≡ ts
unfolding tokens_within
reads_back zero k pre [] e = refl
reads_back zero k pre (t ∷ ts) e = absurd (omega arith)
reads_back (suc n) zero pre [] e = absurd (omega arith)
reads_back (suc n) (suc k) pre [] e = rw (get_or-append_seam pre Word.End (replicate k Word.End) Word.End) refl
reads_back (suc n) k pre (t ∷ ts) e =
    let rest : List Word = words_of ts ++ replicate k Word.End in
    let l : length (pre ++ (word_of t ∷ [])) ≡ suc (length pre) = omega (arith, length-append pre (word_of t ∷ [])) in
    let m : tokens_within n (pre ++ (word_of t ∷ rest)) (suc (length pre)) ≡ ts =
    ap (λ (v : List Word). tokens_within n v (suc (length pre))) (sym (append_assoc pre (word_of t ∷ []) rest))
    ∙ ap (λ (i : ℕ). tokens_within n ((pre ++ (word_of t ∷ [])) ++ rest) i) (sym l)
    ∙ reads_back n k (pre ++ (word_of t ∷ [])) ts (omega arith) in
    rw (get_or-append_seam pre (word_of t) rest Word.End) (before_word t (tokens_within n (pre ++ (word_of t ∷ rest)) (suc (length pre))) ∙ ap (λ (v : List Token). t ∷ v) m)

pub unreadable_at : (text : List ℕ) (begun words : List Word) (o : ℕ) (error : ScanError) → error ≡ ScanError.Unreadable o → length text ≤ most_text → UnreadableAt text o → ScannedAs text begun words (Err error)
unreadable_at text begun words o error e h u = rw e (h, u)

-- the loop's state
pub record Sofar (text : List ℕ) (begun words : List Word) (at count : ℕ) (awaited : Awaited) : Type 0 where
  pub past : List Placed
  pub split : lexed text 0 ≡ past ++ lexed text at
  pub goes : run fresh (tokens_of past) ≡ some (state_of awaited)
  pub room : ℕ
  pub counted : length (words_of (tokens_of past)) ≡ count
  pub filled : count + room ≡ most_text
  pub stored : begun ≡ replicate most_text Word.End → words ≡ words_of (tokens_of past) ++ replicate room Word.End
  pub few : count ≤ at
  pub inside : at ≤ length text
  pub shallow : depth_of awaited ≤ count

pub start : (text : List ℕ) (words : List Word) → Sofar text words words 0 0 Awaited.Line
start text words = record { past = []; split = refl; goes = refl; room = most_text; counted = refl; filled = refl; stored = λ e. e; few = omega arith; inside = omega arith; shallow = omega arith }

-- a word that is not the end
abbrev pub NotEnd : Word → Type 0
NotEnd w = w ≡ Word.End → ⊥

no_invalid : (s : State) → step s invalid ≡ none
no_invalid fresh = refl
no_invalid (operand d) = refl
no_invalid (operator d) = refl

some_none : {s : State} {o : Option State} → o ≡ none → o ≡ some s → ⊥
some_none {s} {o} e f = cc

-- the token that is followed
record Taken (text : List ℕ) (at start end : ℕ) (awaited next : Awaited) (w : Word) : Type 0 where
  token_is : Token
  word_is : w ≡ word_of token_is
  shown : lexed text at ≡ placed start token_is ∷ lexed text end
  moves : at < end
  inside : end ≤ length text
  steps : step (state_of awaited) token_is ≡ some (state_of next)

taken : (text : List ℕ) (at start end : ℕ) (awaited next : Awaited) (w : Word) → Shown text at start end w → NotEnd w → step (state_of awaited) (token_of w) ≡ some (state_of next) → Taken text at start end awaited next w
taken text at start end awaited next _ (no_more a b) n f = absurd (n refl)
taken text at start end awaited next _ (token t l m i) n f = record { token_is = t; word_is = refl; shown = l; moves = m; inside = i; steps = ap (step (state_of awaited)) (sym (token_word t)) ∙ f }
taken text at start end awaited next _ (not_spelled l) n f = absurd (some_none (no_invalid (state_of awaited)) f)

unfinished : (awaited : Awaited) → (awaited ≡ Awaited.Line → ⊥) → Unfinished (state_of awaited)
unfinished Awaited.Line n = absurd (n refl)
unfinished (Awaited.Operand d) n = tt
unfinished (Awaited.Operator d) n = tt

-- where the next word is the end
ended : (text : List ℕ) (at start end : ℕ) (w : Word) → Shown text at start end w → w ≡ Word.End → lexed text at ≡ []
ended text at start end _ (no_more a b) e = a
ended text at start end _ (token t l m i) e = absurd (no_end t e)
  where
    no_end : (t : Token) → word_of t ≡ Word.End → ⊥
    no_end (name a) e = cc
    no_end (sign s) e = cc
    no_end (joint j) e = cc
    no_end opening e = cc
    no_end closing e = cc
    no_end newline e = cc
    no_end invalid e = cc
ended text at start end _ (not_spelled l) e = cc

module _ {text : List ℕ} {begun words : List Word} {at count : ℕ} {awaited : Awaited} (z : Sofar text begun words at count awaited) where
  -- the text can't go on at vs
  halted : (vs : List Placed) → lexed text at ≡ vs → Refuses (state_of awaited) (tokens_of vs) → UnreadableAt text (offset text vs)
  halted vs e h = (scan_unreadable text z.past vs (state_of awaited) (z.split ∙ ap (λ (v : List Placed). z.past ++ v) e) z.goes h).0

  -- a token is refused
  pub refused : {start end : ℕ} {w : Word} → Shown text at start end w → NotEnd w → step (state_of awaited) (token_of w) ≡ none → UnreadableAt text start
  refused (no_more a b) n f = absurd (n refl)
  refused {start} {end} (token t l m i) n f = halted (placed start t ∷ lexed text end) l (ap (step (state_of awaited)) (sym (token_word t)) ∙ f)
  refused {start} (not_spelled l) n f = halted (placed start invalid ∷ []) l f

  -- the text ends short
  pub short : {start end : ℕ} {w : Word} → Shown text at start end w → w ≡ Word.End → (awaited ≡ Awaited.Line → ⊥) → UnreadableAt text (length text)
  short {start} {end} {w} h e m = halted [] (ended text at start end w h e) (unfinished awaited m)

  -- the text ends where a line begins
  pub whole : {start end : ℕ} {w : Word} → Shown text at start end w → w ≡ Word.End → awaited ≡ Awaited.Line → begun ≡ replicate most_text Word.End → (tokens_from words 0 ≡ tokens_of (lexed text 0)) × (run fresh (tokens_from words 0) ≡ some fresh)
  whole {start} {end} {w} h e n ends =
      let a = ended text at start end w h e in
      let s : z.past ≡ lexed text 0 = sym (z.split ∙ ap (λ (v : List Placed). z.past ++ v) a ∙ append-nil z.past) in
      let c : tokens_from words 0 ≡ tokens_of z.past = ap (λ (v : List Word). tokens_from v 0) (z.stored ends) ∙ reads_back most_text z.room [] (tokens_of z.past) (omega (arith, z.counted, z.filled)) in
      (c ∙ ap tokens_of s, ap (λ (v : List Token). run fresh v) c ∙ z.goes ∙ ap (λ (x : Awaited). some (state_of x)) n)

  -- it moves on, and there is room
  pub next : {start end : ℕ} {w : Word} (later : Awaited) → Shown text at start end w → NotEnd w → step (state_of awaited) (token_of w) ≡ some (state_of later) → length text ≤ most_text →
      Sofar text begun (set words count w) end (count + 1) later
  next {start} {end} {w} later h n f le = go z.room refl
    where
      k : Taken text at start end awaited later w
      k = taken text at start end awaited later w h n f

      t : Token
      t = k.token_is

      ts : List Token
      ts = tokens_of z.past

      x : Placed
      x = placed start t

      more : tokens_of (z.past ++ (x ∷ [])) ≡ ts ++ (t ∷ [])
      more = tokens_append z.past (x ∷ [])

      worded : words_of (tokens_of (z.past ++ (x ∷ []))) ≡ words_of ts ++ (word_of t ∷ [])
      worded = ap words_of more ∙ map-append word_of ts (t ∷ [])

      go : (m : ℕ) → z.room ≡ m → Sofar text begun (set words count w) end (count + 1) later
      go zero g = absurd (omega (arith, z.filled, z.few, k.moves, k.inside))
      go (suc m) g = record {
        past = z.past ++ (x ∷ []);
        split = z.split ∙ ap (λ (l : List Placed). z.past ++ l) k.shown ∙ sym (append_assoc z.past (x ∷ []) (lexed text end));
        goes = ap (λ (l : List Token). run fresh l) more ∙ runs_append (some fresh) ts (t ∷ []) ∙ ap (λ (o : Option State). runs (t ∷ []) o) z.goes ∙ k.steps;
        room = m;
        counted = omega (arith, ap length worded, length-append (words_of ts) (word_of t ∷ []), z.counted);
        filled = omega (arith, z.filled);
        stored = λ ends.
            ap (λ (l : List Word). set l count w) (z.stored ends ∙ ap (λ (i : ℕ). words_of ts ++ replicate i Word.End) g)
            ∙ set_at (words_of ts) Word.End (replicate m Word.End) w count z.counted
            ∙ ap (λ (i : Word). words_of ts ++ (i ∷ replicate m Word.End)) k.word_is
            ∙ sym (append_assoc (words_of ts) (word_of t ∷ []) (replicate m Word.End))
            ∙ ap (λ (l : List Word). l ++ replicate m Word.End) (sym worded);
        few = omega (arith, z.few, k.moves);
        inside = k.inside;
        shallow = omega (arith, z.shallow, deeper awaited later t k.steps);
      }
