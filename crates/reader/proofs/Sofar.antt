-- The lines of a text, one after the other.
use mathlib.Core.Path.{◌≡◌, refl, sym, ap, subst, ◌∙◌}
use mathlib.Core.List.{List, [], ◌∷◌, ◌++◌, append_assoc, append-nil}
use mathlib.Core.Option.{Option, some}
use Prim.Native.Nat.{ℕ, suc, ◌+◌, ◌*◌, ◌-◌, ◌≤◌}
use native.Mathlib.Omega.{arith}
use lib.ListN.{length, set, replicate, length-append}
use Rattle.definition.specs.Formula.{Form}
use Rattle.grammar.specs.Tokens.{Token, name, sign, joint, opening, closing, newline, invalid, loosest}
use Rattle.grammar.specs.Grammar.{Text, blank}
use Rattle.grammar.specs.Automaton.{Ends, State, fresh, operand, runs, run, Takes, Fails, Refuses, operator}
use Rattle.definition.specs.Records.{Rec}
use Rattle.definition.specs.Lists.{padded}
use Rattle.definition.specs.Limits.{text_tray_length}
use Rattle.grammar.specs.Lines.{records_of, lines_from, tray_of}
use Rattle.grammar.proofs.Automaton.{runs_append, walks, halts_not}
use Rattle.grammar.proofs.Connectives.{length_marked}
use Rattle.grammar.proofs.Taking.{not_looser, shorter, halts_refused, halts_line, text_line}
use Rattle.definition.specs.Limits.{record_length, most_text, text_tray_length}
use Rattle.lexer.specs.Words.{sign_of, joint_of, tokens_from, Spot, Stands}
use Rattle.lexer.specs.declared.Word.{Word}
use Rattle.lexer.proofs.Reading.{from_cons}
use Rattle.reader.specs.Levels.{Got, Lost, LinesRead}
use Rattle.reader.proofs.Placing.{marks}

-- the automaton takes the tokens to the start of a line
abbrev pub Accepted : List Token → Type 0
Accepted ts = run fresh ts ≡ some fresh

-- what was read of an accepted text: the records of its lines so far, and what is left is accepted too
pub record Sofar (words : List Word) (tray : List ℕ) (at count : ℕ) : Type 0 where
  pub records : List Rec
  pub length_is : length records ≡ count
  pub holds : tray ≡ tray_of records
  pub left : Accepted (tokens_from words at)
  pub texts : (ps : List Form) → Text (tokens_from words at) ps → (qs : List Form) × Text (tokens_from words 0) qs × (lines_from 0 qs ≡ records ++ lines_from count ps)

pub record Reading (words : List Word) (tray : List ℕ) (at count : ℕ) : Type 0 where
  pub inside : at ≤ suc most_text
  pub few : count ≤ at
  pub most : count ≤ most_text
  pub sofar : Accepted (tokens_from words 0) → Sofar words tray at count

pub reading_start : (words : List Word) (tray : List ℕ) (count : ℕ) → (tray ≡ replicate text_tray_length 0) × (count ≡ 0) → Reading words tray 0 count
unfolding padded
reading_start words tray count (e, z) =
    subst (λ (i : ℕ). Reading words tray 0 i) (sym z)
    (record {
      inside = omega arith;
      few = omega arith;
      most = omega arith;
      sofar = λ a. record { records = []; length_is = refl; holds = e; left = a; texts = λ ps t. (ps, t, refl) };
    })

-- after a line's phrase comes its newline, and what follows is accepted
after_line : (ts : List Token) {p : Form} (r : List Token) → Takes loosest ts p r → Ends loosest r → Accepted ts → (us : List Token) × (r ≡ newline ∷ us) × Accepted us
after_line [] r h e a = absurd (omega (arith, shorter h))
after_line (t ∷ ts) {p} r h e a = go r h e
  where
    refused : {r : List Token} → Takes loosest (t ∷ ts) p r → Refuses (operator 0) r → ⊥
    refused {r} h f = halts_not (t ∷ ts) r (halts_refused h f) a

    passed : (us : List Token) → Takes loosest (t ∷ ts) p (newline ∷ us) → Accepted us
    passed us h =
        sym (runs_append (some (operand 0)) h.tokens (newline ∷ us) ∙ ap (λ (o : Option State). runs (newline ∷ us) o) (walks h.reads 0))
        ∙ sym (ap (λ (v : List Token). run (operand 0) v) h.split)
        ∙ a

    go : (r : List Token) → Takes loosest (t ∷ ts) p r → Ends loosest r → (us : List Token) × (r ≡ newline ∷ us) × Accepted us
    go [] h e = absurd (refused h tt)
    go (name x ∷ r) h e = absurd (refused h refl)
    go (sign x ∷ r) h e = absurd (refused h refl)
    go (joint x ∷ r) h e = absurd (not_looser x e)
    go (opening ∷ r) h e = absurd (refused h refl)
    go (closing ∷ r) h e = absurd (refused h refl)
    go (newline ∷ us) h e = (us, refl, passed us h)
    go (invalid ∷ r) h e = absurd (refused h refl)

-- a line more
pub reading_next : (words : List Word) (tray middle after : List ℕ) (at count end written made : ℕ) → Reading words tray at count → Got words at 4 count tray middle end written → after ≡ set middle (record_length * (written - 1) + 1) 1 → made ≡ written →
    Reading words after (end + 1) made
unfolding lines_from
reading_next words tray middle after at count end written made s g mk e =
    subst (λ (i : ℕ). Reading words after (end + 1) i) (sym e)
    (record {
      inside = omega (arith, g.span.inside);
      few = omega (arith, s.few, g.span.few);
      most = omega (arith, s.few, g.span.few, g.span.inside);
      sofar = λ a. line (s.sofar a);
    })
  where
    line : Sofar words tray at count → Sofar words after (end + 1) written
    line x = go (after_line (tokens_from words at) (tokens_from words end) g.takes g.ends x.left)
      where
        f : Form
        f = g.form

        rs : List Rec
        rs = records_of f 1 count

        written_is : written ≡ count + length rs
        written_is = omega (arith, g.span.count_is, length_marked f 1 count)

        go : (us : List Token) × (tokens_from words end ≡ newline ∷ us) × Accepted us → Sofar words after (end + 1) written
        go (us, q, a) =
            let same : us ≡ tokens_from words (end + 1) = from_cons words end newline us q in
            record {
              records = x.records ++ rs;
              length_is = length-append x.records rs ∙ ap (λ (i : ℕ). i + length rs) x.length_is ∙ sym written_is;
              holds = mk ∙ ap (λ (v : List ℕ). set v (record_length * (written - 1) + 1) 1) (g.span.holds x.records x.length_is x.holds) ∙ marks x.records f count written x.length_is g.span.count_is;
              left = subst Accepted same a;
              texts = λ ps t.
                  let z = x.texts (f ∷ ps) (text_line (subst (λ (v : List Token). Takes loosest (tokens_from words at) f v) (q ∙ ap (λ (v : List Token). newline ∷ v) same) g.takes) t) in
                  (z.0, z.1, z.2 ∙ ap (λ (v : ℕ). x.records ++ (rs ++ lines_from v ps)) (sym written_is) ∙ sym (append_assoc x.records rs (lines_from written ps)));
            }

-- tokens are left
some_tokens : (words : List Word) (at : ℕ) (w : Word) → Stands words at w → (w ≡ Word.End → ⊥) → (t : Token) × Spot words at t
some_tokens words at Word.End s k = absurd (k refl)
some_tokens words at (Word.Name a) s k = (name a, s)
some_tokens words at (Word.Sign x) s k = (sign (sign_of x), s)
some_tokens words at (Word.Joint x) s k = (joint (joint_of x), s)
some_tokens words at Word.Opening s k = (opening, s)
some_tokens words at Word.Closing s k = (closing, s)
some_tokens words at Word.Newline s k = (newline, s)
some_tokens words at Word.Invalid s k = (invalid, s)

-- in an accepted text a line has its phrase
pub lines_lost : (words : List Word) (tray after : List ℕ) (at count r : ℕ) (w : Word) → Reading words tray at count → Stands words at w → (w ≡ Word.End → ⊥) → Lost words at → LinesRead words after r
lines_lost words tray after at count r w s v k lost a = absurd (go (some_tokens words at w v k) lost)
  where
    go : (t : Token) × Spot words at t → Lost words at → ⊥
    go (t, x) (rest, f) = halts_not (t ∷ tokens_from words (at + 1)) rest (halts_line (subst (λ (v : List Token). Fails v rest) x.is f)) (subst Accepted x.is (s.sofar a).left)

pub lines_end : (words : List Word) (tray : List ℕ) (at count : ℕ) (w : Word) → Reading words tray at count → Stands words at w → w ≡ Word.End → LinesRead words tray count
unfolding lines_from
lines_end words tray at count w s h e a =
    let none : tokens_from words at ≡ [] = subst (Stands words at) e h in
    let x = s.sofar a in
    let z = x.texts [] (subst (λ (v : List Token). Text v []) (sym none) blank) in
    let q : x.records ≡ lines_from 0 z.0 = sym (z.2 ∙ append-nil x.records) in
    (z.0, z.1, x.holds ∙ ap tray_of q, sym x.length_is ∙ ap length q, s.most)
