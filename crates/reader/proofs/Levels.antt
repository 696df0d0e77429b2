-- What the functions of the levels do, over the contracts of their callees: a phrase is read and its records are in the tray; or no phrase begins there.
use mathlib.Core.Path.{◌≡◌, refl, sym, ap, subst, ◌∙◌}
use mathlib.Core.List.{List, [], ◌∷◌, ◌++◌, append_assoc}
use mathlib.Core.Option.{none}
use Rattle.std.specs.Prelude.{Option, Some, None}
use Prim.Native.Nat.{ℕ, suc, ◌+◌, ◌-◌, ◌≤◌, ◌<◌}
use native.Mathlib.Omega.{arith}
use lib.ListN.{length, length-append}
use Rattle.definition.specs.Formula.{Form, atom}
use Rattle.grammar.specs.Tokens as G
use Rattle.grammar.specs.Tokens.{Token, name, sign, joint, opening, closing, newline, invalid, signed, joined, level, loosest, leftward, rightward, side}
use Rattle.grammar.specs.Automaton.{Ends, Takes, Fails, operator, step, Refuses}
use Rattle.definition.specs.Records.{Kind, Atomic, number_of, Rec}
use Rattle.grammar.specs.Lines.{rec, records_of, tray_of}
use Rattle.definition.specs.Trays.{two, record_bytes}
use Rattle.definition.specs.Lists.{concat_map, padded}
use Rattle.definition.specs.Limits.{text_tray_length}
use Rattle.grammar.proofs.Taking.{NoOperand, not_looser, ends_operand, takes_name, takes_sign, takes_brackets, takes_single, takes_left, takes_right, fails_here, fails_sign, fails_inside, fails_refused, fails_later}
use Rattle.grammar.proofs.Connectives as C
use Rattle.grammar.proofs.Connectives.{sign_records, joint_records, side_left, side_right, one_side}
use Rattle.grammar.proofs.Decoded.{bytes_append, length_bytes}
use Rattle.lexer.specs.declared.Sign.{Sign}
use Rattle.lexer.specs.declared.Joint.{Joint}
use Rattle.lexer.specs.Words.{sign_kind, joint_kind, sign_of, joint_of, tokens_from, Spot, Stands}
use Rattle.definition.specs.Limits.{most_text, text_tray_length}
use Rattle.lexer.specs.declared.Word.{Word}
use Rattle.reader.specs.Levels.{Span, Got, Lost, Parsed, Grouped, Puts, Joins, JointAt, Closed}

put_holds : (before after : List ℕ) (n kind l r : ℕ) (k : Kind) → kind ≡ number_of k → Puts before after n kind l r → (rs : List Rec) → length rs ≡ n → before ≡ tray_of rs → after ≡ tray_of (rs ++ (rec 0 k l r ∷ []))
unfolding record_bytes
put_holds before after n kind l r k e p rs q h =
    p (concat_map record_bytes rs) (omega (arith, length_bytes rs)) h
    ∙ ap (λ (v : List ℕ). padded text_tray_length v) (ap (λ (x : ℕ). concat_map record_bytes rs ++ (x ∷ 0 ∷ (two l ++ two r))) e ∙ sym (bytes_append rs (rec 0 k l r ∷ [])))

-- the numbers of the kinds
sign_number : (s : Sign) → sign_kind s ≡ number_of (C.sign_of (sign_of s))
unfolding number_of C.sign_of
sign_number Sign.Non = refl
sign_number Sign.Possible = refl
sign_number Sign.Necessary = refl

joint_number : (j : Joint) → joint_kind j ≡ number_of (C.joint_of (joint_of j))
unfolding number_of C.joint_of
joint_number Joint.And = refl
joint_number Joint.Or = refl
joint_number Joint.Imply = refl
joint_number Joint.BiImply = refl
joint_number Joint.StrictImply = refl

-- by equal numbers
counted : {words : List Word} {at l count : ℕ} {before after : List ℕ} {end written : ℕ} (made : ℕ) → made ≡ written → Got words at l count before after end written → Got words at l count before after end made
counted {words} {at} {l} {count} {before} {after} {end} made e g = subst (λ (i : ℕ). Got words at l count before after end i) (sym e) g

-- a name
pub got_name : (words : List Word) (at count : ℕ) (before after : List ℕ) (a made : ℕ) → Spot words at (name a) → count ≤ at → Puts before after count 0 a 0 → made ≡ count + 1 → Got words at 0 count before after (at + 1) made
unfolding records_of number_of
got_name words at count before after a made s few put e =
    let i : at < most_text = s.inside in
    counted made e
    (record {
      form = atom a;
      takes = subst (λ (v : List Token). Takes 0 v (atom a) (tokens_from words (at + 1))) (sym s.is) (takes_name a (tokens_from words (at + 1)));
      ends = ends_operand (tokens_from words (at + 1));
      span = record {
        moves = omega arith;
        inside = omega arith;
        count_is = refl;
        some = omega arith;
        few = omega arith;
        holds = λ rs q b. put_holds before after count 0 a 0 Atomic refl put rs q b;
      };
    })

-- a sign and its operand
pub got_sign : (words : List Word) (at count : ℕ) (before middle after : List ℕ) (s : Sign) (k end written inner made : ℕ) → Spot words at (sign (sign_of s)) → Got words (at + 1) 0 count before middle end written → k ≡ sign_kind s → inner ≡ written - 1 →
    Puts middle after written k inner 0 → made ≡ written + 1 → Got words at 0 count before after end made
got_sign words at count before middle after s k end written inner made w g q i put e =
    let ps : List Rec = records_of g.form 0 count in
    let c : written ≡ count + length ps = g.span.count_is in
    let x : at + 1 < end = g.span.moves in
    let y : written + (at + 1) ≤ count + end = g.span.few in
    let z : end ≤ most_text = g.span.inside in
    let own : Rec = rec 0 (C.sign_of (sign_of s)) inner 0 in
    let rs-is : records_of (signed (sign_of s) g.form) 0 count ≡ ps ++ (own ∷ []) =
    sign_records (sign_of s) g.form 0 count ∙ ap (λ (i : ℕ). ps ++ (rec 0 (C.sign_of (sign_of s)) (i - 1) 0 ∷ [])) (sym c) ∙ ap (λ (i : ℕ). ps ++ (rec 0 (C.sign_of (sign_of s)) i 0 ∷ [])) (sym i) in
    counted made e
    (record {
      form = signed (sign_of s) g.form;
      takes = subst (λ (v : List Token). Takes 0 v (signed (sign_of s) g.form) (tokens_from words end)) (sym w.is) (takes_sign (sign_of s) g.takes);
      ends = g.ends;
      span = record {
        moves = omega arith;
        inside = z;
        count_is = omega (arith, ap length rs-is, length-append ps (own ∷ []));
        some = omega (arith, g.span.some);
        few = omega arith;
        holds = λ rs l b.
            put_holds middle after written k inner 0 (C.sign_of (sign_of s)) (q ∙ sign_number s) put (rs ++ ps) (omega (arith, length-append rs ps)) (g.span.holds rs l b)
            ∙ ap tray_of (append_assoc rs ps (own ∷ []) ∙ ap (λ (v : List Rec). rs ++ v) (sym rs-is));
      };
    })

-- a formula in brackets
pub got_brackets : (words : List Word) (at count : ℕ) (before after : List ℕ) (inner end written : ℕ) → Spot words at opening → Got words (at + 1) 4 count before after inner written → Spot words inner closing → end ≡ inner + 1 → Got words at 0 count before after end written
got_brackets words at count before after inner end written w g v e =
    let c : at + 1 < inner = g.span.moves in
    let i : inner < most_text = v.inside in
    subst (λ (i : ℕ). Got words at 0 count before after i written) (sym e)
    (record {
      form = g.form;
      takes = subst (λ (u : List Token). Takes 0 u g.form (tokens_from words (inner + 1))) (sym w.is) (takes_brackets (subst (λ (u : List Token). Takes loosest (tokens_from words (at + 1)) g.form u) v.is g.takes));
      ends = ends_operand (tokens_from words (inner + 1));
      span = record {
        moves = omega arith;
        inside = omega arith;
        count_is = g.span.count_is;
        some = g.span.some;
        few = omega (arith, g.span.few);
        holds = g.span.holds;
      };
    })

-- ---- where no phrase is read
pub lost_as : (words : List Word) (at l count : ℕ) (before after : List ℕ) (written : ℕ) (r : Option ℕ) → r ≡ None → Lost words at → Parsed words at l count before after written r
lost_as words at l count before after written r e h = subst (Parsed words at l count before after written) (sym e) h

none_begins : (words : List Word) (at : ℕ) (ts : List Token) → tokens_from words at ≡ ts → NoOperand ts → Lost words at
none_begins words at ts e h = (ts, subst (λ (v : List Token). Fails v ts) (sym e) (fails_here ts h))

pub lost_here : (words : List Word) (at : ℕ) (w : Word) → Stands words at w → ((a : ℕ) → w ≡ Word.Name a → ⊥) → ((k : Sign) → w ≡ Word.Sign k → ⊥) → (w ≡ Word.Opening → ⊥) → Lost words at
lost_here words at Word.End e n k o = none_begins words at [] e tt
lost_here words at (Word.Name a) h n k o = absurd (n a refl)
lost_here words at (Word.Sign s) h n k o = absurd (k s refl)
lost_here words at (Word.Joint j) s n k o = none_begins words at (joint (joint_of j) ∷ tokens_from words (at + 1)) s.is (λ d. refl)
lost_here words at Word.Opening h n k o = absurd (o refl)
lost_here words at Word.Closing s n k o = none_begins words at (closing ∷ tokens_from words (at + 1)) s.is (λ d. refl)
lost_here words at Word.Newline s n k o = none_begins words at (newline ∷ tokens_from words (at + 1)) s.is (λ d. refl)
lost_here words at Word.Invalid s n k o = none_begins words at (invalid ∷ tokens_from words (at + 1)) s.is (λ d. refl)

pub lost_sign : (words : List Word) (at : ℕ) (s : Sign) → Spot words at (sign (sign_of s)) → Lost words (at + 1) → Lost words at
lost_sign words at s w (ts, h) = (ts, subst (λ (v : List Token). Fails v ts) (sym w.is) (fails_sign (sign_of s) h))

pub lost_inside : (words : List Word) (at : ℕ) → Spot words at opening → Lost words (at + 1) → Lost words at
lost_inside words at w (ts, h) = (ts, subst (λ (v : List Token). Fails v ts) (sym w.is) (fails_inside h))

-- the closing bracket
refuses_by : (words : List Word) (at d : ℕ) (t : Token) → Spot words at t → step (operator (suc d)) t ≡ none → Refuses (operator (suc d)) (tokens_from words at)
refuses_by words at d t s e = subst (Refuses (operator (suc d))) (sym s.is) e

pub no_closing : (words : List Word) (at : ℕ) (w : Word) → Stands words at w → (w ≡ Word.Closing → ⊥) → Ends loosest (tokens_from words at) → (d : ℕ) → Refuses (operator (suc d)) (tokens_from words at)
no_closing words at Word.End s k e d = subst (Refuses (operator (suc d))) (sym s) tt
no_closing words at (Word.Name a) s k e d = refuses_by words at d (name a) s refl
no_closing words at (Word.Sign n) s k e d = refuses_by words at d (sign (sign_of n)) s refl
no_closing words at (Word.Joint n) s k e d = absurd (not_looser (joint_of n) (subst (Ends loosest) s.is e))
no_closing words at Word.Opening s k e d = refuses_by words at d opening s refl
no_closing words at Word.Closing s k e d = absurd (k refl)
no_closing words at Word.Newline s k e d = refuses_by words at d newline s refl
no_closing words at Word.Invalid s k e d = refuses_by words at d invalid s refl

pub closes : (words : List Word) (at count : ℕ) (before after : List ℕ) (inner written : ℕ) (r : Option ℕ) → Spot words at opening → Got words (at + 1) 4 count before after inner written → Closed words inner r → Parsed words at 0 count before after written r
closes words at count before after inner written (Some end) w g (v, e) = got_brackets words at count before after inner end written w g v e
closes words at count before after inner written None w g x = (tokens_from words inner, subst (λ (v : List Token). Fails v (tokens_from words inner)) (sym w.is) (fails_refused g.takes (x g.ends)))

-- ---- the joints of a level k + 1: a phrase of the level is read so far, and one of the level below where the level groups to the right
pub record Going (words : List Word) (at k count : ℕ) (before after : List ℕ) (end written : ℕ) : Type 0 where
  pub form : Form
  pub takes : Takes (suc k) (tokens_from words at) form (tokens_from words end)
  pub first : (j : G.Joint) → level j ≡ suc k → side j ≡ rightward → Takes k (tokens_from words at) form (tokens_from words end)
  pub ends : Ends k (tokens_from words end)
  pub span : Span words at count before after form end written

pub going_start : {words : List Word} {at k count : ℕ} {before after : List ℕ} {end written : ℕ} → Got words at k count before after end written → Going words at k count before after end written
going_start g = record {
  form = g.form;
  takes = takes_single g.takes;
  first = λ j e s. g.takes;
  ends = g.ends;
  span = g.span;
}

-- no joint of the level follows
pub going_end : {words : List Word} {at k l count : ℕ} {before after : List ℕ} {end written : ℕ} → l ≡ suc k → Going words at k count before after end written → JointAt words end l None → Got words at l count before after end written
going_end {words} {at} {k} {l} {count} {before} {after} {end} {written} q g h =
    record {
      form = g.form;
      takes = subst (λ (i : ℕ). Takes i (tokens_from words at) g.form (tokens_from words end)) (sym q) g.takes;
      ends = h k q g.ends;
      span = g.span;
    }

-- a joint and what stands on its right
joined_span : (words : List Word) (at k l count : ℕ) (before a b after : List ℕ) (j : Joint) (end written end₂ written₂ : ℕ) → count ≤ at → (g : Going words at k count before a end written) →
    (h : Got words (end + 1) l written a b end₂ written₂) → Puts b after written₂ (joint_kind j) (written - 1) (written₂ - 1) → Span words at count before after (joined (joint_of j) g.form h.form) end₂ (written₂ + 1)
joined_span words at k l count before a b after j end written end₂ written₂ few g h p =
    let ps : List Rec = records_of g.form 0 count in
    let qs : List Rec = records_of h.form 0 written in
    let x : Kind = C.joint_of (joint_of j) in
    let last : List Rec = rec 0 x (written - 1) (written₂ - 1) ∷ [] in
    let c : written ≡ count + length ps = g.span.count_is in
    let d : written₂ ≡ written + length qs = h.span.count_is in
    let gm : at < end = g.span.moves in
    let hm : end + 1 < end₂ = h.span.moves in
    let hi : end₂ ≤ most_text = h.span.inside in
    let gf : written + at ≤ count + end = g.span.few in
    let hf : written₂ + (end + 1) ≤ written + end₂ = h.span.few in
    let gs : count < written = g.span.some in
    let hs : written < written₂ = h.span.some in
    let rs-is : records_of (joined (joint_of j) g.form h.form) 0 count ≡ (ps ++ qs) ++ last =
    joint_records (joint_of j) g.form h.form 0 count ∙ placed_at x ps (records_of h.form 0) count written written₂ c d in
    record {
      moves = omega arith;
      inside = hi;
      count_is = omega (arith, ap length rs-is, length-append (ps ++ qs) last, length-append ps qs);
      some = omega arith;
      few = omega arith;
      holds = λ rs x y.
          put_holds b after written₂ (joint_kind j) (written - 1) (written₂ - 1) (C.joint_of (joint_of j)) (joint_number j) p ((rs ++ ps) ++ qs) (omega (arith, length-append (rs ++ ps) qs, length-append rs ps))
          (h.span.holds (rs ++ ps) (omega (arith, length-append rs ps)) (g.span.holds rs x y))
          ∙ ap tray_of (ap (λ (v : List Rec). v ++ last) (append_assoc rs ps qs) ∙ append_assoc rs (ps ++ qs) last ∙ ap (λ (v : List Rec). rs ++ v) (sym rs-is));
    }
  where
    placed_at : (x : Kind) (ps : List Rec) (f : ℕ → List Rec) (n w v : ℕ) → w ≡ n + length ps → v ≡ w + length (f w) →
        (ps ++ f (n + length ps)) ++ (rec 0 x (n + length ps - 1) (n + length ps + length (f (n + length ps)) - 1) ∷ []) ≡ (ps ++ f w) ++ (rec 0 x (w - 1) (v - 1) ∷ [])
    placed_at x ps f n w v e d =
        ap (λ (i : ℕ). (ps ++ f i) ++ (rec 0 x (i - 1) (i + length (f i) - 1) ∷ [])) (sym e) ∙ ap (λ (i : ℕ). (ps ++ f w) ++ (rec 0 x (w - 1) (i - 1) ∷ [])) (sym d)

after_joint : (words : List Word) (at i l end : ℕ) (j : Joint) {p : Form} → Joins words end l j → Takes i (tokens_from words at) p (tokens_from words end) → Takes i (tokens_from words at) p (joint (joint_of j) ∷ tokens_from words (end + 1))
after_joint words at i l end j {p} x t = subst (λ (v : List Token). Takes i (tokens_from words at) p v) x.spot.is t

-- a joint that groups to the left, and on
pub going_next : (words : List Word) (at k count : ℕ) (before a b after : List ℕ) (j : Joint) (end written end₂ written₂ : ℕ) → count ≤ at → suc k ≤ 2 → Going words at k count before a end written → Joins words end (suc k) j →
    Got words (end + 1) k written a b end₂ written₂ → Puts b after written₂ (joint_kind j) (written - 1) (written₂ - 1) → Going words at k count before after end₂ (written₂ + 1)
going_next words at k count before a b after j end written end₂ written₂ few low g x h p =
    let f : level (joint_of j) ≡ suc k = x.level_is in
    let sd : side (joint_of j) ≡ leftward = side_left (joint_of j) (omega arith) in
    record {
      form = joined (joint_of j) g.form h.form;
      takes = takes_left (joint_of j) f sd (after_joint words at (suc k) (suc k) end j x g.takes) h.takes;
      first = λ i e s. absurd (one_side (joint_of j) i (suc k) f e sd s);
      ends = h.ends;
      span = joined_span words at k k count before a b after j end written end₂ written₂ few g h p;
    }

-- a joint that groups to the right
pub got_right : (words : List Word) (at k count : ℕ) (before a b after : List ℕ) (j : Joint) (end written end₂ written₂ : ℕ) → count ≤ at → 2 < suc k → Going words at k count before a end written → Joins words end (suc k) j →
    Got words (end + 1) (suc k) written a b end₂ written₂ → Puts b after written₂ (joint_kind j) (written - 1) (written₂ - 1) → Got words at (suc k) count before after end₂ (written₂ + 1)
got_right words at k count before a b after j end written end₂ written₂ few high g x h p =
    let f : level (joint_of j) ≡ suc k = x.level_is in
    let sd : side (joint_of j) ≡ rightward = side_right (joint_of j) (omega arith) in
    record {
      form = joined (joint_of j) g.form h.form;
      takes = takes_right (joint_of j) f sd (after_joint words at k (suc k) end j x (g.first (joint_of j) f sd)) h.takes;
      ends = h.ends;
      span = joined_span words at k (suc k) count before a b after j end written end₂ written₂ few g h p;
    }

-- the joints so far, from where the first phrase ends
pub record Adding (words : List Word) (first made l : ℕ) (begun tray : List ℕ) (end count : ℕ) : Type 0 where
  pub past : first ≤ end
  pub inside : end ≤ most_text
  pub few : count ≤ end
  pub some : 1 ≤ count
  pub goes : (at k n : ℕ) (before : List ℕ) → l ≡ suc k → n ≤ at → Got words at k n before begun first made → Going words at k n before tray end count

pub adding_start : (words : List Word) (first made l : ℕ) (begun : List ℕ) → first ≤ most_text → made ≤ first → 1 ≤ made → Adding words first made l begun begun first made
adding_start words first made l begun a b c = record { past = omega arith; inside = a; few = b; some = c; goes = λ at k n before q f g. going_start g }

-- no joint of the level follows
pub adding_end : {words : List Word} {first made l : ℕ} {begun tray : List ℕ} {end count : ℕ} → Adding words first made l begun tray end count → JointAt words end l None → Grouped words first made l begun tray count (Some end)
adding_end inv h at k n before q f g = going_end q (inv.goes at k n before q f g) h

module _ {words : List Word} {first made l : ℕ} {begun tray : List ℕ} {end count : ℕ} (inv : Adding words first made l begun tray end count) (j : Joint) (x : Joins words end l j) where
  pub adding_lost : (b : List ℕ) (written : ℕ) → Lost words (end + 1) → Grouped words first made l begun b written None
  adding_lost b written (ts, h) at k n before q f g = (ts, fails_later (joint_of j) (after_joint words at (suc k) l end j x (inv.goes at k n before q f g).takes) h)

  -- a phrase on its right, and their record
  module _ (b after : List ℕ) (later written left more : ℕ) (e : left ≡ count - 1) (put : Puts b after written (joint_kind j) left (written - 1)) (c : more ≡ written + 1) where
    puts : Puts b after written (joint_kind j) (count - 1) (written - 1)
    puts = subst (λ (i : ℕ). Puts b after written (joint_kind j) i (written - 1)) e put

    pub adding_right : 2 < l → Got words (end + 1) l count tray b later written → Grouped words first made l begun after more (Some later)
    adding_right high h at k n before q f g =
        counted more c
        (subst (λ (i : ℕ). Got words at i n before after later (written + 1)) (sym q)
        (got_right words at k n before tray b after j end count later written f (omega arith) (inv.goes at k n before q f g)
        (subst (λ (i : ℕ). Joins words end i j) q x) (subst (λ (i : ℕ). Got words (end + 1) i count tray b later written) q h) puts))

    pub adding_next : 1 ≤ l → l ≤ 2 → Got words (end + 1) (l - 1) count tray b later written → Adding words first made l begun after later more
    adding_next up low h =
        record {
          past = omega (arith, inv.past, h.span.moves);
          inside = h.span.inside;
          few = omega (arith, inv.few, h.span.few);
          some = omega arith;
          goes = λ at k n before q f y.
              subst (λ (i : ℕ). Going words at k n before after later i) (sym c)
              (going_next words at k n before tray b after j end count later written f (omega arith) (inv.goes at k n before q f y)
              (subst (λ (i : ℕ). Joins words end i j) q x)
              (subst (λ (i : ℕ). Got words (end + 1) i count tray b later written) (omega arith) h) puts);
        }
