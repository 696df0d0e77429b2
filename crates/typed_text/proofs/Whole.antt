-- What the reader answers of a text, and what is printed of it.
use mathlib.Core.Path.{◌≡◌, ◌∙◌, ap}
use mathlib.Core.List.{List, [], ◌∷◌, ◌++◌}
use Prim.Native.Nat.{ℕ, suc, ◌+◌, ◌*◌, ◌-◌, ◌≤◌}
use native.Mathlib.Omega.{arith}
use lib.ListN.{length, take, drop, replicate, length-append, length-replicate}
use Rattle.std.specs.Prelude.{Ok, Err, None}
use Rattle.definition.specs.Limits.{record_length, text_tray_length}
use Rattle.definition.specs.RefusalNumbers.{unreadable_text}
use Rattle.definition.specs.Lists.{Each, concat_map, padded}
use Rattle.definition.specs.Trays.{record_bytes, over}
use Rattle.definition.specs.Formula.{Form}
use Rattle.definition.proofs.Basics.Lists.{each_map, each_right}
use Rattle.grammar.specs.Lexing.{Placed, Lexes, nothing, a_space, a_token, no_token}
use Rattle.grammar.specs.Reading.{At, UnreadableAt}
use Rattle.grammar.specs.Lines.{lines_from, tray_of}
use Rattle.grammar.proofs.Theorems.{one_reading, one_offset, apart}
use Rattle.grammar.proofs.Decoded.{length_bytes, tray_prefix}
use Rattle.reader.specs.Contract.{ReadText}
use Rattle.reader.specs.Refused.{refusal_of}
use Rattle.reader.specs.declared.TextError.{TextError}
use Rattle.reader.specs.declared.TextError.TheVariants.{ShortTray, TooLong, Unreadable}
use Rattle.refusal.specs.Number.{number_of}
use Rattle.refusal.specs.declared.Refusal.{Refusal}
use Rattle.frames.specs.Lines.{eight_lines, refusal_lines}
use Rattle.typed_text.specs.Showing.{ShownAs, offset_of}

-- every token begins within the bytes
begins_within : {o : ℕ} {bs : List ℕ} {ts : List Placed} → Lexes o bs ts → Each (λ (x : Placed). x.at ≤ o + length bs) ts
begins_within nothing = tt
begins_within (a_space {o} {bs} {ts} l) = each_map (λ (x : Placed) (h : x.at ≤ suc o + length bs). omega arith) ts (begins_within l)
begins_within (a_token o {b} {bs} {t} {ts} s f l) = (
  omega arith,
  each_map (λ (x : Placed) (h : x.at ≤ o + length b + length bs). omega (arith, length-append b bs)) ts (begins_within l),
)
begins_within (no_token o b bs n t) = (omega arith, tt)

pub unreadable_within : {text : List ℕ} {o : ℕ} → UnreadableAt text o → o ≤ length text
unreadable_within {text} {o} g = go g.before g.after g.lexed g.there
  where
    go : (before after : List Placed) → Lexes 0 text (before ++ after) → At text before after o → o ≤ length text
    go before [] l h = omega (arith, h.0)
    go before (x ∷ after) l h = omega (arith, h.0, (each_right (λ (y : Placed). y.at ≤ 0 + length text) before (x ∷ after) (begins_within l)).0)

-- the lines by a refusal's number and place are its lines
pub lines_refused : (out : List ℕ) (r s : Refusal) (number place : ℕ) → out ≡ refusal_lines number place → number ≡ number_of r.reason → r ≡ s → place ≡ r.place
    → out ≡ refusal_lines (number_of s.reason) s.place
lines_refused out r s number place e n is p = e ∙ rw (n, p, is)

module _ (text after : List ℕ) (n : ℕ) where
  -- what is printed of a text that is not read; a tray of this length is not short
  pub refused_shown : (error : TextError) (out : List ℕ) → ReadText text (replicate n 0) after (Err error) → text_tray_length ≤ n
      → out ≡ refusal_lines (number_of (refusal_of error).reason) (refusal_of error).place → ShownAs text out (offset_of error)
  refused_shown ShortTray out answer k e = absurd (omega (arith, k, answer.0, length-replicate {A = ℕ} n 0))
  refused_shown TooLong out answer k e =
      record { long = λ _. e; unreadable = λ h o g. absurd (omega (arith, h, answer.1)); taken = λ h ps q. absurd (omega (arith, h, answer.1)) }
  refused_shown (Unreadable o) out answer k e =
      let g : UnreadableAt text o = answer.2 in (
        record {
          long = λ l. absurd (omega (arith, l, answer.1));
          unreadable = λ _ q f. e ∙ ap (refusal_lines unreadable_text) (one_offset text o q g f);
          taken = λ _ ps q. absurd (apart text o ps g q);
        },
        answer.1,
        g,
        unreadable_within g,
      )

  -- the tray has room for the records
  pub taken_room : (count : ℕ) → ReadText text (replicate n 0) after (Ok count) → record_length * count ≤ length after
  unfolding over padded
  taken_room count answer =
      let t = answer.2 in
      let bytes = concat_map record_bytes (lines_from 0 t.forms) in
      let zeros = replicate {A = ℕ} (text_tray_length - length bytes) 0 in
      omega (arith, t.count_is, length_bytes (lines_from 0 t.forms), ap length t.tray, length-append bytes zeros, length-append (bytes ++ zeros) (drop (length (bytes ++ zeros)) (replicate {A = ℕ} n 0)))

  pub taken_shown : (count : ℕ) (out : List ℕ) → ReadText text (replicate n 0) after (Ok count) → out ≡ eight_lines (take (record_length * count) after) → ShownAs text out None
  unfolding over
  taken_shown count out answer e =
      let t = answer.2 in
      let rs = lines_from 0 t.forms in
      let bytes : take (record_length * count) after ≡ concat_map record_bytes rs =
      ap (λ (m : ℕ). take (record_length * m) after) t.count_is
      ∙ ap (take (record_length * length rs)) t.tray
      ∙ tray_prefix rs (drop (length (tray_of rs)) (replicate n 0)) in
      record {
        long = λ l. absurd (omega (arith, l, answer.1));
        unreadable = λ _ o g. absurd (apart text o t.forms g t.reads);
        taken = λ _ ps q. e ∙ ap eight_lines bytes ∙ ap (λ (qs : List Form). eight_lines (concat_map record_bytes (lines_from 0 qs))) (one_reading text t.forms ps t.reads q);
      }
