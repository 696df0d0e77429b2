-- The reader as a whole, over the contracts of the scan and of the lines.
use mathlib.Core.Path.{◌≡◌, sym, ap, subst, ◌∙◌}
use mathlib.Core.List.{List, ◌++◌}
use Prim.Native.Nat.{ℕ, ◌≤◌}
use native.Mathlib.Omega.{arith}
use lib.ListN.{length, drop, replicate}
use Rattle.std.specs.Prelude.{Ok}
use Rattle.definition.specs.Limits.{most_text, text_tray_length}
use Rattle.definition.specs.Lists.{concat_map}
use Rattle.definition.specs.Records.{Rec}
use Rattle.definition.specs.Trays.{record_bytes, over}
use Rattle.grammar.specs.Tokens.{Token}
use Rattle.grammar.specs.Grammar.{Text}
use Rattle.grammar.specs.Lines.{lines_from, tray_of}
use Rattle.lexer.specs.Scanned.{ScannedAs}
use Rattle.lexer.specs.declared.Word.{Word}
use Rattle.definition.proofs.Basics.Lists.{length_padded}
use Rattle.grammar.proofs.Decoded.{length_bytes}
use Rattle.grammar.proofs.Texts.{reading}
use Rattle.reader.specs.Levels.{LinesRead}
use Rattle.reader.specs.Contract.{ReadText, LinesWritten}

-- a tray has its length where the records have room
length_tray : (rs : List Rec) → length rs ≤ most_text → length (tray_of rs) ≡ text_tray_length
length_tray rs h = length_padded text_tray_length (concat_map record_bytes rs) (omega (arith, length_bytes rs))

pub written : (words : List Word) (before records copy : List ℕ) (count : ℕ) → LinesRead words records count → copy ≡ records → LinesWritten words before (copy ++ drop text_tray_length before) count
unfolding over
written words before records copy count l e a =
    let x = l a in
    let tray : List ℕ = tray_of (lines_from 0 x.0) in
    let n : length (lines_from 0 x.0) ≤ most_text = omega (arith, x.3, x.4) in
    (x.0, x.1, ap (λ (v : List ℕ). v ++ drop text_tray_length before) (e ∙ x.2) ∙ ap (λ (i : ℕ). tray ++ drop i before) (sym (length_tray (lines_from 0 x.0) n)), x.3)

pub text_taken : (text : List ℕ) (ends words : List Word) (before after : List ℕ) (count : ℕ) → text_tray_length ≤ length before → ScannedAs text ends words (Ok tt) → ends ≡ replicate most_text Word.End → LinesWritten words before after count →
    ReadText text before after (Ok count)
text_taken text ends words before after count a z q w =
    let t = z.1 q in
    let x = w t.1 in
    (a, z.0, record { forms = x.0; reads = reading text x.0 (subst (λ (v : List Token). Text v x.0) t.0 x.1); count_is = x.3; tray = x.2 })
