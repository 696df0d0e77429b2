-- The bytes of a file, one by one and part by part.
use mathlib.Core.Path.{◌≡◌, refl, sym, ap, ◌∙◌}
use mathlib.Core.Bool.{Bool, true, false, cond}
use mathlib.Core.List.{List, [], ◌∷◌, ◌++◌}
use Prim.Native.Nat.{ℕ, ◌+◌, ◌≤◌, ◌<◌}
use native.Mathlib.Numerals.{add-one}
use native.Mathlib.Omega.{arith}
use lib.Dec.{eqb, ltb}
use lib.ListN.{length, take, get_or}
use lib.Seq.{take-suc}
use borrow.Author.Tests.{lt-ltb, le-ltb, eq-eqb, ne_eqb}
use Rattle.std.specs.Prelude.{Result, Ok, Err, IsOk, OnOk, OnErr}
use Rattle.cases.specs.Tally.{one_failed, finished, Since}
use Rattle.cases.specs.File.{Reading, taken, all_taken, file_start, tally_of, FileRead, whole, broken, reading_of, longest_line, Takes}
use Rattle.cases.specs.declared.reading.Tally.{Tally}
use Rattle.cases.proofs.Tallied.{since_same, since_then, since_finished, since_end, since_report}

-- ---- one byte
module _ (line after : List ℕ) (t r : Tally) (b : ℕ) where
  pub takes_newline : b ≡ 10 → after ≡ [] → r ≡ finished line t → Takes line t (b ∷ []) after r
  unfolding all_taken taken
  takes_newline e h k = record { is = rw (eq-eqb b 10 e, h, k) }

  pub takes_byte : (b ≡ 10 → ⊥) → length line < 4096 → after ≡ line ++ (b ∷ []) → r ≡ t → Takes line t (b ∷ []) after r
  unfolding all_taken taken
  takes_byte e h k q = record { is = rw (ne_eqb b 10 e, lt-ltb (length line) 4096 h, k, q) }

  pub takes_full : (b ≡ 10 → ⊥) → 4096 ≤ length line → after ≡ line → r ≡ t → Takes line t (b ∷ []) after r
  unfolding all_taken taken
  takes_full e h k q = record { is = rw (ne_eqb b 10 e, le-ltb (length line) 4096 h, k, q) }

-- a byte is put at the end of the line, if there is room
pub takes_put :
    {E X : Type 0} (c : Result Unit E) {line after : List ℕ} {t : Tally} {b : ℕ} →
    (b ≡ 10 → ⊥) →
    (IsOk c → length line < 4096) →
    OnOk c (after ≡ line ++ (b ∷ [])) →
    OnErr c X →
    (X → after ≡ line) →
    OnErr c (length line ≡ 4096) →
    Takes line t (b ∷ []) after t
takes_put (Ok u) n room put kept same full = takes_byte _ _ _ _ _ n (room refl) put refl
takes_put (Err e) n room put kept same full = takes_full _ _ _ _ _ n (omega (arith, full)) (same kept) refl

-- ---- a part of the file
all_taken_append : (room : ℕ) (s : Reading) (bs cs : List ℕ) → all_taken room s (bs ++ cs) ≡ all_taken room (all_taken room s bs) cs
unfolding all_taken
all_taken_append room s [] cs = refl
all_taken_append room s (b ∷ bs) cs = all_taken_append room (taken room s b) bs cs

pub takes_none : (line : List ℕ) (t : Tally) → Takes line t [] line t
unfolding all_taken
takes_none line t = record { is = refl }

pub takes_then : {line line' line'' bs cs : List ℕ} {t s r : Tally} → Takes line t bs line' s → Takes line' s cs line'' r → Takes line t (bs ++ cs) line'' r
takes_then {line} {bs = bs} {cs} {t} h k = record { is = k.is ∙ rw h.is (sym (all_taken_append longest_line (reading_of line t) bs cs)) }

pub takes_next :
    {line line' line'' : List ℕ} {t s r : Tally} (part : List ℕ) (i : ℕ) {b : ℕ} →
    i < length part →
    b ≡ get_or part i 0 →
    Takes line t (take i part) line' s →
    Takes line' s (b ∷ []) line'' r →
    Takes line t (take (i + 1) part) line'' r
takes_next part i {b} l e h k =
    let z : take (i + 1) part ≡ take i part ++ (b ∷ []) = rw (add-one, take-suc part i 0 l, e) in
    rw z (takes_then h k)

-- ---- the file
-- some bytes have brought the empty line to this one
pub record Begun (t : Tally) (line : List ℕ) (r : Tally) : Type 0 where
  pub bytes : List ℕ
  pub is : reading_of line r ≡ all_taken longest_line (record { held = []; tally = file_start t }) bytes

pub begun_start : (t : Tally) {r : Tally} {line : List ℕ} → line ≡ [] → r ≡ file_start t → Begun t line r
unfolding all_taken
begun_start t h e = record { bytes = []; is = rw (h, e) }

pub begun_next : (t : Tally) (line bytes after : List ℕ) (s r : Tally) → Begun t line s → Takes line s bytes after r → Begun t after r
begun_next t line bytes after s r h k =
    record {
      bytes = h.bytes ++ bytes;
      is = k.is ∙ rw h.is (sym (all_taken_append longest_line (record { held = []; tally = file_start t }) h.bytes bytes));
    }

begun_tally : (t : Tally) (line : List ℕ) (r : Tally) (h : Begun t line r) → r ≡ tally_of t h.bytes
unfolding tally_of
begun_tally t line r h = ap (λ (s : Reading). s.tally) h.is

-- ---- cases and failures do not fall
since_taken : (room : ℕ) (s : Reading) (b : ℕ) → Since 0 s.tally (taken room s b).tally
unfolding taken
since_taken room s b = go (eqb b 10) (ltb (length s.held) room) where
  go :
      (x y : Bool) →
      Since 0 s.tally
      (cond x (record { held = []; tally = finished s.held s.tally }) (cond y (record { held = s.held ++ (b ∷ []); tally = s.tally }) s)).tally
  go true y = since_finished s.held s.tally refl
  go false true = since_same s.tally
  go false false = since_same s.tally

since_all : (room : ℕ) (s : Reading) (bs : List ℕ) → Since 0 s.tally (all_taken room s bs).tally
unfolding all_taken
since_all room s [] = since_same s.tally
since_all room s (b ∷ bs) = since_then (since_taken room s b) (since_all room (taken room s b) bs)

since_file : (t r : Tally) → FileRead t r → Since 1 t r
unfolding tally_of
since_file t r (whole bytes e) = rw e (since_end t (since_all 4096 (record { held = []; tally = file_start t }) bytes))
since_file t r (broken bytes e) = since_report t (since_all 4096 (record { held = []; tally = file_start t }) bytes) e

pub file_whole : (t : Tally) (line : List ℕ) {r : Tally} → Begun t line r → FileRead t r × Since 1 t r
file_whole t line {r} h = let f : FileRead t r = whole h.bytes (begun_tally t line r h) in (f, since_file t r f)

pub file_broken : (t : Tally) (line : List ℕ) (s : Tally) {r : Tally} → Begun t line s → r ≡ one_failed s → FileRead t r × Since 1 t r
file_broken t line s {r} h e = let f : FileRead t r = broken h.bytes (e ∙ ap one_failed (begun_tally t line s h)) in (f, since_file t r f)
