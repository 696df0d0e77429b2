-- Stores into a tray.
use mathlib.Core.Path.{◌≡◌, refl, sym, ap, ◌∙◌}
use mathlib.Core.List.{List, [], ◌∷◌, ◌++◌, append_assoc}
use Prim.Native.Nat.{ℕ, ◌+◌, ◌*◌, ◌-◌, ◌≤◌, ◌<◌}
use native.Mathlib.Omega.{arith}
use lib.ListN.{length, set, drop, replicate, length-append}
use lib.Seq.{set_at}
use borrow.Rule.Slice.PartMut.{put_mid}
use Rattle.std.proofs.Common.{ap₂}
use Rattle.std.proofs.lemmas.List.{take_at, drop_at, drop-replicate}
use Rattle.definition.specs.Formula.{Form}
use Rattle.definition.specs.Records.{Kind, number_of, Rec}
use Rattle.grammar.specs.Lines.{rec, records_of, tray_of}
use Rattle.definition.specs.Trays.{two, record_bytes}
use Rattle.definition.specs.Lists.{concat_map, padded}
use Rattle.definition.specs.Limits.{record_length, most_text, text_tray_length}
use Rattle.grammar.proofs.Connectives.{own}
use Rattle.grammar.proofs.Decoded.{bytes_append, length_bytes}

-- bytes behind those before
pub put_over : (m k : ℕ) (s vs : List ℕ) (a : ℕ) → length s ≡ a → length vs ≡ k → a + k ≤ m → put_mid a k (padded m s) vs ≡ padded m (s ++ vs)
unfolding padded
put_over m k s vs a e q h =
    let pad : List ℕ = replicate (m - length s) 0 in
    let n : m - length s - k ≡ m - length (s ++ vs) = omega (arith, length-append s vs) in
    ap₂ (λ (u v : List ℕ). u ++ (vs ++ drop k v)) (take_at s pad a e) (drop_at s pad a e)
    ∙ ap (λ (v : List ℕ). s ++ (vs ++ v)) (drop-replicate k (m - length s) 0)
    ∙ sym (append_assoc s vs (replicate (m - length s - k) 0))
    ∙ ap (λ (i : ℕ). (s ++ vs) ++ replicate i 0) n

-- a record behind those before
pub puts : (tray s record-bytes : List ℕ) (n at : ℕ) (kind l r : ℕ) → at ≡ n → length s ≡ record_length * n → n < most_text → tray ≡ padded text_tray_length s → record-bytes ≡ kind ∷ 0 ∷ (two l ++ two r) →
    put_mid (record_length * at) (record_length * at + record_length - record_length * at) tray record-bytes ≡ padded text_tray_length (s ++ (kind ∷ 0 ∷ (two l ++ two r)))
puts tray s record-bytes n at kind l r e h m q b =
    let z : record_length * at + record_length - record_length * at ≡ 6 = omega arith in
    rw (z, q, b) (put_over text_tray_length 6 s (kind ∷ 0 ∷ (two l ++ two r)) (record_length * at) (omega arith) refl (omega arith))

-- the mark of the last record of some
mark_last : (rs : List Rec) (k : Kind) (l r : ℕ) → set (tray_of (rs ++ (rec 0 k l r ∷ []))) (record_length * length rs + 1) 1 ≡ tray_of (rs ++ (rec 1 k l r ∷ []))
unfolding record_bytes padded
mark_last rs k l r =
    let s : List ℕ = concat_map record_bytes rs in
    let x : ℕ = number_of k in
    let tail : List ℕ = two l ++ two r in
    let pad : List ℕ = replicate (text_tray_length - length (s ++ (x ∷ 0 ∷ tail))) 0 in
    let n : text_tray_length - length (s ++ (x ∷ 0 ∷ tail)) ≡ text_tray_length - length (s ++ (x ∷ 1 ∷ tail)) = omega (arith, length-append s (x ∷ 0 ∷ tail), length-append s (x ∷ 1 ∷ tail)) in
    let a : (m : ℕ) → concat_map record_bytes (rs ++ (rec m k l r ∷ [])) ≡ s ++ (x ∷ m ∷ tail) = λ m. bytes_append rs (rec m k l r ∷ []) in
    let b : (m : ℕ) → (s ++ (x ∷ m ∷ tail)) ++ pad ≡ (s ++ (x ∷ [])) ++ (m ∷ (tail ++ pad)) = λ m. append_assoc s (x ∷ m ∷ tail) pad ∙ sym (append_assoc s (x ∷ []) (m ∷ (tail ++ pad))) in
    ap (λ (v : List ℕ). set (padded text_tray_length v) (record_length * length rs + 1) 1) (a 0)
    ∙ ap (λ (v : List ℕ). set v (record_length * length rs + 1) 1) (b 0)
    ∙ set_at (s ++ (x ∷ [])) 0 (tail ++ pad) 1 (record_length * length rs + 1) (omega (arith, length-append s (x ∷ []), length_bytes rs))
    ∙ sym (b 1)
    ∙ ap (λ (i : ℕ). (s ++ (x ∷ 1 ∷ tail)) ++ replicate i 0) n
    ∙ ap (padded text_tray_length) (sym (a 1))

pub marks : (rs : List Rec) (p : Form) (count written : ℕ) → length rs ≡ count → written ≡ count + length (records_of p 0 count) →
    set (tray_of (rs ++ records_of p 0 count)) (record_length * (written - 1) + 1) 1 ≡ tray_of (rs ++ records_of p 1 count)
marks rs p count written e q =
    let s = own p count in
    let y : Rec = rec 0 s.kind s.left s.right in
    let i : record_length * (written - 1) + 1 ≡ 6 * length (rs ++ s.below) + 1 = omega (arith, ap length (s.is 0), length-append s.below (y ∷ []), length-append rs s.below) in
    let j : (m : ℕ) → rs ++ records_of p m count ≡ (rs ++ s.below) ++ (rec m s.kind s.left s.right ∷ []) =
    λ m. ap (λ (v : List Rec). rs ++ v) (s.is m) ∙ sym (append_assoc rs s.below (rec m s.kind s.left s.right ∷ [])) in
    ap (λ (v : List Rec). set (tray_of v) (record_length * (written - 1) + 1) 1) (j 0)
    ∙ ap (λ (k : ℕ). set (tray_of ((rs ++ s.below) ++ (y ∷ []))) k 1) i
    ∙ mark_last (rs ++ s.below) s.kind s.left s.right
    ∙ ap tray_of (sym (j 1))
