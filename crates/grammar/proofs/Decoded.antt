-- The bytes of a text's records are read as these records, and the tray begins with them.
use mathlib.Core.Path.{◌≡◌, refl, sym, ap, subst, ◌∙◌}
use mathlib.Core.List.{List, [], ◌∷◌, ◌++◌, map, append_assoc}
use Prim.Native.Nat.{ℕ, zero, suc, ◌+◌, ◌*◌, ◌-◌, ◌/◌, ◌%◌}
use native.Mathlib.Omega.{arith}
use lib.ListN.{length, get_or, take, replicate}
use lib.Seq.{get_or-append-add, take_at}
use Rattle.definition.specs.Limits.{record_length, text_tray_length}
use Rattle.definition.specs.Lists.{Each, concat_map, padded, up_from}
use Rattle.definition.specs.Records.{kind_of, Rec, record_at, decode}
use Rattle.definition.specs.Formula.{Form}
use Rattle.definition.specs.Trays.{record_bytes}
use Rattle.definition.proofs.Basics.Lists.{each_map, each_append, each_left, each_right}
use Rattle.definition.proofs.Call.Trays.{length_parts, record_length_lem}
use Rattle.grammar.specs.Lines.{rec, records_of, lines_from, tray_of}
use Rattle.grammar.proofs.Connectives.{own, Known, Plain, all_plain}

pub bytes_append : (xs ys : List Rec) → concat_map record_bytes (xs ++ ys) ≡ concat_map record_bytes xs ++ concat_map record_bytes ys
bytes_append [] ys = refl
bytes_append (x ∷ xs) ys = ap (λ (v : List ℕ). record_bytes x ++ v) (bytes_append xs ys) ∙ sym (append_assoc (record_bytes x) (concat_map record_bytes xs) (concat_map record_bytes ys))

pub length_bytes : (rs : List Rec) → length (concat_map record_bytes rs) ≡ record_length * length rs
length_bytes = length_parts record_length record_bytes record_length_lem

two_back : (n : ℕ) → n % 256 + 256 * (n / 256) ≡ n
two_back n = omega arith

-- the first record of the bytes, and the later ones
first : (r : Rec) (bs : List ℕ) → Known r → record_at (record_bytes r ++ bs) 0 ≡ r
unfolding record_at record_bytes
first r bs h = λ t. record { kind = h t; mark = r.mark; left = two_back r.left t; right = two_back r.right t }

byte_later : (r : Rec) (bs : List ℕ) (i j : ℕ) → get_or (record_bytes r ++ bs) (record_length * suc i + j) 0 ≡ get_or bs (record_length * i + j) 0
byte_later r bs i j =
    let n : record_length * suc i + j ≡ length (record_bytes r) + (record_length * i + j) = omega (arith, record_length_lem r) in
    ap (λ (k : ℕ). get_or (record_bytes r ++ bs) k 0) n ∙ get_or-append-add (record_bytes r) bs (record_length * i + j) 0

later : (r : Rec) (bs : List ℕ) (i : ℕ) → record_at (record_bytes r ++ bs) (suc i) ≡ record_at bs i
unfolding record_at
later r bs i = λ t. record {
  kind = kind_of (byte_later r bs i 0 t);
  mark = byte_later r bs i 1 t;
  left = byte_later r bs i 2 t + 256 * byte_later r bs i 3 t;
  right = byte_later r bs i 4 t + 256 * byte_later r bs i 5 t;
}

all_later : (r : Rec) (bs : List ℕ) (n i : ℕ) → map (record_at (record_bytes r ++ bs)) (up_from n (suc i)) ≡ map (record_at bs) (up_from n i)
all_later r bs zero i = refl
all_later r bs (suc n) i = ap (λ (x : Rec). x ∷ map (record_at (record_bytes r ++ bs)) (up_from n (suc (suc i)))) (later r bs i) ∙ ap (λ (v : List Rec). record_at bs i ∷ v) (all_later r bs n (suc i))

each_read : (rs : List Rec) → Each Known rs → map (record_at (concat_map record_bytes rs)) (up_from (length rs) 0) ≡ rs
each_read [] h = refl
each_read (r ∷ rs) (k, h) =
    let bs : List ℕ = concat_map record_bytes rs in
    ap (λ (x : Rec). x ∷ map (record_at (record_bytes r ++ bs)) (up_from (length rs) 1)) (first r bs k)
    ∙ ap (λ (v : List Rec). r ∷ v) (all_later r bs (length rs) 0 ∙ each_read rs h)

pub decoded_records : (rs : List Rec) → Each Known rs → decode (concat_map record_bytes rs) ≡ rs
unfolding decode
decoded_records rs h =
    let n : length (concat_map record_bytes rs) / record_length ≡ length rs = omega (arith, length_bytes rs) in
    ap (λ (k : ℕ). map (record_at (concat_map record_bytes rs)) (up_from k 0)) n ∙ each_read rs h

-- a text's records have kinds of the table
formula_known : (p : Form) (m n : ℕ) → Each Known (records_of p m n)
formula_known p m n =
    let s = own p n in
    let r : ℕ → Rec = λ i. rec i s.kind s.left s.right in
    let all : Each Known (s.below ++ (r 0 ∷ [])) = each_map (λ (x : Rec) (h : Plain x). h.0) (s.below ++ (r 0 ∷ [])) (subst (Each Plain) (s.is 0) (all_plain p n)) in
    subst (Each Known) (sym (s.is m)) (each_append Known s.below (r m ∷ []) (each_left Known s.below (r 0 ∷ []) all) (each_right Known s.below (r 0 ∷ []) all))

lines_known : (n : ℕ) (ps : List Form) → Each Known (lines_from n ps)
unfolding lines_from
lines_known n [] = tt
lines_known n (p ∷ ps) = each_append Known (records_of p 1 n) _ (formula_known p 1 n) (lines_known (n + length (records_of p 1 n)) ps)

pub decoded : (ps : List Form) → decode (concat_map record_bytes (lines_from 0 ps)) ≡ lines_from 0 ps
decoded ps = decoded_records (lines_from 0 ps) (lines_known 0 ps)

-- the tray begins with the records' bytes, whatever follows it
pub tray_prefix : (rs : List Rec) (rest : List ℕ) → take (record_length * length rs) (tray_of rs ++ rest) ≡ concat_map record_bytes rs
unfolding padded
tray_prefix rs rest =
    let bs : List ℕ = concat_map record_bytes rs in
    let zeros : List ℕ = replicate (text_tray_length - length bs) 0 in
    ap (take (record_length * length rs)) (append_assoc bs zeros rest) ∙ take_at bs (zeros ++ rest) (record_length * length rs) (length_bytes rs)
