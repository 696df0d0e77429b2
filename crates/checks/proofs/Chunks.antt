-- The records of a branch, six bytes at a time.
use Prim.Native.Nat.{ℕ, zero, suc, ◌+◌, ◌*◌, ◌/◌, ◌<◌}
use mathlib.Core.Path.{◌≡◌, refl, sym, ap, ◌∙◌, subst}
use mathlib.Core.Bool.{Bool, true, false, cond}
use mathlib.Core.List.{List, [], ◌∷◌, ◌++◌, map}
use native.Mathlib.Omega.{arith}
use lib.Dec.{eqb}
use lib.ListN.{length, get_or, length-append, get_or-append}
use lib.Seq.{get_or-append-add}
use Rattle.std.specs.List.{filter}
use Rattle.std.specs.Slice.Iter.{chunks_exact_rest, chunks_exact_size, chunks_exact_steps}
use Rattle.std.proofs.lemmas.Iterator.{YieldsList}
use Rattle.std.proofs.lemmas.Iterator.Splits.{YieldsList-from_shown_while}
use Rattle.definition.specs.Limits.{record_length}
use Rattle.definition.specs.Lists.{up_from}
use Rattle.definition.specs.Records.{Rec, kind_of, record_at, decode, marks_from}

-- ---- the record of the first six bytes, and those of the bytes that follow
module _ (xs ys : List ℕ) (six : length xs ≡ record_length) where
  byte_first : (j : ℕ) → j < record_length → get_or (xs ++ ys) j 0 ≡ get_or xs j 0
  byte_first j h = get_or-append xs ys 0 j (omega arith)

  byte_later : (i j : ℕ) → get_or (xs ++ ys) (record_length * suc i + j) 0 ≡ get_or ys (record_length * i + j) 0
  byte_later i j =
      let n : record_length * suc i + j ≡ length xs + (record_length * i + j) = omega arith in
      ap (λ (k : ℕ). get_or (xs ++ ys) k 0) n ∙ get_or-append-add xs ys (record_length * i + j) 0

  first : record_at (xs ++ ys) 0 ≡ record_at xs 0
  unfolding record_at
  first = rw (byte_first 0 (omega arith), byte_first 1 (omega arith), byte_first 2 (omega arith), byte_first 3 (omega arith), byte_first 4 (omega arith), byte_first 5 (omega arith)) refl

  later : (i : ℕ) → record_at (xs ++ ys) (suc i) ≡ record_at ys i
  unfolding record_at
  later i = λ t. record {
    kind = kind_of (byte_later i 0 t);
    mark = byte_later i 1 t;
    left = byte_later i 2 t + 256 * byte_later i 3 t;
    right = byte_later i 4 t + 256 * byte_later i 5 t;
  }

  all_later : (n i : ℕ) → map (record_at (xs ++ ys)) (up_from n (suc i)) ≡ map (record_at ys) (up_from n i)
  all_later zero i = refl
  all_later (suc n) i = ap (λ (x : Rec). x ∷ map (record_at (xs ++ ys)) (up_from n (suc (suc i)))) (later i) ∙ ap (λ (v : List Rec). record_at ys i ∷ v) (all_later n (suc i))

  append_decoded : decode (xs ++ ys) ≡ record_at xs 0 ∷ decode ys
  unfolding decode
  append_decoded =
      let n : length (xs ++ ys) / record_length ≡ suc (length ys / record_length) = omega (arith, length-append xs ys) in
      ap (λ (k : ℕ). map (record_at (xs ++ ys)) (up_from k 0)) n
      ∙ ap (λ (x : Rec). x ∷ map (record_at (xs ++ ys)) (up_from (length ys / record_length) 1)) first
      ∙ ap (λ (v : List Rec). record_at xs 0 ∷ v) (all_later (length ys / record_length) 0)

  pub decode_next : {bytes : List ℕ} {x : Rec} → bytes ≡ xs ++ ys → x ≡ record_at xs 0 → decode bytes ≡ x ∷ decode ys
  decode_next e r = ap decode e ∙ append_decoded ∙ ap (λ (x : Rec). x ∷ decode ys) (sym r)

pub decode_none : (xs : List ℕ) → length xs < record_length → decode xs ≡ []
unfolding decode
decode_none xs h =
    let n : length xs / record_length ≡ 0 = omega arith in
    ap (λ (k : ℕ). map (record_at xs) (up_from k 0)) n

-- ---- the chunks of bytes are their records
pub chunk_records : {s : _} (bytes : List ℕ) → chunks_exact_rest {T = ℕ} s ≡ bytes → chunks_exact_size s ≡ record_length →
    YieldsList (chunks_exact_steps {A = ℕ}) (λ c. record_at c.now 0) s (decode bytes)
chunk_records {s} bytes r e = subst (λ (l : List ℕ). YieldsList chunks_exact_steps (λ c. record_at c.now 0) s (decode l)) r (
    YieldsList-from_shown_while chunks_exact_steps (λ c. record_at c.now 0) (λ s. decode (chunks_exact_rest s)) (λ s. chunks_exact_size s ≡ record_length)
    (λ s t h q. ap length (decode_none (chunks_exact_rest s) (omega (arith, h, q.1.0))))
    (λ s x t h q. (q.0 ∙ h, decode_next x.now (chunks_exact_rest t) (q.1.1 ∙ h) q.1.0 refl))
    s e)

-- ---- how many records are marked
pub length_marks : (i : ℕ) (rs : List Rec) → length (filter (λ (r : Rec). eqb r.mark 1) rs) ≡ length (marks_from i rs)
unfolding marks_from
length_marks i [] = refl
length_marks i (r ∷ rs) = go (eqb r.mark 1) (length_marks (suc i) rs)
  where
    go : (b : Bool) → length (filter (λ (x : Rec). eqb x.mark 1) rs) ≡ length (marks_from (suc i) rs)
        → length (cond b (r ∷ filter (λ (x : Rec). eqb x.mark 1) rs) (filter (λ (x : Rec). eqb x.mark 1) rs)) ≡ length (cond b (i ∷ marks_from (suc i) rs) (marks_from (suc i) rs))
    go true e = ap suc e
    go false e = e
