-- A buffer filled by several reads.
use Rattle.std.proofs.Common.{◌≡◌, ℕ, ◌+◌, ◌≤◌, List, ◌++◌, length, take, drop, ap, ◌∙◌, sym, subst, take_at, drop_at, length-take-le}
use Rattle.std.specs.declared.option.Option.{Option}
use Rattle.std.specs.Io.KnownBytes.{Consumes}
use Rattle.std.proofs.KnownBytes.{Consumes-trans}
use borrow.Rule.Slice.PartMut.{put_mid, post_of}
use lib.Seq.{take-add, take-append-le}

-- what stands in the buffer after one more read, behind what stood there before
taken : (done room n : ℕ) (buf now : List ℕ) → done ≤ length buf → n ≤ length now → take (done + n) (put_mid done room buf now) ≡ take done buf ++ take n now
taken done room n buf now h k =
    let after = post_of done room buf in
    let size : length (take done buf) ≡ done = length-take-le done buf h in
    take-add done n (put_mid done room buf now)
    ∙ ap (λ (l : List ℕ). l ++ take n (drop done (put_mid done room buf now))) (take_at (take done buf) (now ++ after) done size)
    ∙ ap (λ (l : List ℕ). take done buf ++ take n l) (drop_at (take done buf) (now ++ after) done size)
    ∙ ap (λ (l : List ℕ). take done buf ++ l) (take-append-le n now after k)

-- one more read
pub filled : (a b d : Option (List ℕ)) (done room n : ℕ) (buf now : List ℕ) → done ≤ length buf → n ≤ length now
    → Consumes a b (take done buf) → Consumes b d (take n now) → Consumes a d (take (done + n) (put_mid done room buf now))
filled a b d done room n buf now h k p q =
    subst (Consumes a d) (sym (taken done room n buf now h k)) (Consumes-trans a b d (take done buf) (take n now) p q)
