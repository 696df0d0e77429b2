-- Laws of a slice while it is written.
use Prim.Native.Nat.{ℕ, suc, ◌+◌, ◌-◌, ◌%◌, ◌≤◌, ◌<◌}
use mathlib.Core.Path.{◌≡◌, refl, sym, ap, ◌∙◌, subst}
use mathlib.Core.List.{List, [], ◌∷◌, ◌++◌, append_assoc, append-nil}
use native.Mathlib.Omega.{arith}
use native.Mathlib.Numerals.{add-one}
use native.Mathlib.Nat.{sub-zero}
use borrow.Rule.Slice.PartMut.{put_mid}
use Rattle.std.proofs.lemmas.List.{take_at, drop_at, drop-drop}
use lib.ListN.{length, get_or, set, take, drop, replicate, length-append, length-take, length-drop, take-append-drop}
use lib.Seq.{drop-cons, set_at, append_snoc}
use Rattle.definition.specs.Lists.{padded}
use Rattle.definition.specs.Trays.{over}
use Rattle.definition.proofs.Basics.Lists.{length_padded}
use Rattle.slices.specs.Written.{Written, Puts}

-- the low byte of a number below 256
pub low_same : {b n m : ℕ} → b ≡ n % 256 → n ≡ m → m < 256 → b ≡ m
low_same p q h = omega arith

-- ---- over
pub over_length_lem : (w lent : List ℕ) → length w ≤ length lent → length (over w lent) ≡ length lent
unfolding over
over_length_lem w lent h = simp (length-append, length-drop) (omega arith)

over_set : (w lent : List ℕ) (b : ℕ) → length w < length lent → set (over w lent) (length w) b ≡ over (w ++ (b ∷ [])) lent
unfolding over
over_set w lent b h =
    let e : length (w ++ (b ∷ [])) ≡ suc (length w) = length-append w (b ∷ []) ∙ add-one (length w) in
    rw (e, drop-cons lent (length w) 0 h)
    (set_at w (get_or lent (length w) 0) (drop (suc (length w)) lent) b (length w) refl ∙ sym (append_snoc w b (drop (suc (length w)) lent)))

-- ---- stores
pub written_none : (lent : List ℕ) → Written lent [] 0 lent
unfolding over
written_none lent = record { ends = refl; cells = refl }

module _ {lent w t : List ℕ} {at : ℕ} (h : Written lent w at t) where
  pub written_length : length w ≤ length lent → length t ≡ length lent
  written_length r = ap length h.cells ∙ over_length_lem w lent r

pub puts_full : {b at next : ℕ} {t after : List ℕ} → length t ≤ at → Puts (b ∷ []) at t next after
puts_full l = record { puts = λ lent w h r. absurd (omega (arith, l, h.ends, written_length h (omega arith))) }

pub puts_one : (b at : ℕ) (t : List ℕ) → Puts (b ∷ []) at t (at + 1) (set t at b)
puts_one b at t =
    record {
      puts = λ lent w h r.
          record {
            ends = omega (arith, h.ends, length-append w (b ∷ []));
            cells = rw (h.ends, h.cells) (over_set w lent b (omega arith));
          };
    }

pub puts_then : {bs cs t u v : List ℕ} {at next last : ℕ} → Puts bs at t next u → Puts cs next u last v → Puts (bs ++ cs) at t last v
puts_then {bs} {cs} {v} {last} p q =
    record {
      puts = λ lent w h r.
          let l = length-append bs cs in
          subst (λ (l : List ℕ). Written lent l last v) (append_assoc w bs cs)
          (q.puts lent (w ++ bs) (p.puts lent w h (omega arith)) (omega (arith, length-append w bs)));
    }

pub puts_as : {bs cs t u : List ℕ} {at next : ℕ} → bs ≡ cs → Puts bs at t next u → Puts cs at t next u
puts_as {bs} {cs} {t} {u} {at} {next} e p = subst (λ (l : List ℕ). Puts l at t next u) e p

-- ---- a loop that writes the goal: what stands before the position, and what is left, make it up
pub record Writing (goal rest lent : List ℕ) (at : ℕ) (slice : List ℕ) : Type 0 where
  pub before : List ℕ
  pub written : Written lent before at slice
  pub same : before ++ rest ≡ goal

pub writing_start : {goal lent w t : List ℕ} {at : ℕ} (rest : List ℕ) → Written lent w at t → w ++ rest ≡ goal → Writing goal rest lent at t
writing_start {w} rest h e = record { before = w; written = h; same = e }

module _ {goal rest lent t : List ℕ} {at : ℕ} (h : Writing goal rest lent at t) where
  pub writing_sizes : length h.before + length rest ≡ length goal
  writing_sizes = sym (length-append h.before rest) ∙ ap length h.same

  pub writing_end : rest ≡ [] → Written lent goal at t
  writing_end e = subst (λ (l : List ℕ). Written lent l at t) (sym (append-nil h.before) ∙ ap (λ (l : List ℕ). h.before ++ l) (sym e) ∙ h.same) h.written

  pub writing_room : (bs more : List ℕ) → rest ≡ bs ++ more → length goal ≤ length lent → length h.before + length bs ≤ length lent
  writing_room bs more e l = omega (arith, writing_sizes, ap length e, length-append bs more)

  pub writing_next : {u bs more : List ℕ} {next : ℕ} → Puts bs at t next u → rest ≡ bs ++ more → length goal ≤ length lent → Writing goal more lent next u
  writing_next {u} {bs} {more} p e l =
      record {
        before = h.before ++ bs;
        written = p.puts lent h.before h.written (writing_room bs more e l);
        same = append_assoc h.before bs more ∙ ap (λ (l : List ℕ). h.before ++ l) (sym e) ∙ h.same;
      }

  pub writing_one : (b : ℕ) (more : List ℕ) → rest ≡ b ∷ more → length goal ≤ length lent → Writing goal more lent (at + 1) (set t at b)
  writing_one b more e l = writing_next (puts_one b at t) e l

-- ---- zeros to an end
pub padded_none : (n : ℕ) → padded n [] ≡ replicate n 0
unfolding padded
padded_none n = rw sub-zero

-- zeros over the part from a position to an end
module _ {at end : ℕ} (t : List ℕ) {f : List ℕ} (rising : at ≤ end) (inside : end ≤ length t) (zeros : f ≡ replicate (length (take (end - at) (drop at t))) 0) where
  part_zeros : f ≡ replicate (end - at) 0
  part_zeros = let n : length (take (end - at) (drop at t)) ≡ end - at = simp (length-take, length-drop) (omega arith) in zeros ∙ rw n

  pub zeros_none : end ≤ at → put_mid at (end - at) t f ≡ t
  zeros_none h = let z : end - at ≡ 0 = omega arith in rw (part_zeros, z) (take-append-drop at t)

  pub zeros_filled : (w lent : List ℕ) → Written lent w at t → length w ≤ end → put_mid at (end - at) t f ≡ over (padded end w) lent
  unfolding padded over
  zeros_filled w lent h fits =
      let n : length (w ++ replicate (end - length w) 0) ≡ end = omega (arith, length_padded end w fits) in
      let m : length w + (end - length w) ≡ end = omega arith in
      rw (part_zeros, h.cells, h.ends, n, take_at w (drop (length w) lent) (length w) refl, drop_at w (drop (length w) lent) (length w) refl, drop-drop (end - length w) (length w) lent, m)
      (sym (append_assoc w (replicate (end - length w) 0) (drop end lent)))
