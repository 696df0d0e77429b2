-- The whole call: what its outcome tells of the run, and what it leaves of the trays.
use mathlib.Core.Path.{◌≡◌, refl, sym, ap, subst}
use mathlib.Core.Bool.{Bool, true, false, cond}
use mathlib.Core.List.{List, [], ◌∷◌}
use mathlib.Core.Option.{Option, none, some}
use mathlib.Core.Logic.{◌↔◌}
use Prim.Native.Nat.{ℕ, zero, suc, ◌<◌, ◌≤◌, ◌+◌, ◌*◌, ◌/◌, ◌^◌}
use native.Mathlib.Omega.{arith}
use native.Mathlib.Nat.{pow-suc}
use lib.ListN.{length, get_or}
use Rattle.definition.specs.Limits.{record_length}
use Rattle.definition.specs.RefusalNumbers.{too_many_identifiers}
use Rattle.definition.specs.Lists.{Each, below}
use Rattle.definition.specs.Records.{Rec, Unknown, nobody, number_of, record_at, decode, made, rec_at}
use Rattle.definition.specs.Setting.{Setting, setting_of}
use Rattle.definition.specs.Checks.{Lengths, LongEnough, Check, refused}
use Rattle.definition.specs.Run.{State, full, stops, run, start, Passes, final, enough_steps}
use Rattle.definition.specs.Trays.{Trays, row_number, trays_of, zero_trays, laid_over}
use Rattle.definition.specs.Call.{Outcome, Refused, Full, Ended, outcome_of_run, outcome_by, outcome, Answer, refusal, answer_of, answer, trays_after, trays_left, lengths_of}
use Rattle.definition.specs.Fits.{RecordFits, Sized, TraysKept}
use Rattle.definition.proofs.Basics.Lists.{each_of, each_both, each_any, each_of_map, bit_low}
use Rattle.definition.proofs.Run.Accepted.{Accepted, accepted, long_alike, refused_earlier}
use Rattle.definition.proofs.Run.Fullness.{full_exactly_lem}
use Rattle.definition.proofs.Basics.Forms.{WellFormed}
use Rattle.definition.proofs.Call.Bounds.{Bounded, run_bounded, bounded_formulas}
use Rattle.definition.proofs.Call.Fields.{Numbered, run_numbered}
use Rattle.definition.proofs.Call.Trays.{trays_sized, zero_sized, same_kept, laid_kept}
use Rattle.definition.proofs.Run.Stepping.{not_full}

-- longer trays change no outcome
pub long_outcome : (branch : List ℕ) (flags : ℕ) (a b : Lengths) → LongEnough a → LongEnough b → outcome branch flags a ≡ outcome branch flags b
unfolding outcome
long_outcome branch flags a b h k = ap (outcome_by branch flags) (long_alike branch flags a b h k)

-- an outcome that ended comes of a branch that no check refused, and is not full
pub ended_of : (branch : List ℕ) (flags : ℕ) (lent : Lengths) (s : State) → outcome branch flags lent ≡ Ended s →
    Accepted branch flags lent × (full (final (setting_of flags) (decode branch)) ≡ false) × (final (setting_of flags) (decode branch) ≡ s)
unfolding outcome outcome_by outcome_of_run
ended_of branch flags lent s e = go (refused branch flags lent) refl e
  where
    z : State
    z = final (setting_of flags) (decode branch)

    ran : (b : Bool) → full z ≡ b → cond b Full (Ended z) ≡ Ended s → (full z ≡ false) × (z ≡ s)
    ran true q d = let o : ◌≡◌ {A = ℕ} 0 1 = cc in absurd (omega arith)
    ran false q d = (q, cc)

    go : (o : Option Check) → refused branch flags lent ≡ o → outcome_by branch flags o ≡ Ended s → Accepted branch flags lent × (full z ≡ false) × (z ≡ s)
    go (some c) q d = let o : ◌≡◌ {A = ℕ} 0 1 = cc in absurd (omega arith)
    go none q d = let k = ran (full z) refl d in (accepted branch flags lent q, k.0, k.1)

-- an answer that is no refusal comes of a run that ended
pub answered : (P : Answer → Type 0) → ((number place : ℕ) → P (refusal number place) → ⊥) → (branch : List ℕ) (flags : ℕ) (lent : Trays) → P (answer branch flags lent) →
    let z = final (setting_of flags) (decode branch) in Accepted branch flags (lengths_of lent) × (full z ≡ false) × P (answer_of (setting_of flags) (Ended z))
unfolding answer answer_of
answered P never branch flags lent h = go (outcome branch flags (lengths_of lent)) refl h
  where
    go : (o : Outcome) → outcome branch flags (lengths_of lent) ≡ o → P (answer_of (setting_of flags) o) → let z = final (setting_of flags) (decode branch) in Accepted branch flags (lengths_of lent) × (full z ≡ false) × P (answer_of (setting_of flags) (Ended z))
    go (Refused c) e q = absurd (never c.number c.place q)
    go Full e q = absurd (never too_many_identifiers 0 q)
    go (Ended s) e q = let k = ended_of branch flags (lengths_of lent) s e in (k.0, k.1, subst (λ (s : State). P (answer_of (setting_of flags) (Ended s))) (sym k.2) q)

byte : (bytes : List ℕ) → Each (λ b. b < 256) bytes → (i : ℕ) → get_or bytes i 0 < 256
byte [] h i = omega arith
byte (b ∷ bs) h zero = h.0
byte (b ∷ bs) h (suc i) = byte bs h.1 i

each_at : (P : Rec → Type 0) (rs : List Rec) → ((i : ℕ) → i < length rs → P (rec_at rs i)) → Each P rs
unfolding rec_at
each_at P = each_of P (made Unknown 0 0)

-- the records of an accepted branch of bytes fit their fields
pub records_fit : (branch : List ℕ) (flags : ℕ) (lent : Lengths) → Each (λ b. b < 256) branch → Accepted branch flags lent → Each RecordFits (decode branch)
unfolding decode record_at
records_fit branch flags lent h a =
    let low = byte branch h in
    each_both (λ (r : Rec) (p : (number_of r.kind ≤ 8) × (r.mark ≤ 1)) (q : (r.left ≤ nobody) × (r.right ≤ nobody)). record { kind = p.0; mark = p.1; left = q.0; right = q.1 }) (decode branch)
    (each_at (λ (r : Rec). (number_of r.kind ≤ 8) × (r.mark ≤ 1)) (decode branch) (λ i l. ((a.records i l).kind, (a.records i l).mark)))
    (each_of_map (λ (r : Rec). (r.left ≤ nobody) × (r.right ≤ nobody)) (record_at branch) (below (length branch / record_length))
    (each_any (λ i. ((record_at branch i).left ≤ nobody) × ((record_at branch i).right ≤ nobody))
    (λ i. (omega (arith, low (record_length * i + 2), low (record_length * i + 3)), omega (arith, low (record_length * i + 4), low (record_length * i + 5)))) (below (length branch / record_length))))

pub row_low : (row : List Bool) → row_number row < 2 ^ length row
unfolding row_number
row_low [] = omega arith
row_low (b ∷ bs) = let e : 2 ^ suc (length bs) ≡ 2 ^ length bs * 2 = pow-suc 2 (length bs) in rw e (omega (arith, row_low bs, bit_low b))

module _ (branch : List ℕ) (flags : ℕ) (lent : Lengths) (a : Accepted branch flags lent) (e : full (final (setting_of flags) (decode branch)) ≡ false) where
  abbrev F : Setting
  F = setting_of flags

  abbrev rs : List Rec
  rs = decode branch

  abbrev z : State
  z = final (setting_of flags) (decode branch)

  pub final_bounded : (P : Rec → Type 0) (ok : (r : Rec) → RecordFits r → P r) → Each P rs → Bounded P ok F (length rs) z
  unfolding final
  final_bounded P ok fit = run_bounded P ok F rs enough_steps a.few (λ i l. (a.records i l).links) fit

  pub final_numbered : Numbered z.nodes
  unfolding final
  final_numbered = run_numbered stops enough_steps F rs a.marked (omega (arith, not_full z e))

  -- the trays of a run that ended have their lengths
  pub final_sized : Sized (trays_of z)
  final_sized =
      let P : Rec → Type 0 = λ r. Unit {0} in
      let h = final_bounded P (λ r k. tt) (each_any P (λ r. tt) rs) in
      trays_sized z (not_full z e) (bounded_formulas P (λ r k. tt) F (length rs) z h a.few e) (omega (arith, h.sizes.squared.rows, h.sizes.worlds))

-- at every state of the run of an accepted branch, the links of each record are to earlier ones
pub run_linked : (branch : List ℕ) (flags : ℕ) (lent : Lengths) → Accepted branch flags lent → (n : ℕ) → WellFormed (run n (setting_of flags) (start (setting_of flags) (decode branch))).formulas
run_linked branch flags lent a n =
    let P : Rec → Type 0 = λ r. Unit {0} in
    (run_bounded P (λ r k. tt) (setting_of flags) (decode branch) n a.few (λ i l. (a.records i l).links) (each_any P (λ r. tt) (decode branch))).sizes.wf

-- every call keeps each tray's length, and what lies beyond what it writes
pub trays_kept_lem : (branch : List ℕ) (flags : ℕ) (lent : Trays) → TraysKept lent (trays_left branch flags lent)
unfolding trays_left trays_after outcome outcome_by outcome_of_run
trays_kept_lem branch flags lent = go (refused branch flags (lengths_of lent)) refl
  where
    y : State
    y = final (setting_of flags) (decode branch)

    run : Accepted branch flags (lengths_of lent) → (b : Bool) → full y ≡ b → TraysKept lent (trays_after (cond b Full (Ended y)) lent)
    run a true q = laid_kept zero_trays lent zero_sized a.trays
    run a false q = laid_kept (trays_of y) lent (final_sized branch flags (lengths_of lent) a q) a.trays

    go : (o : Option Check) → refused branch flags (lengths_of lent) ≡ o → TraysKept lent (trays_after (outcome_by branch flags o) lent)
    go (some c) q = same_kept lent
    go none q = run (accepted branch flags (lengths_of lent) q) (full y) refl

-- the call answers 12 exactly if no check applies and the run is full, and then zeroes the trays
module _ (branch : List ℕ) (flags : ℕ) (lent : Trays) where
  abbrev y : State
  y = final (setting_of flags) (decode branch)

  twelve_full : (place : ℕ) → answer branch flags lent ≡ refusal too_many_identifiers place → (refused branch flags (lengths_of lent) ≡ none) × (full y ≡ true)
  unfolding answer outcome outcome_by outcome_of_run answer_of
  twelve_full place = go (refused branch flags (lengths_of lent)) refl
    where
      ran : (b : Bool) → full y ≡ b → answer_of (setting_of flags) (cond b Full (Ended y)) ≡ refusal too_many_identifiers place → full y ≡ true
      ran true q a = q
      ran false q a = let o : ◌≡◌ {A = ℕ} 0 1 = cc in absurd (omega arith)

      go : (o : Option Check) → refused branch flags (lengths_of lent) ≡ o → answer_of (setting_of flags) (outcome_by branch flags o) ≡ refusal too_many_identifiers place → (refused branch flags (lengths_of lent) ≡ none) × (full y ≡ true)
      go (some c) q a = let d : c.number ≡ too_many_identifiers = cc in absurd (omega (arith, d, refused_earlier branch flags (lengths_of lent) c q))
      go none q a = (q, ran (full y) refl a)

  full_outcome : refused branch flags (lengths_of lent) ≡ none → full y ≡ true → outcome branch flags (lengths_of lent) ≡ Full
  unfolding outcome outcome_by outcome_of_run
  full_outcome e f = rw (e, f) refl

  pub twelve_exactly : (answer branch flags lent ≡ refusal too_many_identifiers 0) ↔ ((refused branch flags (lengths_of lent) ≡ none) × Passes (setting_of flags) (decode branch))
  unfolding answer answer_of
  twelve_exactly =
      let k = full_exactly_lem (setting_of flags) (decode branch) in
      (λ a. let h = twelve_full 0 a in (h.0, k.0 h.1), λ p. ap (answer_of (setting_of flags)) (full_outcome p.0 (k.1 p.1)))

  pub twelve_zeroes : (place : ℕ) → answer branch flags lent ≡ refusal too_many_identifiers place → trays_left branch flags lent ≡ laid_over zero_trays lent
  unfolding trays_left trays_after
  twelve_zeroes place a = let h = twelve_full place a in ap (λ (o : Outcome). trays_after o lent) (full_outcome h.0 h.1)

-- no refusal of the call has a number above that of "full"
pub refusal_number : (branch : List ℕ) (flags : ℕ) (lent : Trays) (number place : ℕ) → answer branch flags lent ≡ refusal number place → number ≤ too_many_identifiers
unfolding answer outcome outcome_by outcome_of_run answer_of
refusal_number branch flags lent number place = go (refused branch flags (lengths_of lent)) refl
  where
    z : State
    z = final (setting_of flags) (decode branch)

    ran : (b : Bool) → answer_of (setting_of flags) (cond b Full (Ended z)) ≡ refusal number place → number ≤ too_many_identifiers
    ran true a = let d : too_many_identifiers ≡ number = cc in omega (arith, d)
    ran false a = let d : ◌≡◌ {A = ℕ} 0 1 = cc in absurd (omega arith)

    go : (o : Option Check) → refused branch flags (lengths_of lent) ≡ o → answer_of (setting_of flags) (outcome_by branch flags o) ≡ refusal number place → number ≤ too_many_identifiers
    go (some c) q a = let d : c.number ≡ number = cc in omega (arith, d, refused_earlier branch flags (lengths_of lent) c q)
    go none q a = ran (full z) a

-- a refusal before the run writes nothing
pub refused_keeps : (branch : List ℕ) (flags : ℕ) (lent : Trays) (c : Check) → outcome branch flags (lengths_of lent) ≡ Refused c → trays_left branch flags lent ≡ lent
unfolding trays_left trays_after
refused_keeps branch flags lent c e = ap (λ (o : Outcome). trays_after o lent) e
