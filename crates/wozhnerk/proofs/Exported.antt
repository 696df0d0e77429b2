-- The number says the answer: no verdict has more worlds than the number has room for.
use mathlib.Core.Path.{◌≡◌, refl, sym, subst}
use mathlib.Core.Bool.{Bool, true, false, cond}
use mathlib.Core.List.{List}
use mathlib.Core.Option.{Option, none, some}
use mathlib.Core.Logic.{inl, inr}
use Prim.Native.Nat.{ℕ, ◌≤◌}
use native.Mathlib.Omega.{arith}
use lib.Dec.{ltb}
use lib.ListN.{length}
use borrow.Author.Tests.{ltb-true, ltb-false}
use Rattle.definition.specs.Limits.{most_text, text_tray_length}
use Rattle.definition.specs.RefusalNumbers.{tray_too_short, unreadable_text, text_too_long}
use Rattle.definition.specs.Records.{Rec, decode}
use Rattle.definition.specs.Setting.{setting_of}
use Rattle.definition.specs.Run.{State, full, final}
use Rattle.definition.specs.Trays.{Trays}
use Rattle.definition.specs.Checks.{Check, refused}
use Rattle.definition.specs.Call.{Full, Ended, Answer, refusal, outcome_of_run, outcome_by, outcome, answer_of, answer, lengths_of}
use Rattle.definition.proofs.Basics.Lists.{either, each_any}
use Rattle.definition.proofs.Run.Accepted.{Accepted, accepted}
use Rattle.definition.proofs.Call.Outcomes.{final_bounded}
use Rattle.grammar.proofs.Theorems.{taken_or_unreadable}
use Rattle.prover.specs.Contract.{Contract}
use Rattle.typed.specs.Contract.{TypedContract}
use Rattle.wozhnerk.specs.Word.{worlds_of}

-- no verdict has more worlds than a byte holds
answer_worlds : (branch : List ℕ) (flags : ℕ) (lent : Trays) → worlds_of (answer branch flags lent) ≤ 255
unfolding answer outcome outcome_by outcome_of_run answer_of worlds_of
answer_worlds branch flags lent = go (refused branch flags (lengths_of lent)) refl
  where
    z : State
    z = final (setting_of flags) (decode branch)

    ends : Accepted branch flags (lengths_of lent) → (b : Bool) → full z ≡ b → worlds_of (answer_of (setting_of flags) (cond b Full (Ended z))) ≤ 255
    ends a true q = omega arith
    ends a false q =
        let P : Rec → Type 0 = λ r. Unit {0} in
        omega (arith, (final_bounded branch flags (lengths_of lent) a q P (λ r k. tt) (each_any P (λ r. tt) (decode branch))).sizes.worlds)

    go : (x : Option Check) → refused branch flags (lengths_of lent) ≡ x → worlds_of (answer_of (setting_of flags) (outcome_by branch flags x)) ≤ 255
    go (some c) q = omega arith
    go none q = ends (accepted branch flags (lengths_of lent) q) (full z) refl

-- the same answer in other words
pub contract_as : {branch : List ℕ} {flags : ℕ} {lent left : Trays} {a b : Answer} → Contract branch flags lent a left → (worlds_of a ≤ 255 → b ≡ a) → Contract branch flags lent b left
contract_as {branch} {flags} {lent} {left} k e =
    let low = subst (λ (x : Answer). worlds_of x ≤ 255) (sym k.answers) (answer_worlds branch flags lent) in
    subst (λ (x : Answer). Contract branch flags lent x left) (sym (e low)) k

-- a refusal has none
none_refused : (number place : ℕ) {a : Answer} → a ≡ refusal number place → worlds_of a ≤ 255
unfolding worlds_of
none_refused number place e = subst (λ (x : Answer). worlds_of x ≤ 255) (sym e) (omega arith)

module _ (text : List ℕ) (flags : ℕ) (textTray : List ℕ) (lent : Trays) (a : Answer) (textTrayLeft : List ℕ) (left : Trays) (k : TypedContract text flags textTray lent a textTrayLeft left) where
  typed_worlds : worlds_of a ≤ 255
  typed_worlds = elim (either (ltb (length textTray) text_tray_length)) [
    | inl q ↦ none_refused tray_too_short 0 (k.short_tray (ltb-true (length textTray) text_tray_length q)).says
    | inr q ↦
        let wide = ltb-false (length textTray) text_tray_length q in
        elim (either (ltb most_text (length text))) [
          | inl d ↦ none_refused text_too_long 0 (k.long_text wide (ltb-true most_text (length text) d)).says
          | inr d ↦
              let few = ltb-false most_text (length text) d in
              elim (taken_or_unreadable text) [
                | inl (ps, h) ↦ subst (λ (x : Answer). worlds_of x ≤ 255) (sym (k.taken wide few ps h).call.answers) (answer_worlds _ flags lent)
                | inr (o, g) ↦ none_refused unreadable_text o (k.unreadable wide few o g).says
              ]
        ]
  ]

pub typed_as : {text : List ℕ} {flags : ℕ} {textTray textTrayLeft : List ℕ} {lent left : Trays} {a b : Answer} →
    TypedContract text flags textTray lent a textTrayLeft left → (worlds_of a ≤ 255 → b ≡ a) → TypedContract text flags textTray lent b textTrayLeft left
typed_as {text} {flags} {textTray} {textTrayLeft} {lent} {left} {a} k e =
    subst (λ (x : Answer). TypedContract text flags textTray lent x textTrayLeft left) (sym (e (typed_worlds text flags textTray lent a textTrayLeft left k))) k
