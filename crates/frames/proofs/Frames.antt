-- The lines one after the other, and what the window of an input prints.
use Rattle.std.proofs.Common.{◌≡◌, refl, ◌∙◌, ap, List, ◌++◌, ℕ, zero, suc, ◌+◌, ◌*◌, ◌≤◌, ◌<◌, length, take, arith, Result, Ok, Err, IfOk, IfErr, length-append}
use Rattle.std.specs.Bool.{⊤}
use mathlib.Core.Logic.{⊎_elim}
use native.Mathlib.Numerals.{add-one}
use Rattle.definition.specs.Trays.{Trays, zero_trays}
use Rattle.definition.specs.Call.{answer, refusal}
use Rattle.definition.specs.Call as Call
use Rattle.refusal.specs.Number.{number_of}
use Rattle.refusal.specs.declared.Refusal.{Refusal}
use Rattle.prover.specs.Said.{said}
use Rattle.prover.specs.declared.Verdict.{Verdict}
use Rattle.frames.specs.declared.Numbered.{Numbered}
use Rattle.frames.specs.Line.{line_of, line_length}
use Rattle.frames.specs.Lines.{lines_below, answers_of, eight_lines, Printed, Runs}
use Rattle.frames.specs.Window.{window_length, window, Window}
use Rattle.frames.specs.declared.error.RunError.{RunError}
use Rattle.frames.specs.declared.error.RunError.TheVariants.{WriteFailed}
use Rattle.frames.proofs.Answering.{answer_overlong}
use Rattle.frames.proofs.Windows.{within, window_over, window_seen}

-- the line of what `prove` answers, whose refusal is told by the number of its reason
pub line_told : (flags : ℕ) (line : List ℕ) (answer : Result Verdict Refusal) → IfOk answer (λ verdict. line ≡ line_of flags (said (Ok verdict)))
    → IfErr answer (λ error. (told : Numbered) × ((told.number ≡ number_of error.reason) × (told.place ≡ error.place)) × (line ≡ line_of flags (refusal told.number told.place)))
    → line ≡ line_of flags (said answer)
unfolding said
line_told flags line (Ok verdict) p q = p
line_told flags line (Err error) p (told, (number, place), e) = e ∙ rw (number, place)

pub lines_next : (text now line : List ℕ) (answers : ℕ → Call.Answer) (flags : ℕ) → text ≡ lines_below flags answers → now ≡ text ++ line → line ≡ line_of flags (answers flags)
    → now ≡ lines_below (flags + 1) answers
unfolding lines_below
lines_next text now line answers flags p q e = rw (add-one flags) (q ∙ ap (λ (s : List ℕ). s ++ line) p ∙ ap (λ (s : List ℕ). lines_below flags answers ++ s) e)

pub lines_length : (text now line : List ℕ) (flags : ℕ) → now ≡ text ++ line → length text ≤ line_length * flags → length line ≤ line_length
    → length now ≤ line_length * (flags + 1)
lines_length text now line flags q h k = omega (arith, ap length q, length-append text line, h, k)

answer_window : (whole kept : List ℕ) (seen flags : ℕ) (lent : Trays) → length (take seen kept) ≡ seen → Window whole kept seen → answer (take seen kept) flags lent ≡ answer whole flags lent
answer_window whole kept seen flags lent size w =
    ⊎_elim
    (λ (h : length whole ≤ window_length). ap (λ (s : List ℕ). answer s flags lent) (w.bytes h))
    (λ (h : window_length < length whole).
    let known = w.counted ∙ window_over (length whole) h in
    answer_overlong whole (take seen kept) flags lent h (size ∙ known))
    (within (length whole))

lines_same : (n : ℕ) (a b : ℕ → Call.Answer) → ((flags : ℕ) → a flags ≡ b flags) → lines_below n a ≡ lines_below n b
unfolding lines_below
lines_same zero a b h = refl
lines_same (suc n) a b h =
    ap (λ (s : List ℕ). s ++ line_of n (a n)) (lines_same n a b h)
    ∙ ap (λ (x : Call.Answer). lines_below n b ++ line_of n x) (h n)

-- what is printed of the bytes kept is what the whole input asks for
pub printed : (kept text : List ℕ) (seen : ℕ) → length (take seen kept) ≡ seen → window seen ≡ seen → text ≡ eight_lines (take seen kept) → Printed kept seen text
printed kept text seen size counted e =
    record {
      whole = take seen kept;
      held = window_seen kept seen size counted;
      lines = λ input w. e ∙ lines_same 8 (answers_of (take seen kept)) (answers_of input) (λ flags. answer_window input kept seen flags zero_trays size w);
    }

runs : (kept text : List ℕ) (seen : ℕ) (r : Result ⊤ RunError) → IfErr r (λ error. error ≡ WriteFailed) → Printed kept seen text → Runs kept seen text r
runs kept text seen (Ok done) h p = p
runs kept text seen (Err error) h p = rw h p

-- whether the lines are written or not
pub runs_printed : (kept text : List ℕ) (seen : ℕ) (r : Result ⊤ RunError) → length (take seen kept) ≡ seen → window seen ≡ seen → text ≡ eight_lines (take seen kept)
    → IfErr r (λ error. error ≡ WriteFailed) → Runs kept seen text r
runs_printed kept text seen r size counted e h = runs kept text seen r h (printed kept text seen size counted e)
