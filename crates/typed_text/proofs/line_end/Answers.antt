use Rattle.std.proofs.Common.{◌≡◌, ◌+◌, ◌-◌, ◌<◌, ◌∙◌, ap, take, drop, length, length-drop, get_or, rules, arith, ℕ, List}
use Rattle.typed_text.specs.Diagnosis.{up_to_newline}
use Rattle.typed_text.proofs.Places.{rest_is, end_found, end_none}
use Rattle.typed_text.proofs.line_end.Goals as goal

pub returns-in-Some : goal.returns-in-Some
returns-in-Some c =
    let rest = take (length c.args.text.now - c.args.at) (drop c.args.at c.args.text.now) in
    let inside : c.in-Some.length < length rest = search rules in
    let found : get_or rest c.in-Some.length 0 ≡ 10 = search rules in
    let none : (k : ℕ) → k < c.in-Some.length → get_or rest k 0 ≡ 10 → ⊥ = λ k h1 h3. search rules in
    let same = rest_is c.args.text.now c.args.at in
    (ap (λ (n : ℕ). c.args.at + n) (end_found rest c.in-Some.length inside found none ∙ ap (λ (l : List ℕ). length (up_to_newline l)) same), omega arith, omega (arith, inside, ap length same, length-drop c.args.at c.args.text.now, c.requires))

pub returns-in-None : goal.returns-in-None
returns-in-None c =
    let rest = take (length c.args.text.now - c.args.at) (drop c.args.at c.args.text.now) in
    let none : (k : ℕ) → k < length rest → get_or rest k 0 ≡ 10 → ⊥ = λ k h2 h3. search rules in
    let same = rest_is c.args.text.now c.args.at in
    let all : length rest ≡ length (up_to_newline (drop c.args.at c.args.text.now)) = end_none rest none ∙ ap (λ (l : List ℕ). length (up_to_newline l)) same in
    (omega (arith, all, ap length same, length-drop c.args.at c.args.text.now, c.requires), c.requires, omega arith)
