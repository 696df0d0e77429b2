use Rattle.std.proofs.Common.{◌≡◌, ◌<◌, take, get_or, rules, ℕ}
use Rattle.typed_text.proofs.Places.{start_found, start_none}
use Rattle.typed_text.proofs.line_start.Goals as goal

pub returns-in-Some : goal.returns-in-Some
returns-in-Some c =
    let inside : c.in-Some.newline < c.args.at = search rules in
    let found : get_or (take c.args.at c.args.text.now) c.in-Some.newline 0 ≡ 10 = search rules in
    let none : (k : ℕ) → c.in-Some.newline < k → k < c.args.at → get_or (take c.args.at c.args.text.now) k 0 ≡ 10 → ⊥ = λ k h1 h2 h3. search rules in
    start_found c.args.text.now c.args.at c.in-Some.newline inside found none

pub returns-in-None : goal.returns-in-None
returns-in-None c =
    let none : (k : ℕ) → k < c.args.at → get_or (take c.args.at c.args.text.now) k 0 ≡ 10 → ⊥ = λ k h2 h3. search rules in
    start_none c.args.text.now c.args.at none
