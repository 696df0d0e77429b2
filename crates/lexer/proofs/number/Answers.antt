use Rattle.std.proofs.Common.{rules, subst, ◌≡◌, ◌+◌, ◌*◌, ◌-◌, ℕ, drop, get_or}
use Rattle.grammar.specs.Lexing.{value_from, value}
use Rattle.lexer.proofs.Bytes.{more}
use Rattle.lexer.proofs.number.Goals as goal

pub returns-then-number-gt-LARGEST_ATOM : goal.returns-then-number-gt-LARGEST_ATOM
returns-then-number-gt-LARGEST_ATOM c = let m = more c.args.digits.now c.loop-digit.digit-index c.loop-digit.number c.loop-digit-test.true c.loop-digit.invariant in let l = m.least in search rules

pub loop-digit-preserved : goal.loop-digit-preserved
loop-digit-preserved c =
    let m = more c.args.digits.now c.loop-digit.digit-index c.loop-digit.number c.loop-digit-test.true c.loop-digit.invariant in
    let e : 10 * c.loop-digit.number + (get_or c.args.digits.now c.loop-digit.digit-index 0 - 48) ≡ 10 * c.loop-digit.number + c.from.result = search rules in
    (search rules, m.digits, subst (λ (n : ℕ). value_from n (drop (c.loop-digit.digit-index + 1) c.args.digits.now) ≡ value c.args.digits.now) e m.goes)
