use native.Mathlib.Omega.{arith}
use Rattle.proof.proofs.Stopping.{stops_full, stops_proved, stops_idle, stops_late}
use Rattle.proof.proofs.stops.Goals as goal

pub returns-then-state-gt-MOST_IDENTIFIERS : goal.returns-then-state-gt-MOST_IDENTIFIERS
returns-then-state-gt-MOST_IDENTIFIERS c = λ F s k. stops_full k (omega (arith, c.if-state-gt-MOST_IDENTIFIERS.true))

pub returns-then-state : goal.returns-then-state
returns-then-state c = λ F s k. stops_proved k (omega (arith, c.if-state-gt-MOST_IDENTIFIERS.false)) c.if-state.true

pub returns-then-state-eq0 : goal.returns-then-state-eq0
returns-then-state-eq0 c = λ F s k. stops_idle k (omega (arith, c.if-state-gt-MOST_IDENTIFIERS.false)) c.if-state.false c.if-state-eq0.true

pub returns : goal.returns
returns c = λ F s k. stops_late k (omega (arith, c.if-state-gt-MOST_IDENTIFIERS.false)) c.if-state.false c.if-state-eq0.false
