use Rattle.std.proofs.Common.{rules}
use Rattle.reader.proofs.Levels.{got_name, got_sign, closes, lost_as, lost_here, lost_sign, lost_inside, adding_start, adding_end, adding_lost, adding_right, adding_next}
use Rattle.reader.proofs.+phrases.Goals as goal

pub grouped_left-loop-joint-init : goal.grouped_left-loop-joint-init
grouped_left-loop-joint-init t c = adding_start c.args.words.now c.args.first c.args.records.now.count c.args.level c.args.records.now.bytes c.requires.2 c.requires.3 c.requires.4

pub grouped_left-returns-in_err-end : goal.grouped_left-returns-in_err-end
grouped_left-returns-in_err-end t c = λ at k n before q f g. lost_as _ _ _ _ _ _ _ c.from_residual.result (search rules) (adding_lost c.loop-joint.invariant c.in-Some.joint c.in-Some.ensures c.tighter.new.records.bytes c.tighter.new.records.count (search rules) at k n before q f g)

pub grouped_left-returns : goal.grouped_left-returns
grouped_left-returns t c = adding_end c.loop-joint.invariant c.in_default.ensures

pub grouped_left-loop-joint-preserved : goal.grouped_left-loop-joint-preserved
grouped_left-loop-joint-preserved t c =
    adding_next c.loop-joint.invariant c.in-Some.joint c.in-Some.ensures c.tighter.new.records.bytes c.join.new.self.bytes c.in_ok-end.end c.tighter.new.records.count c.last-left.result c.join.new.self.count c.last-left.ensures c.join.ensures.0
    c.join.ensures.1 c.requires.0 c.requires.1 c.in_ok-end.ensures

pub grouped_right-returns-in_default : goal.grouped_right-returns-in_default
grouped_right-returns-in_default t c = adding_end (adding_start c.args.words.now c.args.first c.args.records.now.count c.args.level c.args.records.now.bytes c.requires.2 c.requires.3 c.requires.4) c.in_default.ensures

pub grouped_right-returns-in_err-end : goal.grouped_right-returns-in_err-end
grouped_right-returns-in_err-end t c = λ at k n before q f g.
    lost_as _ _ _ _ _ _ _ c.from_residual.result (search rules)
    (adding_lost (adding_start c.args.words.now c.args.first c.args.records.now.count c.args.level c.args.records.now.bytes c.requires.2 c.requires.3 c.requires.4) c.in-Some.joint c.in-Some.ensures c.phrase.new.records.bytes c.phrase.new.records.count (search rules) at k n before q f g)

pub grouped_right-returns : goal.grouped_right-returns
grouped_right-returns t c =
    adding_right (adding_start c.args.words.now c.args.first c.args.records.now.count c.args.level c.args.records.now.bytes c.requires.2 c.requires.3 c.requires.4) c.in-Some.joint c.in-Some.ensures c.phrase.new.records.bytes c.join.new.self.bytes c.in_ok-end.end c.phrase.new.records.count c.last-left.result c.join.new.self.count c.last-left.ensures c.join.ensures.0
    c.join.ensures.1 c.requires.0 c.in_ok-end.ensures

pub operand-returns-in_err-end-in-Sign : goal.operand-returns-in_err-end-in-Sign
operand-returns-in_err-end-in-Sign t c = lost_as _ _ _ _ _ _ _ c.from_residual.result (search rules) (lost_sign _ _ c.in-Sign.sign c.in-Sign.ensures (search rules))

pub operand-returns-in_err-end-in-Opening : goal.operand-returns-in_err-end-in-Opening
operand-returns-in_err-end-in-Opening t c = lost_as _ _ _ _ _ _ _ c.from_residual-in_err-end-in-Opening.result (search rules) (lost_inside _ _ c.in-Opening.ensures (search rules))

pub operand-returns-in-Name : goal.operand-returns-in-Name
operand-returns-in-Name t c = got_name c.args.words.now c.args.at c.args.records.now.count c.args.records.now.bytes c.push.new.self.bytes c.in-Name.number c.push.new.self.count c.in-Name.ensures c.requires.1 c.push.ensures.0 c.push.ensures.1

pub operand-returns-in_ok-end-in-Sign : goal.operand-returns-in_ok-end-in-Sign
operand-returns-in_ok-end-in-Sign t c =
    got_sign c.args.words.now c.args.at c.args.records.now.count _ c.operand.new.records.bytes _ c.in-Sign.sign c.kind.result c.in_ok-end-in-Sign.end c.operand.new.records.count c.last-inner.result c.push-in-Sign.new.self.count c.in-Sign.ensures
    c.in_ok-end-in-Sign.ensures c.kind.ensures c.last-inner.ensures c.push-in-Sign.ensures.0 c.push-in-Sign.ensures.1

pub operand-returns-in_ok-end-in-Opening : goal.operand-returns-in_ok-end-in-Opening
operand-returns-in_ok-end-in-Opening t c = closes c.args.words.now c.args.at c.args.records.now.count _ _ c.in_ok-end-in-Opening.end _ c.close.result c.in-Opening.ensures c.in_ok-end-in-Opening.ensures c.close.ensures

pub operand-returns-in_default : goal.operand-returns-in_default
operand-returns-in_default t c = lost_here _ _ c.word_at.result c.word_at.ensures c.in_default.not-Name c.in_default.not-Sign c.in_default.not-Opening
