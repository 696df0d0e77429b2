use Rattle.std.proofs.Common.{rules}
use Rattle.lexer.proofs.Scanning.{refused, short, whole, unreadable_at}
use Rattle.lexer.proofs.scan_words.Goals as goal

pub returns-in_default : goal.returns-in_default
returns-in_default c = unreadable_at _ c.args.words.now c.loop-next.words _ c.unreadable.result c.unreadable.ensures c.requires (refused c.loop-next.invariant c.next_token-next.ensures.1 (search rules) (search rules))

pub returns-in-Line : goal.returns-in-Line
returns-in-Line c = (c.requires, whole c.loop-next.invariant c.next_token-next.ensures.1 (search rules) (search rules))

pub returns-in_default-awaited : goal.returns-in_default-awaited
returns-in_default-awaited c = unreadable_at _ c.args.words.now c.loop-next.words _ c.unreadable-in_default-awaited.result c.unreadable-in_default-awaited.ensures c.requires (short c.loop-next.invariant c.next_token-next.ensures.1 (search rules) c.in_default-awaited.not-Line)
