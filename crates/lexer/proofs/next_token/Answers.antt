use Rattle.lexer.proofs.Bytes.{shows_after}
use Rattle.lexer.proofs.next_token.Goals as goal

pub returns : goal.returns
returns c = shows_after c.args.text.now c.args.at c.space_count.result c.first_token-word.result c.requires c.space_count.ensures c.first_token-word.ensures
