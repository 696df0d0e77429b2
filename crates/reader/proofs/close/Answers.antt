use Rattle.reader.proofs.Levels.{no_closing}
use Rattle.reader.proofs.close.Goals as goal

pub returns-in_default : goal.returns-in_default
returns-in_default c = no_closing c.args.words.now c.args.at c.word_at.result c.word_at.ensures c.in_default.not-Closing
