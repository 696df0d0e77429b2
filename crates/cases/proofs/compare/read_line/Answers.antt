use lib.Seq.{drop-drop}
use borrow.Author.Tests.{lt-leb}
use Rattle.cases.specs.Compared.{expected_of}
use Rattle.cases.proofs.Words.{rest_of}
use Rattle.cases.proofs.compare.read_line.Goals as goal

pub returns : goal.returns
unfolding expected_of
returns c =
    rw (← c.start_of-at.ensures, lt-leb _ _ c.if-line-at.false, c.byte_at.ensures, c.start_of.ensures, c.number_of.ensures, c.number_of-2.ensures, c.number_of-3.ensures, c.read_digest.ensures, rest_of, drop-drop)
