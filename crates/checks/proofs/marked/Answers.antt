use Rattle.std.proofs.Common.{rules, ◌∙◌}
use borrow.Author.Tests.{tests}
use lib.Dec.{eqb}
use Rattle.std.proofs.lemmas.Iterator.Consumers.{count_from_yields_List, YieldsList-at, YieldsList-from_filter}
use Rattle.checks.proofs.Chunks.{chunk_records, length_marks}
use Rattle.checks.proofs.marked.Goals as goal

pub returns : goal.returns
returns c =
    let road = chunk_records c.args.branch.now c.chunks_exact.ensures.rest c.chunks_exact.ensures.size in
    count_from_yields_List _ c.count.result c.count.ensures.ran (YieldsList-from_filter _ (λ r. eqb r.mark 1) (YieldsList-at c.filter.ensures.source road) c.filter.ensures.closure (λ x r q k. search (rules, tests))) ∙ length_marks 0 _
