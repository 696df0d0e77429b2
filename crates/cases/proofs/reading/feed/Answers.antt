use Rattle.cases.proofs.Filed.{takes_put}
use Rattle.cases.proofs.reading.feed.Goals as goal

pub returns : goal.returns
returns g c =
    let put = c.try_push.ensures in
    takes_put c.try_push.result c.if-b-eq10.false put.variant.0 put.ok put.err (λ e. rw e) put.full
