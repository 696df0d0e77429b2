use Rattle.cases.proofs.Filed.{file_whole, file_broken}
use Rattle.cases.proofs.reading.read_file.Goals as goal

pub returns-in-Ok-eq0 : goal.returns-in-Ok-eq0
returns-in-Ok-eq0 g c =
    let both = file_whole _ _ c.loop.invariant in
    record { file_read = both.0; since = both.1 }

pub returns-in-Err : goal.returns-in-Err
returns-in-Err g c =
    let both = file_broken _ _ _ c.loop.invariant c.report.ensures in
    record { file_read = both.0; since = both.1 }

pub returns : goal.returns
returns g c =
    let both = file_broken _ _ _ c.loop.invariant c.report-2.ensures in
    record { file_read = both.0; since = both.1 }
