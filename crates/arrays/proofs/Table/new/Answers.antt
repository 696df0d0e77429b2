use Rattle.arrays.proofs.Tabled.{tabled_none}
use Rattle.arrays.proofs.Table.new.Goals as goal

pub returns : goal.returns
returns g c = tabled_none
