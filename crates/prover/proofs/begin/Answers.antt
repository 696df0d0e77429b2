use mathlib.Core.List.{[]}
use Rattle.definition.specs.Records.{decode}
use Rattle.definition.specs.Run.{begun}
use Rattle.prover.proofs.Beginning.{few_records, started}
use Rattle.prover.proofs.begin.Goals as goal

pub returns : goal.returns
returns c = λ small some few blank.
    let rs = decode _ in
    let r = c.read_records.ensures blank.formulas in
    started rs some few c.args.state.now _ _ _ _ _ (few_records _ small) blank r (λ fits. c.begin_tree.ensures rs r fits blank.nodes) (λ l low same. c.begin_queue.ensures rs l low same blank.waiting)
    (λ ns q fits z l low. c.classify.ensures _ rs ns [] q r fits z l low blank.classes)
    (λ fits new laid. c.begin.ensures.checked (begun rs) fits new laid)
