use borrow.Author.Rules.{rules}
use native.Mathlib.Omega.{arith}
use Rattle.definition.specs.Limits.{node_length}
use Rattle.definition.specs.Lists.{concat_map}
use Rattle.definition.specs.Trays.{node_bytes}
use Rattle.definition.proofs.Call.Trays.{length_parts, node_length_lem}
use Rattle.trays.proofs.Bytes.{puts_given, not_kept}
use Rattle.trays.proofs.write_nodes.Goals as goal

pub returns : goal.returns
returns c =
    let long = length_parts node_length node_bytes node_length_lem in (
      λ ns e q h r. c.put_zeros.ensures.0 c.args.tray.now (concat_map node_bytes ns) (puts_given (c.append_all.ensures.appends ns e q h).puts c.new-w.ensures.at (cc) (omega (arith, q.fits, long ns)) (search rules)) (omega (arith, q.fits, long ns)) r,
      not_kept c.if-tray-lt-NODE_TRAY_LENGTH.false c.if-tree-gt-MOST_IDENTIFIERS.false,
    )
