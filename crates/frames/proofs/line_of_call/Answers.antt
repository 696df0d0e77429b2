use Rattle.std.proofs.Common.{◌∙◌, ap}
use Rattle.definition.specs.Call as Call
use Rattle.frames.specs.Line.{line_of}
use Rattle.frames.proofs.Frames.{line_told}
use Rattle.frames.proofs.line_of_call.Goals as goal

pub returns : goal.returns
returns c =
    line_told c.args.flags c.line.result.items c.call.result c.line.ensures.verdict c.line.ensures.refused
    ∙ ap (λ (a : Call.Answer). line_of c.args.flags a) c.call.ensures
