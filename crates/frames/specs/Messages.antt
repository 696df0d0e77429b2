-- What a run that fails says on standard error, without the newline.
use Rattle.std.specs.Prelude.{List, ◌++◌, ℕ, codes}
use Rattle.frames.specs.declared.error.Taken.{Taken}
use Rattle.frames.specs.declared.error.Taken.TheVariants.{Records, TypedRules}
use Rattle.frames.specs.declared.error.RunError.{RunError}
use Rattle.frames.specs.declared.error.RunError.TheVariants.{ArgumentGiven, ReadFailed, WriteFailed}

-- what a program takes
abbrev pub name_of : Taken → List ℕ
name_of Records = codes "records"
name_of TypedRules = codes "typed rules"

abbrev pub message_of : RunError → List ℕ
message_of (ArgumentGiven taken) = codes "no arguments are taken: " ++ name_of taken ++ codes " come on standard input (README.md)"
message_of ReadFailed = codes "standard input cannot be read"
message_of WriteFailed = codes "standard output cannot be written"
