-- The enum's value for each kind of the table.
use Rattle.std.specs.Prelude.{Result, Ok, Err}
use Rattle.definition.specs.Records as D
use Rattle.formula.specs.declared.Kind.{Kind}
use Rattle.formula.specs.declared.Kind.TheVariants as K
use Rattle.formula.specs.declared.UnknownKind.{UnknownKind}

abbrev pub kind_meant : Kind → D.Kind
kind_meant K.Atomic = D.Atomic
kind_meant K.Non = D.Non
kind_meant K.And = D.And
kind_meant K.Or = D.Or
kind_meant K.Imply = D.Imply
kind_meant K.BiImply = D.BiImply
kind_meant K.StrictImply = D.StrictImply
kind_meant K.Possible = D.Possible
kind_meant K.Necessary = D.Necessary

-- the kind that a number was read as
abbrev pub read_as : Result Kind UnknownKind → D.Kind
read_as (Ok kind) = kind_meant kind
read_as (Err _) = D.Unknown
