-- The enum's value for each refusal of the paper's table.
use Rattle.std.specs.Prelude.{ℕ}
use Rattle.definition.specs.RefusalNumbers as table
use Rattle.refusal.specs.declared.Reason.{Reason}
use Rattle.refusal.specs.declared.Reason.TheVariants as R

abbrev pub number_of : Reason → ℕ
number_of R.PartialRecord = table.partial_record
number_of R.NoRecord = table.no_record
number_of R.TooManyRecords = table.too_many_records
number_of R.UnknownFlag = table.unknown_flag
number_of R.TrayTooShort = table.tray_too_short
number_of R.UnknownKind = table.unknown_kind
number_of R.BadMarkOrField = table.bad_mark_or_field
number_of R.ForwardLink = table.forward_link
number_of R.FormulaTooLarge = table.formula_too_large
number_of R.NoMarkedRecord = table.no_marked_record
number_of R.TooManyMarked = table.too_many_marked
number_of R.TooManyIdentifiers = table.too_many_identifiers
number_of R.UnreadableText = table.unreadable_text
number_of R.TextTooLong = table.text_too_long
