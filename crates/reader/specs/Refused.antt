-- The refusal of a text that is not read, and why the scan's errors are ones.
use Rattle.refusal.specs.declared.Refusal.{Refusal}
use Rattle.refusal.specs.declared.Reason.TheVariants.{TrayTooShort, TextTooLong, UnreadableText}
use Rattle.lexer.specs.declared.ScanError.{ScanError}
use Rattle.reader.specs.declared.TextError.{TextError}
use Rattle.reader.specs.declared.TextError.TheVariants as E

abbrev pub refusal_of : TextError → Refusal
refusal_of E.ShortTray = record { reason = TrayTooShort; place = 0 }
refusal_of E.TooLong = record { reason = TextTooLong; place = 0 }
refusal_of (E.Unreadable at) = record { reason = UnreadableText; place = at }

abbrev pub text_error_of : ScanError → TextError
text_error_of ScanError.TooLong = E.TooLong
text_error_of (ScanError.Unreadable at) = E.Unreadable at
