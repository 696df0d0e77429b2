-- The refusals' numbers, each once, with the paper's words. Code has the same numbers, under the same names, in crates/refusal/src.
use Rattle.std.specs.Prelude.{ℕ}

-- "torn: length not a multiple of 6"
abbrev pub partial_record : ℕ
partial_record = 1

-- "blank: no record"
abbrev pub no_record : ℕ
no_record = 2

-- "overlong: more than 256 records"
abbrev pub too_many_records : ℕ
too_many_records = 3

-- "bad tick: flag byte 16 or more"
abbrev pub unknown_flag : ℕ
unknown_flag = 4

-- "short tray: a tray below its length"
abbrev pub tray_too_short : ℕ
tray_too_short = 5

-- "unknown stain: kind above 8"
abbrev pub unknown_kind : ℕ
unknown_kind = 6

-- "stray mark: mark above 1, or a zero field not zero"
abbrev pub bad_mark_or_field : ℕ
bad_mark_or_field = 7

-- "forward link: a link to itself or later"
abbrev pub forward_link : ℕ
forward_link = 8

-- "oversize: expanded size above 4,096"
abbrev pub formula_too_large : ℕ
formula_too_large = 9

-- "unmarked: no marked record"
abbrev pub no_marked_record : ℕ
no_marked_record = 10

-- "crowded: more than 64 marked"
abbrev pub too_many_marked : ℕ
too_many_marked = 11

-- "full: the run defined below issues more than 512 identifiers"
abbrev pub too_many_identifiers : ℕ
too_many_identifiers = 12

-- "13 "garbled"": a text that is not of the grammar
abbrev pub unreadable_text : ℕ
unreadable_text = 13

-- "14 "long slip", above 4,096 bytes"
abbrev pub text_too_long : ℕ
text_too_long = 14
