-- Where a text is garbled, as a compiler says it: a line with the place, the text's line, and a mark under the place.
use Rattle.std.specs.Prelude.{Bool, true, false, cond, ◌&&◌, not, List, [], ◌∷◌, ◌++◌, ℕ, zero, suc, ◌+◌, ◌-◌, ◌*◌, ◌/◌, ◌%◌, eqb, leb, length, get_or, drop, replicate}
use Rattle.std.proofs.Math.Seq.{slice}
use Rattle.definition.specs.Limits.{most_text}
use Rattle.definition.specs.Lists.{concat_map}
use Rattle.io.specs.Digits.{hex_digit_ascii}
use Rattle.slices.specs.Text.{decimal_of}

abbrev pub is_newline : ℕ → Bool
is_newline b = eqb b 10

-- the number of the line in which an offset stands: 1, and 1 more for each newline before it
unfoldable pub line_number : List ℕ → ℕ → ℕ
line_number text zero = 1
line_number text (suc o) = line_number text o + cond (is_newline (get_or text o 0)) 1 0

-- where this line begins: behind the last newline before the offset
unfoldable pub line_start : List ℕ → ℕ → ℕ
line_start text zero = 0
line_start text (suc o) = cond (is_newline (get_or text o 0)) (suc o) (line_start text o)

-- the bytes up to the first newline, or to the end
unfoldable pub up_to_newline : List ℕ → List ℕ
up_to_newline [] = []
up_to_newline (b ∷ bs) = cond (is_newline b) [] (b ∷ up_to_newline bs)

-- where this line ends: at the first newline from the offset on, or at the text's end
abbrev pub line_end : List ℕ → ℕ → ℕ
line_end text o = o + length (up_to_newline (drop o text))

-- columns count from 1, in bytes
abbrev pub column : List ℕ → ℕ → ℕ
column text o = o - line_start text o + 1

-- a byte that prints as itself: from the space, 32, to ~, 126, but no backslash, 92
abbrev pub plain : ℕ → Bool
plain b = leb 32 b && (leb b 126 && not (eqb b 92))

-- a byte as it is shown: itself, or a backslash, x and two hexadecimal digits
unfoldable pub shown : ℕ → List ℕ
shown b = cond (plain b) (b ∷ []) (92 ∷ 120 ∷ hex_digit_ascii (b / 16) ∷ hex_digit_ascii (b % 16) ∷ [])

-- spaces in its place, one for each character
unfoldable pub blank : ℕ → List ℕ
blank b = replicate (length (shown b)) 32

unfoldable pub shown_as : Bool → ℕ → List ℕ
shown_as true b = blank b
shown_as false b = shown b

-- the bytes from one offset to another, as they are shown, or as spaces
abbrev pub shown_from : Bool → List ℕ → ℕ → ℕ → List ℕ
shown_from blanks text start end = concat_map (shown_as blanks) (slice start end text)

-- "line ", " column ", " this can't continue a text", " the text ends short" in ASCII
abbrev pub line_word : List ℕ
line_word = 108 ∷ 105 ∷ 110 ∷ 101 ∷ 32 ∷ []

abbrev pub column_word : List ℕ
column_word = 32 ∷ 99 ∷ 111 ∷ 108 ∷ 117 ∷ 109 ∷ 110 ∷ 32 ∷ []

abbrev pub cannot_continue : List ℕ
cannot_continue = 32 ∷ 116 ∷ 104 ∷ 105 ∷ 115 ∷ 32 ∷ 99 ∷ 97 ∷ 110 ∷ 39 ∷ 116 ∷ 32 ∷ 99 ∷ 111 ∷ 110 ∷ 116 ∷ 105 ∷ 110 ∷ 117 ∷ 101 ∷ 32 ∷ 97 ∷ 32 ∷ 116 ∷ 101 ∷ 120 ∷ 116 ∷ []

abbrev pub ends_short : List ℕ
ends_short = 32 ∷ 116 ∷ 104 ∷ 101 ∷ 32 ∷ 116 ∷ 101 ∷ 120 ∷ 116 ∷ 32 ∷ 101 ∷ 110 ∷ 100 ∷ 115 ∷ 32 ∷ 115 ∷ 104 ∷ 111 ∷ 114 ∷ 116 ∷ []

-- what is wrong: at the text's length it ends short
unfoldable pub reason : Bool → List ℕ
reason true = ends_short
reason false = cannot_continue

-- "line 2, column 6:"; 44 is the comma, 58 the colon
unfoldable pub place : ℕ → ℕ → List ℕ
place number col = line_word ++ (decimal_of number ++ (44 ∷ [])) ++ column_word ++ (decimal_of col ++ (58 ∷ []))

-- the first line; 10 is the newline
unfoldable pub heading : List ℕ → ℕ → List ℕ
heading text o = place (line_number text o) (column text o) ++ (reason (eqb o (length text)) ++ (10 ∷ []))

-- the line in which the offset stands
unfoldable pub shown_line : List ℕ → ℕ → List ℕ
shown_line text o = shown_from false text (line_start text o) (line_end text o) ++ (10 ∷ [])

-- the mark: a space for each character before the offset's, then ^, 94
unfoldable pub mark : List ℕ → ℕ → List ℕ
mark text o = shown_from true text (line_start text o) o ++ (94 ∷ 10 ∷ [])

unfoldable pub diagnosis : List ℕ → ℕ → List ℕ
diagnosis text o = heading text o ++ shown_line text o ++ mark text o

-- at most so many characters are shown of a byte
abbrev pub shown_length : ℕ
shown_length = 4

-- no place and no reason with its newline is longer; a number of 64 bits has at most 20 digits
abbrev pub place_length : ℕ
place_length = 55

abbrev pub reason_length : ℕ
reason_length = 28

-- room for the first line and the ends of the other two
abbrev pub heading_length : ℕ
heading_length = 96

-- no diagnosis of a text of at most most_text bytes is longer
abbrev pub diagnosis_length : ℕ
diagnosis_length = heading_length + 2 * shown_length * most_text
