-- The text of a line: "flags 0 to 7, verdict (open, proved, late (..)), identifiers, worlds, steps. A refusal prints flags, `refused`, number, place."
use Rattle.std.specs.Prelude.{Bool, true, false, List, [], ◌∷◌, ℕ}
use Rattle.definition.specs.Call.{Answer, refusal, verdict}
use Rattle.slices.specs.Text.{decimal_of, line_of_words}

-- no line is longer
abbrev pub line_length : ℕ
line_length = 96

-- no number of 64 bits and the byte after it are longer
abbrev pub number_length : ℕ
number_length = 21

-- "open", "proved", "late", "refused" in ASCII
abbrev pub open_word : List ℕ
open_word = 111 ∷ 112 ∷ 101 ∷ 110 ∷ []

abbrev pub proved_word : List ℕ
proved_word = 112 ∷ 114 ∷ 111 ∷ 118 ∷ 101 ∷ 100 ∷ []

abbrev pub late_word : List ℕ
late_word = 108 ∷ 97 ∷ 116 ∷ 101 ∷ []

abbrev pub refused_word : List ℕ
refused_word = 114 ∷ 101 ∷ 102 ∷ 117 ∷ 115 ∷ 101 ∷ 100 ∷ []

-- the verdict's word: whether it is proved, whether it is late. No verdict is both; document 02: ""both" disappears from the listing"
unfoldable pub word_of : Bool → Bool → List ℕ
word_of true late = proved_word
word_of false true = late_word
word_of false false = open_word

unfoldable pub line_of : ℕ → Answer → List ℕ
line_of flags (refusal number place) = line_of_words (decimal_of flags) (refused_word ∷ decimal_of number ∷ decimal_of place ∷ [])
line_of flags (verdict v) =
    line_of_words (decimal_of flags)
    (word_of v.proved v.late ∷ decimal_of v.identifiers ∷ decimal_of v.worlds ∷ decimal_of v.steps ∷ [])
