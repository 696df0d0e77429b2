-- Text in bytes: numbers in decimal, words in a line.
use Rattle.std.specs.Prelude.{ℕ, zero, suc, ◌+◌, ◌/◌, ◌%◌, cond, List, [], ◌∷◌, ◌++◌, ltb}

-- a number's last digit, after the digits of its tenth if there are more; the first argument bounds how many are in front
unfoldable pub decimal_within : ℕ → ℕ → List ℕ
decimal_within zero n = (48 + n % 10) ∷ []
decimal_within (suc k) n = cond (ltb n 10) [] (decimal_within k (n / 10)) ++ ((48 + n % 10) ∷ [])

-- a number in decimal digits, without zeros in front
unfoldable pub decimal_of : ℕ → List ℕ
decimal_of n = decimal_within n n

-- words with single spaces between them, ended by a newline
unfoldable pub line_of_words : List ℕ → List (List ℕ) → List ℕ
line_of_words w [] = w ++ (10 ∷ [])
line_of_words w (v ∷ vs) = w ++ (32 ∷ []) ++ line_of_words v vs
