-- What is read from the bytes of a line.
use Rattle.std.specs.Prelude.{Bool, cond, ◌&&◌, ◌||◌, List, [], ◌∷◌, map, ℕ, zero, suc, Option, Some, None, option_and_then, unwrap_or, ◌+◌, ◌-◌, ◌*◌, ◌/◌, min, eqb, leb, ltb, length, get_or, drop}
use Rattle.std.specs.List.{list_all, range_with_len}
use Rattle.definition.specs.Lists.{empty, below}

-- every number from a to below b passes
unfoldable pub between : (ℕ → Bool) → ℕ → ℕ → Bool
between p a b = list_all p (range_with_len a (b - a))

-- bytes i and i + 1 as a number, the low byte first; beyond the end they are 0
unfoldable pub two_at : List ℕ → ℕ → ℕ
two_at s i = get_or s i 0 + 256 * get_or s (i + 1) 0

-- the bytes from a to below b have a value
unfoldable pub filled : List ℕ → ℕ → ℕ → ℕ → Bool
filled s a b value = between (λ i. eqb (get_or s i 0) value) a b

-- s begins with t
unfoldable pub begins_with : List ℕ → List ℕ → Bool
begins_with s t = between (λ i. eqb (get_or s i 0) (get_or t i 0)) 0 (length t)

-- the bytes before the first space
unfoldable pub word : List ℕ → List ℕ
word [] = []
word (b ∷ bs) = let rest = word bs in cond (eqb b 32) [] (b ∷ rest)

-- where the word that starts at i ends
unfoldable pub end_of : List ℕ → ℕ → ℕ
end_of line i = i + length (word (drop i line))

-- how many bytes stand before word k, which comes after k spaces; all of them if there is no such word
unfoldable pub start_of : List ℕ → ℕ → ℕ
start_of [] k = 0
start_of (b ∷ bs) k = let rest = start_of bs (k - cond (eqb b 32) 1 0) in cond (eqb k 0) 0 (suc rest)

-- word k
unfoldable pub word_at : List ℕ → ℕ → List ℕ
word_at line k = word (drop (start_of line k) line)

-- the value of a hexadecimal digit
unfoldable pub hex_digit : ℕ → Option ℕ
hex_digit b = cond (leb 48 b && leb b 57) (Some (b - 48)) (cond (leb 97 b && leb b 102) (Some (b - 97 + 10)) None)

-- a digit more of a decimal number: none if it is no decimal digit or the number would not be below a million
unfoldable pub decimal_next : ℕ → Option ℕ → Option ℕ
decimal_next n None = None
decimal_next n (Some d) = cond (ltb 9 d || ltb 99999 n) None (Some (10 * n + d))

-- the number whose first digits are n's and whose others are the bytes
unfoldable pub decimal_after : ℕ → List ℕ → Option ℕ
decimal_after n [] = Some n
decimal_after n (b ∷ bs) = option_and_then (λ m. decimal_after m bs) (decimal_next n (hex_digit b))

-- word k as a decimal number
unfoldable pub number_of : List ℕ → ℕ → Option ℕ
number_of line k = cond (empty (word_at line k)) None (decimal_after 0 (word_at line k))

-- n, then k hexadecimal digits
unfoldable pub hex_after : ℕ → ℕ → List ℕ → Option ℕ
hex_after zero n bs = Some n
hex_after (suc k) n [] = None
hex_after (suc k) n (b ∷ bs) = option_and_then (λ d. hex_after k (16 * n + d) bs) (hex_digit b)

-- the byte written at i by two hexadecimal digits; what is no digit counts as 0
unfoldable pub hex_byte : List ℕ → ℕ → ℕ
hex_byte line i = 16 * unwrap_or (hex_digit (get_or line i 0)) 0 + unwrap_or (hex_digit (get_or line (i + 1) 0)) 0

-- how many bytes are written from one position to another: one for each two digits, and one for a digit that is left over
unfoldable pub written : List ℕ → ℕ → ℕ → ℕ
written line from to = (min to (length line) - from + 1) / 2

-- the first n bytes that are written from a position on
unfoldable pub decoded : List ℕ → ℕ → ℕ → List ℕ
decoded line from n = map (λ k. hex_byte line (from + 2 * k)) (below n)
