-- The tokens of a text, the formula that each connective makes, and what binds how tightly.
use Rattle.std.specs.Prelude.{ℕ}
use Rattle.definition.specs.Formula.{Form, non, and, or, imply, bi_imply, strict_imply, possible, necessary}

-- "~, [] (Necessary) and <> (Possible)": the connectives of one formula, in this order
pub data Sign : Type 0 where
  Tilde Box Diamond : Sign

-- "then &, then |, then -> and => (strict) together, then <->": the connectives that stand between two formulas, in this order
pub data Joint : Type 0 where
  Ampersand Bar Arrow Double Both : Joint

-- "atoms are a0 to a65535": a name has the atom's number; "the brackets being ( and )"; "A newline ends a formula";
-- "a byte, name or cut-off token outside these rules is a token that can't continue": invalid
pub data Token : Type 0 where
  name : ℕ → Token
  sign : Sign → Token
  joint : Joint → Token
  opening closing newline invalid : Token

-- a sign before a formula
unfoldable pub signed : Sign → Form → Form
signed Tilde p = non p
signed Box p = necessary p
signed Diamond p = possible p

-- a joint between two
unfoldable pub joined : Joint → Form → Form → Form
joined Ampersand p q = and p q
joined Bar p q = or p q
joined Arrow p q = imply p q
joined Double p q = strict_imply p q
joined Both p q = bi_imply p q

-- "bind tightest, then &, then |, then -> and => (strict) together, then <->": the level of a joint, the smaller the tighter; level 0 has no joint:
-- there stand atoms, signs and brackets
unfoldable pub level : Joint → ℕ
level Ampersand = 1
level Bar = 2
level Arrow = 3
level Double = 3
level Both = 4

-- the level of a whole formula: any joint may stand in it
abbrev pub loosest : ℕ
loosest = 4

-- "& and | group to the left, the arrows to the right"; <-> is an arrow too
pub data Side : Type 0 where
  leftward rightward : Side

unfoldable pub side : Joint → Side
side Ampersand = leftward
side Bar = leftward
side Arrow = rightward
side Double = rightward
side Both = rightward
