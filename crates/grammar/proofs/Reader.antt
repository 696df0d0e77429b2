-- The definitional reader over tokens: levels that call one another down to atoms, and brackets the loosest again. The first number only bounds how deep the calls go.
use mathlib.Core.Bool.{Bool, true, false}
use mathlib.Core.List.{List, [], ◌∷◌}
use Prim.Native.Nat.{ℕ, zero, suc}
use lib.Dec.{eqb}
use Rattle.definition.specs.Formula.{Form, atom}
use Rattle.grammar.specs.Tokens.{Token, name, sign, joint, opening, closing, newline, invalid, signed, joined, level, loosest, Side, leftward, rightward, side}

-- the formula read and the tokens left; or the tokens that can't go on; or the bound was met
pub data Res : Type 0 where
  ok : Form → List Token → Res
  stuck : List Token → Res
  spent : Res

abbrev pub and_then : Res → (Form → List Token → Res) → Res
and_then (ok p r) k = k p r
and_then (stuck r) k = stuck r
and_then spent k = spent

-- the closing bracket
abbrev pub closed : Form → List Token → Res
closed p [] = stuck []
closed p (name a ∷ ts) = stuck (name a ∷ ts)
closed p (sign s ∷ ts) = stuck (sign s ∷ ts)
closed p (joint j ∷ ts) = stuck (joint j ∷ ts)
closed p (opening ∷ ts) = stuck (opening ∷ ts)
closed p (closing ∷ ts) = ok p ts
closed p (newline ∷ ts) = stuck (newline ∷ ts)
closed p (invalid ∷ ts) = stuck (invalid ∷ ts)

-- whether a joint is of the level, and how it groups
abbrev pub choice : Bool → Side → Res → (Unit {0} → Res) → (Unit {0} → Res) → Res
choice false s stop goLeft goRight = stop
choice true leftward stop goLeft goRight = goLeft tt
choice true rightward stop goLeft goRight = goRight tt

unfoldable mutual
  -- a phrase of the level
  pub phrase : ℕ → ℕ → List Token → Res
  phrase zero l ts = spent
  phrase (suc n) zero [] = stuck []
  phrase (suc n) zero (name a ∷ ts) = ok (atom a) ts
  phrase (suc n) zero (sign s ∷ ts) = and_then (phrase n 0 ts) (λ p r. ok (signed s p) r)
  phrase (suc n) zero (opening ∷ ts) = and_then (phrase n loosest ts) closed
  phrase (suc n) zero (joint j ∷ ts) = stuck (joint j ∷ ts)
  phrase (suc n) zero (closing ∷ ts) = stuck (closing ∷ ts)
  phrase (suc n) zero (newline ∷ ts) = stuck (newline ∷ ts)
  phrase (suc n) zero (invalid ∷ ts) = stuck (invalid ∷ ts)
  phrase (suc n) (suc l) ts = and_then (phrase n l ts) (λ p r. more n l p r)

  -- what follows a phrase p that is read, at the level l + 1
  pub more : ℕ → ℕ → Form → List Token → Res
  more zero l p ts = spent
  more (suc n) l p [] = ok p []
  more (suc n) l p (joint j ∷ ts) =
      choice (eqb (level j) (suc l)) (side j) (ok p (joint j ∷ ts))
      (λ _. and_then (phrase n l ts) (λ q r. more n l (joined j p q) r))
      (λ _. and_then (phrase n (suc l) ts) (λ q r. ok (joined j p q) r))
  more (suc n) l p (name a ∷ ts) = ok p (name a ∷ ts)
  more (suc n) l p (sign s ∷ ts) = ok p (sign s ∷ ts)
  more (suc n) l p (opening ∷ ts) = ok p (opening ∷ ts)
  more (suc n) l p (closing ∷ ts) = ok p (closing ∷ ts)
  more (suc n) l p (newline ∷ ts) = ok p (newline ∷ ts)
  more (suc n) l p (invalid ∷ ts) = ok p (invalid ∷ ts)
