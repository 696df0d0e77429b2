-- "Models": finite Kripke models, and truth at a world.
use Rattle.std.specs.Prelude.{Bool, true, not, ◌&&◌, ◌||◌, ◌≡◌, ℕ, ◌<◌}
use Rattle.std.specs.Bool.{beq}
use Rattle.definition.specs.Lists.{any, all, below}
use Rattle.definition.specs.Setting.{Setting}
use Rattle.definition.specs.Formula.{Form, atom, non, and, or, imply, bi_imply, strict_imply, possible, necessary}

-- "Finitely many worlds", the numbers below size; "a set of pairs of them"; "a truth value per world and atom number".
-- "At least one": whoever names a world of the model has one
pub record Model : Type 0 where
  pub size : ℕ
  pub reach : ℕ → ℕ → Bool
  pub value : ℕ → ℕ → Bool

-- "Truth by Kripke"
unfoldable pub truth : Model → Form → ℕ → Bool
truth M (atom a) w = M.value w a
truth M (non p) w = not (truth M p w)
truth M (and p q) w = truth M p w && truth M q w
truth M (or p q) w = truth M p w || truth M q w
truth M (imply p q) w = not (truth M p w) || truth M q w
truth M (bi_imply p q) w = beq (truth M p w) (truth M q w)
truth M (strict_imply p q) w = all (λ v. not (M.reach w v) || (not (truth M p v) || truth M q v)) (below M.size)
truth M (possible p) w = any (λ v. M.reach w v && truth M p v) (below M.size)
truth M (necessary p) w = all (λ v. not (M.reach w v) || truth M p v) (below M.size)

-- "A model has the flagged properties if it has each one whose flag is set"
pub record Has (F : Setting) (M : Model) : Type 0 where
  pub reflexive : F.reflexive ≡ true → (u : ℕ) → u < M.size → M.reach u u ≡ true
  pub symmetric : F.symmetric ≡ true → (u v : ℕ) → u < M.size → v < M.size → M.reach u v ≡ true → M.reach v u ≡ true
  pub transitive :
      F.transitive ≡ true → (u v w : ℕ) → u < M.size → v < M.size → w < M.size →
      M.reach u v ≡ true → M.reach v w ≡ true → M.reach u w ≡ true
