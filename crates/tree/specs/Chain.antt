-- A chain of identifiers: `count` numbers from `start` on, top first if rising, else bottom first.
use Rattle.std.specs.Prelude.{ℕ, ◌+◌, ◌≤◌, ◌≡◌, true, false, cond, List, reverse, ◌⊎◌}
use Rattle.definition.specs.Limits.{most_identifiers}
use Rattle.definition.specs.Lists.{up_from}
use Rattle.tree.specs.declared.Chain.{Chain}

unfoldable pub chain_of : Chain → List ℕ
chain_of c = cond c.rising (up_from c.count c.start.0) (reverse (up_from c.count c.start.0))

-- `count` identifiers from `start` on, the first on top; the last on top; none
abbrev pub rising_chain : ℕ → ℕ → Chain
rising_chain start count = record { start = record { 0 = start }; count = count; rising = true }

abbrev pub falling_chain : ℕ → ℕ → Chain
falling_chain start count = record { start = record { 0 = start }; count = count; rising = false }

abbrev pub empty_chain : Chain
empty_chain = rising_chain 0 0

-- each of them is below m
abbrev pub ChainBelow : Chain → ℕ → Type 0
ChainBelow c m = c.start.0 + c.count ≤ m

-- the numbers from lo on, up to hi, the first on top; a chain of none starts nowhere in particular
pub record Spans (c : Chain) (lo hi : ℕ) : Type 0 where
  pub rises : c.rising ≡ true
  pub ends : lo + c.count ≡ hi
  pub low : c.start.0 ≤ lo
  pub begins : (c.count ≡ 0) ⊎ (c.start.0 ≡ lo)

-- the identifiers drawn since lo were issued, up to the len that are issued now, where all fit
abbrev pub DrawnFrom : ℕ → Chain → ℕ → Type 0
DrawnFrom lo c len = len ≤ most_identifiers → Spans c lo len
