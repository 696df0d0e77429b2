-- Refusals 1 to 11: each with its place, and each beside the next check where both can apply.
use Rattle.std.specs.Prelude.{◌≡◌, List, [], ◌∷◌, ◌++◌, map, ℕ, ◌-◌, replicate, drop}
use Rattle.definition.specs.Limits.{node_tray_length, formula_tray_length, edge_tray_length}
use Rattle.definition.specs.Lists.{up_from}
use Rattle.definition.specs.Checks.{Lengths}
use Rattle.definition.specs.Setting.{setting_of}
use Rattle.definition.specs.Call.{refusal, answer_of, outcome}
use Rattle.definition.specs.Cases.{rec, bytes}

pub record Bad : Type 0 where
  pub records : List (List ℕ)
  pub flags : ℕ
  pub lent : Lengths
  pub number : ℕ
  pub place : ℕ

abbrev pub bad : List (List ℕ) → ℕ → Lengths → ℕ → ℕ → Bad
bad rs f l n i = record { records = rs; flags = f; lent = l; number = n; place = i }

-- trays of the paper's lengths
abbrev pub exactly : Lengths
exactly = record { nodes = node_tray_length; formulas = formula_tray_length; edges = edge_tray_length }

-- trays of which one is a number too short
abbrev pub short_nodes : Lengths
short_nodes = record { nodes = node_tray_length - 1; formulas = formula_tray_length; edges = edge_tray_length }

abbrev pub short_formulas : Lengths
short_formulas = record { nodes = node_tray_length; formulas = formula_tray_length - 1; edges = edge_tray_length }

abbrev pub short_edges : Lengths
short_edges = record { nodes = node_tray_length; formulas = formula_tray_length; edges = edge_tray_length - 1 }

abbrev pub marked : List ℕ
marked = rec 0 1 0 0

-- an atom and Ands of the record before with itself: sizes 1, 3, 7, .. up to 4,095 at record 11
abbrev pub doubling : ℕ → List (List ℕ)
doubling n = rec 0 1 0 0 ∷ map (λ i. rec 2 0 i i) (up_from n 0)

abbrev pub table : List Bad
table =
    bad (marked ∷ (0 ∷ []) ∷ []) 0 exactly 1 0
    ∷ bad ((0 ∷ []) ∷ []) 16 short_nodes 1 0
    ∷ bad [] 0 exactly 2 0
    ∷ bad [] 16 short_edges 2 0
    ∷ bad (replicate 257 marked) 0 exactly 3 0
    ∷ bad (replicate 257 marked ++ ((0 ∷ []) ∷ [])) 0 exactly 1 0
    ∷ bad (replicate 257 marked) 16 exactly 3 0
    ∷ bad (marked ∷ []) 16 exactly 4 0
    ∷ bad (marked ∷ []) 255 short_formulas 4 0
    ∷ bad (marked ∷ []) 15 short_nodes 5 0
    ∷ bad (marked ∷ []) 0 short_formulas 5 0
    ∷ bad (rec 9 1 0 0 ∷ []) 0 short_edges 5 0
    ∷ bad (marked ∷ rec 9 1 0 0 ∷ []) 0 exactly 6 1
    ∷ bad (marked ∷ marked ∷ rec 255 2 0 7 ∷ []) 0 exactly 6 2
    ∷ bad (marked ∷ rec 1 2 0 0 ∷ []) 0 exactly 7 1
    ∷ bad (rec 0 1 0 1 ∷ []) 0 exactly 7 0
    ∷ bad (marked ∷ rec 8 1 0 3 ∷ []) 0 exactly 7 1
    ∷ bad (marked ∷ rec 2 2 1 1 ∷ []) 0 exactly 7 1
    ∷ bad (rec 1 1 0 0 ∷ []) 0 exactly 8 0
    ∷ bad (marked ∷ rec 3 0 0 1 ∷ []) 0 exactly 8 1
    ∷ bad (doubling 11 ++ (rec 1 0 11 0 ∷ rec 2 0 12 13 ∷ [])) 0 exactly 8 13
    ∷ bad (doubling 12) 0 exactly 9 12
    ∷ bad (doubling 12 ++ (rec 9 0 0 0 ∷ [])) 0 exactly 9 12
    ∷ bad (rec 0 0 0 0 ∷ drop 1 (doubling 12)) 0 exactly 9 12
    ∷ bad (rec 0 0 0 0 ∷ rec 9 0 0 0 ∷ []) 0 exactly 6 1
    ∷ bad (rec 0 0 0 0 ∷ rec 1 0 0 0 ∷ []) 0 exactly 10 0
    ∷ bad (replicate 65 marked) 0 exactly 11 0
    ∷ []

abbrev pub Refusals : Type 0
Refusals = map (λ (b : Bad). answer_of (setting_of b.flags) (outcome (bytes b.records) b.flags b.lent)) table ≡ map (λ (b : Bad). refusal b.number b.place) table
