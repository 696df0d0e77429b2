-- "Starred cases are the table to prove": one table, and one claim over it.
use Rattle.std.specs.Prelude.{◌≡◌, Bool, true, false, cond, List, [], ◌∷◌, ◌++◌, map, ℕ, suc, ◌*◌, ◌-◌, replicate}
use Rattle.definition.specs.Limits.{record_length, node_length, node_tray_length, formula_tray_length, edge_tray_length}
use Rattle.definition.specs.Lists.{concat_map}
use Rattle.definition.specs.Checks.{Lengths, LongEnough}
use Rattle.definition.specs.Tree.{Node, is_contradictory}
use Rattle.definition.specs.Trays.{Trays, laid_over}
use Rattle.definition.specs.Call.{Outcome, Refused, Full, Ended, outcome, Answer, refusal, verdict, answer, lengths_of, trays_left}

-- what enters, what is answered, and the contradictory nodes, each with its contrarian. The paper says the verdict of each case, and of some
-- counts and marks; the others follow from its rules by hand
pub record Case : Type 0 where
  pub records : List (List ℕ)
  pub flags : ℕ
  pub answered : Answer
  pub contradictory : List ℕ

abbrev pub bytes : List (List ℕ) → List ℕ
bytes = concat_map (λ r. r)

-- a record by its kind, mark and fields below 256
abbrev pub rec : ℕ → ℕ → ℕ → ℕ → List ℕ
rec k m a b = k ∷ m ∷ a ∷ 0 ∷ b ∷ 0 ∷ []

-- "Necessary p, Non p"
abbrev pub listing : List (List ℕ)
listing = rec 0 0 0 0 ∷ rec 8 1 0 0 ∷ rec 1 1 0 0 ∷ []

-- "p, Non p"
abbrev pub clash : List (List ℕ)
clash = rec 0 1 0 0 ∷ rec 1 1 0 0 ∷ []

-- "Necessary q, Non q, Or of Possible p and r"
abbrev pub dead_end : List (List ℕ)
dead_end = rec 0 0 0 0 ∷ rec 8 1 0 0 ∷ rec 1 1 0 0 ∷ rec 0 0 1 0 ∷ rec 7 0 3 0 ∷ rec 0 0 2 0 ∷ rec 3 1 4 5 ∷ []

-- proved, and the counts of identifiers, formulas, worlds and steps; none of them is late
abbrev pub ends : Bool → ℕ → ℕ → ℕ → ℕ → Answer
ends p i f w s = verdict (record { proved = p; late = false; identifiers = i; formulas = f; worlds = w; steps = s })

abbrev pub case : List (List ℕ) → ℕ → Answer → List ℕ → Case
case rs n a c = record { records = rs; flags = n; answered = a; contradictory = c }

abbrev pub table : List Case
table =
    case listing 0 (ends false 2 3 1 2) []
    ∷ case listing 1 (ends true 3 3 1 1) (2 ∷ 1 ∷ [])
    ∷ case clash 0 (ends true 2 2 0 0) (1 ∷ 0 ∷ [])
    ∷ case clash 8 (ends false 2 2 0 2) []
    ∷ case (rec 0 1 0 0 ∷ []) 0 (ends false 1 1 0 1) []
    ∷ case [] 0 (refusal 2 0) []
    ∷ case (rec 0 1 0 0 ∷ (0 ∷ []) ∷ []) 0 (refusal 1 0) []
    ∷ case (rec 0 1 0 0 ∷ []) 16 (refusal 4 0) []
    ∷ case (rec 0 0 0 0 ∷ rec 8 1 0 0 ∷ rec 1 0 0 0 ∷ rec 7 1 2 0 ∷ []) 0 (ends true 5 4 2 2) (4 ∷ 2 ∷ [])
    ∷ case dead_end 6 (ends true 10 7 2 3) (7 ∷ 1 ∷ 9 ∷ 1 ∷ [])
    ∷ []

-- node i and its contrarian, for each contradictory node from i on
unfoldable pub contradictory_from : ℕ → List Node → List ℕ
contradictory_from i [] = []
contradictory_from i (x ∷ xs) = cond (is_contradictory x) (i ∷ x.contrarian ∷ []) [] ++ contradictory_from (suc i) xs

unfoldable pub contradictory_in : Outcome → List ℕ
contradictory_in (Refused c) = []
contradictory_in Full = []
contradictory_in (Ended s) = contradictory_from 0 s.nodes

-- the call on each case of the table, with any trays that are long enough
pub record Starred : Type 0 where
  pub answers : (lent : Trays) → LongEnough (lengths_of lent) → map (λ (c : Case). answer (bytes c.records) c.flags lent) table ≡ map (λ (c : Case). c.answered) table
  pub marked : (lent : Lengths) → LongEnough lent → map (λ (c : Case). contradictory_in (outcome (bytes c.records) c.flags lent)) table ≡ map (λ (c : Case). c.contradictory) table

-- what is written of the trays for the listing with flags 1, byte by byte: three nodes, three formulas, one edge
abbrev pub listing_trays : Trays
listing_trays =
    record {
      nodes =
          (255 ∷ 255 ∷ 0 ∷ 0 ∷ 1 ∷ 0 ∷ 255 ∷ 255 ∷ 255 ∷ 255 ∷ 0 ∷ 0 ∷ [])
          ++ (0 ∷ 0 ∷ 2 ∷ 0 ∷ 2 ∷ 0 ∷ 255 ∷ 255 ∷ 255 ∷ 255 ∷ 0 ∷ 0 ∷ [])
          ++ (1 ∷ 0 ∷ 2 ∷ 0 ∷ 0 ∷ 0 ∷ 0 ∷ 0 ∷ 1 ∷ 0 ∷ 1 ∷ 0 ∷ [])
          ++ replicate (node_tray_length - 3 * node_length) 0;
      formulas = rec 0 0 0 0 ++ (rec 8 1 0 0 ++ (rec 1 1 0 0 ++ replicate (formula_tray_length - 3 * record_length) 0));
      edges = 1 ∷ replicate (edge_tray_length - 1) 0;
    }

abbrev pub ListingTrays : Type 0
ListingTrays = (lent : Trays) → LongEnough (lengths_of lent) → trays_left (bytes listing) 1 lent ≡ laid_over listing_trays lent
