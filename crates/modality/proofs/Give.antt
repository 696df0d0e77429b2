-- Worlds that are kept, leaves that are kept, and nodes that are made for worlds that are kept.
use Prim.Native.Nat.{ℕ, ◌<◌, ◌≤◌}
use mathlib.Core.Path.{◌≡◌, refl, sym, ap, ◌∙◌}
use mathlib.Core.Bool.{Bool, false, not, ◌&&◌}
use mathlib.Core.List.{List, [], ◌∷◌, ◌++◌, map, append_assoc}
use native.Mathlib.Omega.{arith}
use lib.Dec.{ltb}
use borrow.Author.Tests.{lt-ltb, le-ltb}
use Rattle.bits.specs.Bits.{bit_of}
use Rattle.bits.specs.Worlds.{set_below, worlds_in}
use Rattle.bits.proofs.Words.{no_bit}
use Rattle.bits.proofs.Worlds.{worlds_as}
use Rattle.definition.specs.Lists.{elem, filter, below}
use Rattle.definition.specs.Graph.{Graph, edge, reached}
use Rattle.definition.specs.Tree.{Node, path}
use Rattle.definition.specs.Modality.{Necessity, runs_through, unvisited}
use Rattle.tree.specs.declared.ProofTreeNode.{ProofTreeNode}
use Rattle.tree.specs.Lay.{Held}
use Rattle.modality.proofs.Lists.{filter_both, filter_no}

-- ---- what is kept
abbrev pub fresh : Graph → ℕ → List ℕ → ℕ → Bool
fresh g u l v = edge g u v && not (elem v l)

pub unvisited_by : (g : Graph) (n : Necessity) (u w : ℕ) → n.world ≡ u → w ≡ g.worlds → filter (fresh g u n.visited) (below w) ≡ unvisited g n
unfolding unvisited reached
unvisited_by g n u w e f =
    ap (λ (x : ℕ). filter (fresh g x n.visited) (below w)) (sym e)
    ∙ ap (λ (x : ℕ). filter (fresh g n.world n.visited) (below x)) f
    ∙ filter_both (λ v. not (elem v n.visited)) (edge g n.world) (below g.worlds)

-- of a world that reaches none
pub unvisited_none : (g : Graph) (n : Necessity) (u : ℕ) → n.world ≡ u → ((v : ℕ) → edge g u v ≡ false) → unvisited g n ≡ []
unvisited_none g n u e h = sym (unvisited_by g n u g.worlds e refl) ∙ filter_no (fresh g u n.visited) (λ v. rw (h v)) (below g.worlds)

abbrev pub through : List Node → Necessity → ℕ → Bool
through t n leaf = runs_through n (path t leaf)

-- ---- a loop that sets the bits of the worlds that pass the test
abbrev pub Marks : (ℕ → Bool) → ℕ → ℕ → Type 0
Marks q v word = (k : ℕ) → k < 32 → bit_of word k ≡ (ltb k v && q k)

pub marks_none : (q : ℕ → Bool) → Marks q 0 0
marks_none q k h = no_bit k ∙ rw (le-ltb k 0 (omega arith)) refl

pub marks_all : (q : ℕ → Bool) (n v word : ℕ) → n ≤ 32 → n ≤ v → v ≤ n → Marks q v word → worlds_in word ≡ filter q (below n)
marks_all q n v word few past up marked = let e : v ≡ n = omega (arith, past, up) in worlds_as q word n few (λ k h. rw (← e) (marked k h))

-- ---- a loop that makes a node for each world of a word that passes the test, after the nodes ns
pub worlds_both : (p : ℕ → Bool) (worlds here both : ℕ) → ((k : ℕ) → bit_of both k ≡ (bit_of worlds k && bit_of here k)) → ((v : ℕ) → v < 32 → bit_of here v ≡ p v) → worlds_in both ≡ filter p (worlds_in worlds)
unfolding worlds_in set_below
worlds_both p worlds here both common has =
    worlds_as (λ v. bit_of worlds v && p v) both 32 (omega arith) (λ k h. common k ∙ rw (has k h, lt-ltb k 32 h) refl) ∙ filter_both p (bit_of worlds) (below 32)

-- what is made, and what the worlds of the rest still give
pub record Making (f : ℕ → Node) (goal : List Node) (rest : List ℕ) (len : ℕ) (a : List ProofTreeNode) : Type 0 where
  pub made : List Node
  pub held : Held made len a
  pub left : made ++ map f rest ≡ goal

pub make_start : (f : ℕ → Node) (ns : List Node) {ws rest : List ℕ} {len : ℕ} {a : List ProofTreeNode} → rest ≡ ws → Held ns len a → Making f (ns ++ map f ws) rest len a
make_start f ns e h = record { made = ns; held = h; left = ap (λ (l : List ℕ). ns ++ map f l) e }

module _ {f : ℕ → Node} {goal : List Node} {rest : List ℕ} {len : ℕ} {a : List ProofTreeNode} (m : Making f goal rest len a) where
  pub make_next : {v : ℕ} {vs : List ℕ} {n : ℕ} {b : List ProofTreeNode} → rest ≡ v ∷ vs → ((ms : List Node) → Held ms len a → Held (ms ++ (f v ∷ [])) n b) → Making f goal vs n b
  make_next {v} {vs} e one =
      record {
        made = m.made ++ (f v ∷ []);
        held = one m.made m.held;
        left = append_assoc m.made (f v ∷ []) (map f vs) ∙ ap (λ (l : List ℕ). m.made ++ map f l) (sym e) ∙ m.left;
      }
