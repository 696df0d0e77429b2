-- Reads and stores of the table's entries.
use Prim.Native.Nat.{ℕ, zero, suc, ◌-◌, ◌<◌, ◌≤◌}
use mathlib.Core.Path.{◌≡◌, refl, sym, ap, ◌∙◌}
use mathlib.Core.List.{List, [], ◌∷◌, ◌++◌, map}
use native.Mathlib.Omega.{arith}
use lib.ListN.{length, get_or, set, replicate, length-append, length-map, length-set, length-replicate}
use Rattle.definition.specs.Limits.{most_identifiers}
use Rattle.definition.specs.Tree.{Node, node_at}
use Rattle.definition.proofs.Tree.Nodes as D
use Rattle.tree.specs.declared.ProofTreeNode.{ProofTreeNode}
use Rattle.tree.specs.Lay.{stored, blank, lay, Lays}

-- ---- reads
-- beyond the nodes all entries are blank
blanks : (k i : ℕ) → get_or (replicate k blank) i blank ≡ blank
blanks zero i = refl
blanks (suc k) zero = refl
blanks (suc k) (suc i) = blanks k i

then_blanks : (ns : List Node) (k i : ℕ) → get_or (map stored ns ++ replicate k blank) i blank ≡ stored (node_at ns i)
then_blanks [] k i = blanks k i
then_blanks (n ∷ ns) k zero = refl
then_blanks (n ∷ ns) k (suc i) = then_blanks ns k i

pub lay_length : (ns : List Node) → length ns ≤ most_identifiers → length (lay ns) ≡ most_identifiers
unfolding lay
lay_length ns h = simp (length-append, length-map, length-replicate) (omega arith)

-- within a list it does not matter what would be read beyond it
within : (l : List ProofTreeNode) (i : ℕ) (d e : ProofTreeNode) → i < length l → get_or l i d ≡ get_or l i e
within [] i d e h = absurd (omega arith)
within (x ∷ l) zero d e h = refl
within (x ∷ l) (suc i) d e h = within l i d e (omega arith)

read_lay : (ns : List Node) (i : ℕ) → get_or (lay ns) i blank ≡ stored (node_at ns i)
unfolding lay
read_lay ns i = then_blanks ns (most_identifiers - length ns) i

pub read_at : (ns : List Node) {a : List ProofTreeNode} (i : ℕ) (d : ProofTreeNode) → Lays ns a → i < most_identifiers → get_or a i d ≡ stored (node_at ns i)
read_at ns i d z h =
    ap (λ (l : List ProofTreeNode). get_or l i d) z.laid ∙ within (lay ns) i d blank (omega (arith, lay_length ns z.fits)) ∙ read_lay ns i

-- ---- stores
stored_at : (ns : List Node) (rest : List ProofTreeNode) (i : ℕ) (m : Node) → i < length ns → set (map stored ns ++ rest) i (stored m) ≡ map stored (set ns i m) ++ rest
stored_at [] rest i m h = absurd (omega arith)
stored_at (n ∷ ns) rest zero m h = refl
stored_at (n ∷ ns) rest (suc i) m h = ap (λ (l : List ProofTreeNode). stored n ∷ l) (stored_at ns rest i m (omega arith))

pub lay_set : (ns : List Node) (i : ℕ) (m : Node) → i < length ns → set (lay ns) i (stored m) ≡ lay (set ns i m)
unfolding lay
lay_set ns i m h =
    stored_at ns (replicate (most_identifiers - length ns) blank) i m h
    ∙ ap (λ (k : ℕ). map stored (set ns i m) ++ replicate (most_identifiers - k) blank) (sym (length-set ns i m))

-- ---- a node more
one_more : (ns : List Node) (n : Node) (k : ℕ) → stored n ≡ blank → map stored ns ++ replicate (suc k) blank ≡ map stored (ns ++ (n ∷ [])) ++ replicate k blank
one_more [] n k e = ap (λ (x : ProofTreeNode). x ∷ replicate k blank) (sym e)
one_more (x ∷ ns) n k e = ap (λ (l : List ProofTreeNode). stored x ∷ l) (one_more ns n k e)

-- the entry of a number that has no node is there already
pub lay_blank : (ns : List Node) → length ns < most_identifiers → lay ns ≡ lay (ns ++ (D.blank ∷ []))
unfolding lay
lay_blank ns h =
    let k = most_identifiers - length (ns ++ (D.blank ∷ [])) in
    let e : most_identifiers - length ns ≡ suc k = omega (arith, length-append ns (D.blank ∷ [])) in
    ap (λ (j : ℕ). map stored ns ++ replicate j blank) e ∙ one_more ns D.blank k refl
