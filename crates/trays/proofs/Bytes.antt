-- The bytes of a record, and the record of a node under its identifier.
use Prim.Native.Nat.{ℕ, ◌+◌, ◌≤◌, ◌<◌}
use mathlib.Core.Path.{◌≡◌, sym, ap, ◌∙◌, subst}
use mathlib.Core.Bool.{Bool, true, false, cond}
use Rattle.std.specs.Int.{from_bool}
use mathlib.Core.List.{List, [], ◌∷◌, ◌++◌, append_assoc, append-nil}
use mathlib.Core.Logic.{◌⊎◌, inl, inr}
use native.Mathlib.Omega.{arith}
use native.Mathlib.Numerals.{add-one}
use lib.ListN.{length, take}
use lib.Seq.{take-suc}
use Rattle.definition.specs.Limits.{most_identifiers}
use Rattle.definition.specs.Lists.{Each, concat_map}
use Rattle.definition.proofs.Call.Trays.{node_length_lem}
use Rattle.definition.specs.Records.{Kind, Rec, Atomic, Non, And, Or, Imply, BiImply, StrictImply, Possible, Necessary, Unknown, Comment, number_of}
use Rattle.definition.specs.Tree.{Node, place_number, is_contradictory, node_at}
use Rattle.definition.specs.Trays.{two, node_bytes, record_bytes}
use Rattle.definition.proofs.Basics.Lists.{each_get}
use Rattle.definition.proofs.Tree.Nodes.{blank}
use Rattle.tree.specs.Sequence.{id_at}
use Rattle.tree.proofs.Sequence.{id_fits}
use Rattle.slices.specs.Written.{Written, Puts}
use Rattle.slices.proofs.Writing.{written_none, puts_then, puts_as}

-- the parts of a list with one element more
rows_snoc : {A : Type 0} (row : A → List ℕ) (xs : List A) (x : A) → concat_map row (xs ++ (x ∷ [])) ≡ concat_map row xs ++ row x
rows_snoc row [] x = append-nil (row x)
rows_snoc row (y ∷ xs) x = ap (λ (l : List ℕ). row y ++ l) (rows_snoc row xs x) ∙ sym (append_assoc (row y) (concat_map row xs) (row x))

pub number_low : (k : Kind) → number_of k < 256
unfolding number_of
number_low Atomic = omega arith
number_low Non = omega arith
number_low And = omega arith
number_low Or = omega arith
number_low Imply = omega arith
number_low BiImply = omega arith
number_low StrictImply = omega arith
number_low Possible = omega arith
number_low Necessary = omega arith
number_low Unknown = omega arith
number_low Comment = omega arith

pub bit_of : (x : Bool) {b : ℕ} → b ≡ from_bool x → (b ≡ cond x 1 0) × (b ≤ 1)
bit_of true e = (e, omega arith)
bit_of false e = (e, omega arith)

pub node_bytes_lem : (x : Node) {parent place world formula spawner contrarian bit : ℕ} →
    parent ≡ x.parent → place ≡ place_number x.place → world ≡ x.world → formula ≡ x.formula → spawner ≡ x.spawner → contrarian ≡ x.contrarian → bit ≡ cond (is_contradictory x) 1 0 →
    two parent ++ (place ∷ world ∷ []) ++ two formula ++ two spawner ++ two contrarian ++ (bit ∷ 0 ∷ []) ≡ node_bytes x
unfolding node_bytes
node_bytes_lem x a b c d e f g = rw (a, b, c, d, e, f, g)

pub record_bytes_lem : (r : Rec) {kind mark left right : ℕ} → kind ≡ number_of r.kind → mark ≡ r.mark → left ≡ r.left → right ≡ r.right →
    (kind ∷ mark ∷ []) ++ two left ++ two right ≡ record_bytes r
unfolding record_bytes
record_bytes_lem r a b c d = rw (a, b, c, d)

-- node i, under the identifier that the sequence has for it
pub node_put : (ns : List Node) {x i at next : ℕ} {a b : List ℕ} → x ≡ id_at i → i < most_identifiers → Each (λ (n : Node). n.world < 256) ns → i < length ns
    → ((node_at ns x).world < 256 → Puts (node_bytes (node_at ns x)) at a next b) → Puts (node_bytes (node_at ns i)) at a next b
node_put ns {x} {i} {at} {next} {a} {b} e few worlds low f =
    let same = e ∙ id_fits i few in
    let here = each_get (λ (n : Node). n.world < 256) ns blank worlds i (λ g. absurd (omega (arith, g, low))) in
    subst (λ (k : ℕ). Puts (node_bytes (node_at ns k)) at a next b) same (f (subst (λ (k : ℕ). (node_at ns k).world < 256) (sym same) here))

-- the records of the first i nodes, and that of node i
pub puts_more : (ns : List Node) (i : ℕ) {at next last : ℕ} {a b c : List ℕ} → i < length ns → Puts (concat_map node_bytes (take i ns)) at a next b → Puts (node_bytes (node_at ns i)) next b last c
    → Puts (concat_map node_bytes (take (i + 1) ns)) at a last c
puts_more ns i h p q =
    puts_as (sym (ap (λ (k : ℕ). concat_map node_bytes (take k ns)) (add-one i) ∙ ap (concat_map node_bytes) (take-suc ns i blank h) ∙ rows_snoc node_bytes (take i ns) (node_at ns i)))
    (puts_then p q)

-- all bytes of a tray that was lent from its start, and is handed back as `given`
pub puts_given : {bs lent t u given : List ℕ} {at last : ℕ} → Puts bs at t last u → at ≡ 0 → t ≡ lent → length bs ≤ length lent → given ≡ u → Written lent bs last given
puts_given {bs} {lent} {t} {u} {given} {at} {last} p z same room e =
    rw e (p.puts lent [] (rw (z, same) (written_none lent)) (omega arith))

-- a tray that is long enough, and a count within the limit
pub not_kept : {A : Type 0} {long need count most : ℕ} → need ≤ long → count ≤ most → (long < need) ⊎ (most < count) → A
not_kept h g (inl k) = absurd (omega arith)
not_kept h g (inr k) = absurd (omega arith)
