-- A kind is known by its number, and marked records by theirs.
use mathlib.Core.Path.{◌≡◌, refl, sym, ap, ◌∙◌}
use mathlib.Core.List.{List, [], ◌∷◌}
use Prim.Native.Nat.{ℕ, suc, ◌<◌, ◌+◌}
use native.Mathlib.Omega.{arith}
use lib.Dec.{eqb}
use lib.ListN.{length, get_or}
use Rattle.definition.specs.Lists.{Each}
use Rattle.definition.specs.Records.{Rec, marks_from, Kind, Atomic, Non, And, Or, Imply, BiImply, StrictImply, Possible, Necessary, Unknown, Comment, number_of}
use Rattle.definition.proofs.Basics.Lists.{cond_both, each_map}

-- the kind of a number, 9 and 10 with the others
abbrev kind_back : ℕ → Kind
kind_back n = get_or (Atomic ∷ Non ∷ And ∷ Or ∷ Imply ∷ BiImply ∷ StrictImply ∷ Possible ∷ Necessary ∷ Unknown ∷ []) n Comment

kind_back_lem : (k : Kind) → kind_back (number_of k) ≡ k
unfolding number_of
kind_back_lem Atomic = refl
kind_back_lem Non = refl
kind_back_lem And = refl
kind_back_lem Or = refl
kind_back_lem Imply = refl
kind_back_lem BiImply = refl
kind_back_lem StrictImply = refl
kind_back_lem Possible = refl
kind_back_lem Necessary = refl
kind_back_lem Unknown = refl
kind_back_lem Comment = refl

-- two kinds of one number are one kind
pub same_kind : (k l : Kind) → number_of k ≡ number_of l → k ≡ l
same_kind k l e = sym (kind_back_lem k) ∙ ap kind_back e ∙ kind_back_lem l

-- the numbers of marked records are numbers of records
pub marks_known : (rs : List Rec) (i : ℕ) → Each (λ f. f < i + length rs) (marks_from i rs)
unfolding marks_from
marks_known [] i = tt
marks_known (r ∷ rs) i =
    let rest : Each (λ f. f < i + suc (length rs)) (marks_from (suc i) rs) =
    each_map (λ f (a : f < suc i + length rs). omega arith) (marks_from (suc i) rs) (marks_known rs (suc i)) in
    cond_both (Each (λ f. f < i + suc (length rs))) (eqb r.mark 1) (i ∷ marks_from (suc i) rs) (marks_from (suc i) rs) (omega arith, rest) rest
