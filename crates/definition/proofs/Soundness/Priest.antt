-- The rule chosen on records is Priest's rule of the formula, and the rules keep truth.
use mathlib.Core.Path.{◌≡◌, refl, sym, ap, ◌∙◌}
use mathlib.Core.Bool.{Bool, true, false, not, ◌&&◌, ◌||◌, cond, beq}
use mathlib.Core.List.{List, [], ◌∷◌, ◌++◌, map}
use mathlib.Core.Logic.{◌⊎◌, ⊎_elim, ⊎_map}
use Prim.Native.Nat.{ℕ, ◌<◌, ◌≤◌, ◌+◌}
use native.Mathlib.Omega.{arith}
use lib.Dec.{ltb}
use borrow.Author.Tests.{ltb-true, ltb-false, eqb-true}
use lib.ListN.{length, take, length-append, get_or-append, get_or-eq_default}
use lib.Seq.{get_or-append-add}
use Rattle.definition.specs.Lists.{Each, all, below}
use Rattle.definition.specs.Records.{nobody, is_nobody, Kind, Atomic, Non, And, Or, Imply, BiImply, StrictImply, Possible, Necessary, Unknown, Comment, Rec, number_of, arity, links, made, rec_at, formula_of}
use Rattle.definition.specs.Formula.{Form, atom, non, and, or, imply, bi_imply, strict_imply, possible, necessary, form_by, written, form_at}
use Rattle.definition.specs.Models.{Model, truth}
use Rattle.definition.specs.Rules.{Rule, nothing, down, split, as_possible, as_necessary, priest_non, priest, Expansion, makes, non_expansion, expansion_by, expansion, written_rule}
use Rattle.definition.proofs.Basics.Lists.{and_left, and_right, and_both, or_cases, not_true, either, cond_both, each_map, all_each, any_below, all_below, any_false_all, all_false_any, Full}
use Rattle.definition.proofs.Basics.Forms.{Linked, WellFormed, Numbered, numbered_of, wf_append, form_at_lem, form_append}

-- no side of a split is empty
abbrev pub Filled : Rule ℕ → Type 0
Filled nothing = Unit {0}
Filled (down fs) = Unit {0}
Filled (split fs gs) = Full fs × Full gs
Filled (as_possible f) = Unit {0}
Filled (as_necessary f) = Unit {0}

-- the numbers of a rule are below n
abbrev pub Known : ℕ → Rule ℕ → Type 0
Known n nothing = Unit {0}
Known n (down fs) = Each (λ f. f < n) fs
Known n (split fs gs) = Each (λ f. f < n) fs × Each (λ f. f < n) gs
Known n (as_possible f) = f < n
Known n (as_necessary f) = f < n

-- a record that fits its bytes, where record numbers are below n
abbrev pub Fit : ℕ → Rec → Type 0
Fit n r = (number_of r.kind ≤ 8) × (r.mark ≡ 0) × (r.left < n) × (r.right < n)

-- a record's formula, by those of its links
abbrev By : (ℕ → Form) → Rec → Form
By form r = form_by r.kind r.left (form r.left) (form r.right)

abbrev Writes : (ℕ → Form) → ℕ → Rec → Type 0
Writes form n r = form n ≡ By form r

-- an expansion whose next record is number m, by what is known of its links and of the forms; it writes out what rule says
record Good (m : ℕ) (Links : Type 0) (Forms : (ℕ → Form) → Type 0) (e : Expansion) (rule : (ℕ → Form) → Rule Form) : Type 0 where
  filled : Filled e.rule
  two : length e.made ≤ 2
  bound : Links → Numbered Linked m e.made × Each (Fit (m + 2)) e.made × Known (m + length e.made) e.rule
  table : (form : ℕ → Form) → Forms form → Numbered (Writes form) m e.made → written_rule form e.rule ≡ rule form

module _ (rs more : List Rec) (wf : WellFormed (rs ++ more)) where
  says : (i : ℕ) → i < length rs → Writes (form_at (rs ++ more)) i (rec_at rs i)
  unfolding written rec_at
  says i h = form_at_lem (rs ++ more) wf i (omega (arith, length-append rs more)) ∙ ap (By (form_at (rs ++ more))) (get_or-append rs more (made Unknown 0 0) i h)

  says_more : Numbered (Writes (form_at (rs ++ more))) (length rs) more
  unfolding written rec_at
  says_more = numbered_of (Writes (form_at (rs ++ more))) more (length rs)
      (λ j h. form_at_lem (rs ++ more) wf (length rs + j) (omega (arith, length-append rs more)) ∙ ap (By (form_at (rs ++ more))) (get_or-append-add rs more j (made Unknown 0 0)))

non_good : (k : Kind) (m p q : ℕ) →
    Good m (Each (λ l. l < m) (take (arity k) (p ∷ q ∷ []))) (λ form. Unit {0}) (non_expansion k m p q) (λ form. priest_non (form_by k p (form p) (form q)))
unfolding non_expansion priest_non form_by written_rule arity number_of
non_good Atomic m p q = record { filled = tt; two = omega arith; bound = λ h. search arith; table = λ form g h. cc }
non_good Non m p q = record { filled = tt; two = omega arith; bound = λ h. search arith; table = λ form g h. cc }
non_good And m p q = record { filled = (tt, tt); two = omega arith; bound = λ h. search arith; table = λ form g h. cc }
non_good Or m p q = record { filled = tt; two = omega arith; bound = λ h. search arith; table = λ form g h. cc }
non_good Imply m p q = record { filled = tt; two = omega arith; bound = λ h. search arith; table = λ form g h. cc }
non_good BiImply m p q = record { filled = (tt, tt); two = omega arith; bound = λ h. search arith; table = λ form g h. cc }
non_good StrictImply m p q = record { filled = tt; two = omega arith; bound = λ h. search arith; table = λ form g h. cc }
non_good Possible m p q = record { filled = tt; two = omega arith; bound = λ h. search arith; table = λ form g h. cc }
non_good Necessary m p q = record { filled = tt; two = omega arith; bound = λ h. search arith; table = λ form g h. cc }
non_good Unknown m p q = record { filled = tt; two = omega arith; bound = λ h. search arith; table = λ form g h. cc }
non_good Comment m p q = record { filled = tt; two = omega arith; bound = λ h. search arith; table = λ form g h. cc }

by_good : (k : Kind) (m p q : ℕ) (inner : Rec) →
    Good m (Each (λ l. l < m) (take (arity k) (p ∷ q ∷ [])) × Linked m inner) (λ form. k ≡ Non → Writes form p inner) (expansion_by k m p q inner)
    (λ form. priest (form_by k p (form p) (form q)))
unfolding expansion_by priest form_by written_rule arity number_of
by_good Atomic m p q inner = record { filled = tt; two = omega arith; bound = λ h. search arith; table = λ form g h. cc }
by_good Non m p q inner =
    let n = non_good inner.kind m inner.left inner.right in
    record { filled = n.filled; two = n.two; bound = λ h. n.bound h.1; table = λ form g h. n.table form tt h ∙ ap priest_non (sym (g refl)) }
by_good And m p q inner = record { filled = tt; two = omega arith; bound = λ h. search arith; table = λ form g h. cc }
by_good Or m p q inner = record { filled = (tt, tt); two = omega arith; bound = λ h. search arith; table = λ form g h. cc }
by_good Imply m p q inner = record { filled = (tt, tt); two = omega arith; bound = λ h. search arith; table = λ form g h. cc }
by_good BiImply m p q inner = record { filled = (tt, tt); two = omega arith; bound = λ h. search arith; table = λ form g h. cc }
by_good StrictImply m p q inner = record { filled = tt; two = omega arith; bound = λ h. search arith; table = λ form g h. cc }
by_good Possible m p q inner = record { filled = tt; two = omega arith; bound = λ h. search arith; table = λ form g h. cc }
by_good Necessary m p q inner = record { filled = tt; two = omega arith; bound = λ h. search arith; table = λ form g h. cc }
by_good Unknown m p q inner = record { filled = tt; two = omega arith; bound = λ h. search arith; table = λ form g h. cc }
by_good Comment m p q inner = record { filled = tt; two = omega arith; bound = λ h. search arith; table = λ form g h. cc }

module _ (rs : List Rec) where
  good : (f : ℕ) →
      Good (length rs) (Linked (length rs) (formula_of rs f) × Linked (length rs) (rec_at rs (formula_of rs f).left))
      (λ form. (formula_of rs f).kind ≡ Non → Writes form (formula_of rs f).left (rec_at rs (formula_of rs f).left)) (expansion rs f)
      (λ form. priest (By form (formula_of rs f)))
  unfolding expansion
  good f = let r = formula_of rs f in by_good r.kind (length rs) r.left r.right (rec_at rs r.left)

  pub no_rule : expansion rs nobody ≡ makes [] nothing
  unfolding expansion formula_of expansion_by
  no_rule = refl

  pub made_two : (f : ℕ) → length (expansion rs f).made ≤ 2
  made_two f = (good f).two

  pub rule_filled : (f : ℕ) → Filled (expansion rs f).rule
  rule_filled f = (good f).filled

  module _ (wf : WellFormed rs) where
    linked_any : (f : ℕ) → Linked (length rs) (rec_at rs f)
    unfolding rec_at arity number_of
    linked_any f =
        ⊎_elim (λ q. let k = ltb-true f (length rs) q in each_map (λ l (h : l < f). omega arith) (links (rec_at rs f)) (wf f k))
        (λ q. rw (get_or-eq_default rs (made Unknown 0 0) (ltb-false f (length rs) q)) tt) (either (ltb f (length rs)))

    linked : (f : ℕ) → Linked (length rs) (formula_of rs f) × Linked (length rs) (rec_at rs (formula_of rs f).left)
    unfolding formula_of arity number_of
    linked f = (cond_both (Linked (length rs)) (is_nobody f) (made Comment 0 0) (rec_at rs f) tt (linked_any f), linked_any (formula_of rs f).left)

    pub expansion_wf : (f : ℕ) → WellFormed (rs ++ (expansion rs f).made)
    expansion_wf f = wf_append (expansion rs f).made rs wf ((good f).bound (linked f)).0

    pub made_fit : (f : ℕ) → Each (Fit (length rs + 2)) (expansion rs f).made
    made_fit f = ((good f).bound (linked f)).1

    pub rule_known : (f : ℕ) → Known (length (rs ++ (expansion rs f).made)) (expansion rs f).rule
    rule_known f = rw (length-append rs (expansion rs f).made) ((good f).bound (linked f)).2

    -- the rule of a formula is Priest's
    pub rule_is_priest : (f : ℕ) → f < length rs → is_nobody f ≡ false →
        written_rule (form_at (rs ++ (expansion rs f).made)) (expansion rs f).rule ≡ priest (form_at rs f)
    unfolding formula_of arity number_of
    rule_is_priest f h ne =
        let e = expansion rs f in
        let form = form_at (rs ++ e.made) in
        let more = expansion_wf f in
        (good f).table form (λ k. says rs e.made more (formula_of rs f).left (rw k at (linked f).0).0) (says_more rs e.made more)
        ∙ ap priest (ap (λ (b : Bool). By form (cond b (made Comment 0 0) (rec_at rs f))) ne ∙ sym (says rs e.made more f h) ∙ form_append rs e.made f h)

-- the formula number f is true at world w
pub record Holds (M : Model) (rs : List Rec) (w f : ℕ) : Type 0 where
  pub known : f < length rs
  pub holds : truth M (form_at rs f) w ≡ true

pub holds_more : (M : Model) (rs more : List Rec) (w f : ℕ) → Holds M rs w f → Holds M (rs ++ more) w f
holds_more M rs more w f h = record { known = omega (arith, length-append rs more); holds = rw (form_append rs more f h.known) h.holds }

-- what a rule claims, where formulas or their numbers hold at worlds
abbrev pub Claims : {A : Type 0} → Model → (ℕ → A → Type 0) → ℕ → Rule A → Type 0
Claims M P w nothing = Unit {0}
Claims M P w (down ps) = Each (P w) ps
Claims M P w (split ps qs) = Each (P w) ps ⊎ Each (P w) qs
Claims M P w (as_possible p) = (v : ℕ) × (v < M.size) × (M.reach w v ≡ true) × P v p
Claims M P w (as_necessary p) = (v : ℕ) → v < M.size → M.reach w v ≡ true → P v p

abbrev pub True : Model → ℕ → Rule Form → Type 0
True M w r = Claims M (λ v p. truth M p v ≡ true) w r

abbrev pub RuleHolds : Model → List Rec → ℕ → Rule ℕ → Type 0
RuleHolds M rs w r = Claims M (Holds M rs) w r

some_not : (a b : Bool) → (a && not b) ≡ not (not a || b)
some_not true b = refl
some_not false b = refl

each_not : (a b : Bool) → (not a || not b) ≡ not (a && b)
each_not true b = refl
each_not false b = refl

of_both : (p : Bool → Bool) → all p (true ∷ false ∷ []) ≡ true → (b : Bool) → p b ≡ true
of_both p h true = (all_each p (true ∷ false ∷ []) h).0
of_both p h false = (all_each p (true ∷ false ∷ []) h).1.0

-- a tautology of two variables, by its four cases
taut : (f g : Bool → Bool → Bool) → all (λ a. all (λ b. not (f a b) || g a b) (true ∷ false ∷ [])) (true ∷ false ∷ []) ≡ true →
    (a b : Bool) → f a b ≡ true → g a b ≡ true
taut f g h a b e =
    rw e at (of_both (λ y. not (f a y) || g a y) (of_both (λ x. all (λ y. not (f x y) || g x y) (true ∷ false ∷ [])) h a) b)

module _ (M : Model) (w : ℕ) where
  -- True, as a test
  abbrev true? : Rule Form → Bool
  true? nothing = true
  true? (down ps) = all (λ p. truth M p w) ps
  true? (split ps qs) = all (λ p. truth M p w) ps || all (λ p. truth M p w) qs
  true? (as_possible p) = truth M (possible p) w
  true? (as_necessary p) = truth M (necessary p) w

  true_test : (r : Rule Form) → true? r ≡ true → True M w r
  unfolding truth
  true_test nothing e = tt
  true_test (down ps) e = all_each (λ p. truth M p w) ps e
  true_test (split ps qs) e = ⊎_map (all_each (λ p. truth M p w) ps) (all_each (λ p. truth M p w) qs) (or_cases _ _ e)
  true_test (as_possible p) e =
      let v = any_below (λ u. M.reach w u && truth M p u) M.size e in
      (v.0, v.1, and_left (M.reach w v.0) _ v.2, and_right (M.reach w v.0) _ v.2)
  true_test (as_necessary p) e = λ v h k. rw k at (all_below (λ u. not (M.reach w u) || truth M p u) M.size e v h)

  non_test : (p : Form) → not (truth M p w) ≡ true → true? (priest_non p) ≡ true
  unfolding truth priest_non
  non_test (atom a) e = refl
  non_test (non p) e = taut (λ a b. not (not a)) (λ a b. a && true) refl (truth M p w) true e
  non_test (and p q) e = taut (λ a b. not (a && b)) (λ a b. (not a && true) || (not b && true)) refl (truth M p w) (truth M q w) e
  non_test (or p q) e = taut (λ a b. not (a || b)) (λ a b. not a && (not b && true)) refl (truth M p w) (truth M q w) e
  non_test (imply p q) e = taut (λ a b. not (not a || b)) (λ a b. a && (not b && true)) refl (truth M p w) (truth M q w) e
  non_test (bi_imply p q) e =
      taut (λ a b. not (beq a b)) (λ a b. (a && (not b && true)) || (not a && (b && true))) refl (truth M p w) (truth M q w) e
  non_test (strict_imply p q) e = all_false_any _ _ (λ v. some_not (M.reach w v) (truth M (imply p q) v)) (below M.size) (not_true _ e)
  non_test (possible p) e = and_both _ true (any_false_all _ _ (λ v. each_not (M.reach w v) (truth M p v)) (below M.size) (not_true _ e)) refl
  non_test (necessary p) e = and_both _ true (all_false_any _ _ (λ v. some_not (M.reach w v) (truth M p v)) (below M.size) (not_true _ e)) refl

  test : (p : Form) → truth M p w ≡ true → true? (priest p) ≡ true
  unfolding truth priest
  test (atom a) e = refl
  test (non p) e = non_test p e
  test (and p q) e = taut (λ a b. a && b) (λ a b. a && (b && true)) refl (truth M p w) (truth M q w) e
  test (or p q) e = taut (λ a b. a || b) (λ a b. (a && true) || (b && true)) refl (truth M p w) (truth M q w) e
  test (imply p q) e = taut (λ a b. not a || b) (λ a b. (not a && true) || (b && true)) refl (truth M p w) (truth M q w) e
  test (bi_imply p q) e = taut beq (λ a b. (a && (b && true)) || (not a && (not b && true))) refl (truth M p w) (truth M q w) e
  test (strict_imply p q) e = e
  test (possible p) e = e
  test (necessary p) e = e

  -- Priest's rules keep truth
  priest_true : (p : Form) → truth M p w ≡ true → True M w (priest p)
  priest_true p e = true_test (priest p) (test p e)

each_holds : (M : Model) (rs : List Rec) (w : ℕ) (fs : List ℕ) → Each (λ f. f < length rs) fs →
    Each (λ p. truth M p w ≡ true) (map (form_at rs) fs) → Each (Holds M rs w) fs
each_holds M rs w [] k h = tt
each_holds M rs w (f ∷ fs) k h = (record { known = k.0; holds = h.0 }, each_holds M rs w fs k.1 h.1)

fits_written : (M : Model) (rs : List Rec) (w : ℕ) (r : Rule ℕ) → Known (length rs) r → True M w (written_rule (form_at rs) r) → RuleHolds M rs w r
unfolding written_rule
fits_written M rs w nothing k h = tt
fits_written M rs w (down fs) k h = each_holds M rs w fs k h
fits_written M rs w (split fs gs) k h = ⊎_map (each_holds M rs w fs k.0) (each_holds M rs w gs k.1) h
fits_written M rs w (as_possible f) k h = (h.0, h.1, h.2, record { known = k; holds = h.3 })
fits_written M rs w (as_necessary f) k h = λ v a b. record { known = k; holds = h v a b }

-- the rule of a formula that is true at w
pub rule_fits : (M : Model) (rs : List Rec) → WellFormed rs → (f w : ℕ) → Holds M rs w f →
    RuleHolds M (rs ++ (expansion rs f).made) w (expansion rs f).rule
rule_fits M rs wf f w h =
    let e = expansion rs f in
    ⊎_elim (λ q. rw (eqb-true f nobody q, no_rule rs) tt)
    (λ q. fits_written M (rs ++ e.made) w e.rule (rule_known rs wf f)
    (rw (rule_is_priest rs wf f h.known q) (priest_true M w (form_at rs f) h.holds))) (either (is_nobody f))
