-- A list that a loop makes element by element: what there is so far, and the rest.
use mathlib.Core.Path.{◌≡◌, refl, sym, ◌∙◌, subst}
use mathlib.Core.List.{List, [], ◌∷◌, ◌++◌, append_assoc, append-nil}

module _ {A : Type 0} where
  -- the list so far is held, and with the rest it is the goal
  pub record Growth (Has : List A → Type 0) (goal rest : List A) : Type 0 where
    pub made : List A
    pub has : Has made
    pub same : made ++ rest ≡ goal

  module _ {Has : List A → Type 0} {goal : List A} where
    pub growth_start : Has [] → Growth Has goal goal
    growth_start h = record { made = []; has = h; same = refl }

    -- the same rest, written otherwise
    pub growth_as : {rest : List A} (other : List A) → rest ≡ other → Growth Has goal rest → Growth Has goal other
    growth_as other e g = subst (Growth Has goal) e g

    pub growth_next : {After : List A → Type 0} (x : A) {rest : List A} → ((l : List A) → Has l → After (l ++ (x ∷ []))) → Growth Has goal (x ∷ rest) → Growth After goal rest
    growth_next x {rest} f g =
        record { made = g.made ++ (x ∷ []); has = f g.made g.has; same = append_assoc g.made (x ∷ []) rest ∙ g.same }

    pub growth_end : Growth Has goal [] → Has goal
    growth_end g = subst Has (sym (append-nil g.made) ∙ g.same) g.has
