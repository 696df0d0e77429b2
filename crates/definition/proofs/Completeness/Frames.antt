-- One round of missing edges gives a graph the flagged properties; a fork adds no edge between old worlds, but 0 to 0 at the first fork of a partial equivalence.
use mathlib.Core.Path.{◌≡◌, refl, sym, ap, ◌∙◌, subst}
use mathlib.Core.Bool.{Bool, true, false, cond, ◌&&◌, ◌||◌}
use mathlib.Core.List.{[], map}
use mathlib.Core.Logic.{◌⊎◌, inl, inr, ⊎_elim, ⊎_map, ◌↔◌}
use Prim.Native.Nat.{ℕ, zero, suc, ◌<◌, ◌+◌}
use native.Mathlib.Omega.{arith}
use lib.Dec.{eqb}
use borrow.Author.Tests.{eqb-true, eq-eqb, ne_eqb}
use lib.ListN.{get_or}
use Rattle.definition.specs.Lists.{up_from, below, any}
use Rattle.definition.specs.Setting.{Setting, partial_equivalence}
use Rattle.definition.specs.Graph.{Graph, edge, graph_of, add_missing_reflexive_vertices, add_missing_symmetric_vertices, paired, add_missing_transitive_vertices, add_missing_graph_vertices, initialize_graph_if_needed, fork}
use Rattle.definition.proofs.Basics.Lists.{true_false, either, alike, cond_both, and_left, and_right, or_cases, or_true, any_below, any_below_of}
use Rattle.definition.proofs.Soundness.Edges.{edge_graph}

-- g has the flagged properties; with symmetric and transitive every world reaches every world, but for world 0 alone
pub record Frame (F : Setting) (g : Graph) : Type 0 where
  pub within : (a b : ℕ) → edge g a b ≡ true → (a < g.worlds) × (b < g.worlds)
  pub reflexive : F.reflexive ≡ true → (a : ℕ) → a < g.worlds → edge g a a ≡ true
  pub symmetric : F.symmetric ≡ true → (a b : ℕ) → edge g a b ≡ true → edge g b a ≡ true
  pub transitive : F.transitive ≡ true → (a b c : ℕ) → edge g a b ≡ true → edge g b c ≡ true → edge g a c ≡ true
  pub total : F.symmetric ≡ true → F.transitive ≡ true → ((a b : ℕ) → a < g.worlds → b < g.worlds → edge g a b ≡ true) ⊎ ((partial_equivalence F ≡ true) × (g.worlds ≡ 1))

-- h is g with one more world, that u reaches
pub record Forked (F : Setting) (g : Graph) (u : ℕ) (h : Graph) : Type 0 where
  pub worlds : h.worlds ≡ suc g.worlds
  pub framed : Frame F h
  pub keeps : (a b : ℕ) → edge g a b ≡ true → edge h a b ≡ true
  pub old : (a b : ℕ) → a < g.worlds → b < g.worlds → edge h a b ≡ true → (edge g a b ≡ true) ⊎ ((partial_equivalence F ≡ true) × (g.worlds ≡ 1))
  pub parent : edge h u g.worlds ≡ true

map_at : {A : Type 0} (f : ℕ → A) (n i u j : ℕ) (d : A) → i + u ≡ j → u < n → get_or (map f (up_from n i)) u d ≡ f j
map_at f zero i u j d e h = absurd (omega arith)
map_at f (suc n) i zero j d e h = ap f (omega arith)
map_at f (suc n) i (suc u) j d e h = map_at f n (suc i) u j d (omega arith) (omega arith)

-- the converse of edge-graph
graph_edge : (n : ℕ) (e : ℕ → ℕ → Bool) (u v : ℕ) → u < n → v < n → e u v ≡ true → edge (graph_of n e) u v ≡ true
unfolding edge graph_of
graph_edge n e u v a b h = rw (map_at (λ u. map (λ v. e u v) (below n)) n 0 u u [] (omega arith) a, map_at (e u) n 0 v v false (omega arith) b) h

abbrev Relation : Type 1
Relation = ℕ → ℕ → Type 0

-- the edges of g are the pairs of E below n
record Is (n : ℕ) (E : Relation) (g : Graph) : Type 0 where
  worlds : g.worlds ≡ n
  out : (a b : ℕ) → edge g a b ≡ true → (a < n) × (b < n) × E a b
  into : (a b : ℕ) → a < n → b < n → E a b → edge g a b ≡ true

graph_is : (n : ℕ) (t : ℕ → ℕ → Bool) → Is n (λ a b. t a b ≡ true) (graph_of n t)
unfolding graph_of
graph_is n t = record { worlds = refl; out = edge_graph n t; into = graph_edge n t }

is_as : {n : ℕ} {E X : Relation} {g : Graph} → Is n E g → ((a b : ℕ) → a < n → b < n → E a b ↔ X a b) → Is n X g
is_as k f = record { worlds = k.worlds; out = λ a b e. let (l, m, d) = k.out a b e in (l, m, (f a b l m).0 d); into = λ a b l m d. k.into a b l m ((f a b l m).1 d) }

-- a scan, if it is flagged, adds the pairs of X
scanned : (f : Bool) (n : ℕ) (E X : Relation) (g : Graph) (t : ℕ → ℕ → Bool) → Is n E g →
    ((a b : ℕ) → a < n → b < n → (t a b ≡ true → X a b) × (X a b → (edge g a b || t a b) ≡ true)) →
    Is n (λ a b. E a b ⊎ ((f ≡ true) × X a b)) (cond f (graph_of g.worlds (λ a b. edge g a b || t a b)) g)
unfolding edge
scanned true n E X g t k h =
    rw k.worlds (is_as (graph_is n (λ a b. edge g a b || t a b)) (λ a b l m. (
      λ e. ⊎_map (λ d. (k.out a b d).2) (λ d. (refl, (h a b l m).0 d)) (or_cases (edge g a b) (t a b) e),
      elim [ inl d ↦ rw (k.into a b l m d) | inr d ↦ (h a b l m).1 d.1 ],
    )))
scanned false n E X g t k h = is_as k (λ a b l m. (inl, elim [ inl e ↦ e | inr e ↦ true_false (sym e.0) ]))

module _ (F : Setting) (E : Relation) where
  -- E after each scan that is flagged
  abbrev Looped : Relation
  Looped a b = E a b ⊎ ((F.reflexive ≡ true) × (a ≡ b))

  abbrev Mutual : Relation
  Mutual a b = Looped a b ⊎ ((F.symmetric ≡ true) × Looped b a)

  abbrev Closed : ℕ → Relation
  Closed n a b = Mutual a b ⊎ ((F.transitive ≡ true) × ((v : ℕ) × (v < n) × Mutual a v × Mutual v b))

  closed : (n : ℕ) (g : Graph) → Is n E g → Is n (Closed n) (add_missing_graph_vertices F g)
  unfolding add_missing_graph_vertices add_missing_reflexive_vertices add_missing_symmetric_vertices add_missing_transitive_vertices paired
  closed n g k =
      let r = cond F.reflexive (add_missing_reflexive_vertices g) g in
      let s = cond F.symmetric (add_missing_symmetric_vertices r) r in
      let i = scanned F.reflexive n E (λ a b. a ≡ b) g eqb k (λ a b l m. (eqb-true a b, λ e. or_true (edge g a b) (eq-eqb a b e))) in
      let j = scanned F.symmetric n Looped (λ a b. Looped b a) r (λ a b. edge r b a) i (λ a b l m. (λ e. (i.out b a e).2, λ e. or_true (edge r a b) (i.into b a m l e))) in
      scanned F.transitive n Mutual _ s (λ a b. any (paired s a b) (below s.worlds)) j (λ a b l m. (
        λ e.
            let (v, _, q) = any_below (paired s a b) s.worlds e in
            let x = j.out a v (and_left (edge s a v) _ q) in
            (v, x.1, x.2, (j.out v b (and_left (edge s v b) _ (and_right (edge s a v) _ q))).2),
        λ e.
            let (v, x, d, c) = e in
            let p = j.into a v l x d in
            let q = j.into v b x m c in
            elim (alike a v) [ inl d ↦ rw (d, q) | inr d ↦ or_true (edge s a b) (any_below_of (paired s a b) s.worlds v (rw j.worlds x) (rw (p, q, ne_eqb a v d))) ],
      ))

  back : F.symmetric ≡ true → (a b : ℕ) → Mutual a b → Mutual b a
  back s a b (inl e) = inr (s, e)
  back s a b (inr e) = inl e.1

  -- a graph whose relation is closed has the flagged properties, if the relation is transitive, and total where it is symmetric too
  framed_by : (n : ℕ) (h : Graph) → Is n (Closed n) h → (F.transitive ≡ true → (a b c : ℕ) → a < n → b < n → c < n → Closed n a b → Closed n b c → Closed n a c) →
      (F.symmetric ≡ true → F.transitive ≡ true → ((a b : ℕ) → a < n → b < n → Closed n a b) ⊎ ((partial_equivalence F ≡ true) × (n ≡ 1))) → Frame F h
  unfolding edge
  framed_by n h k chain whole =
      record {
        within = λ a b e. rw k.worlds ((k.out a b e).0, (k.out a b e).1);
        reflexive = λ q. rw k.worlds (λ a l. k.into a a l l (inl (inl (inr (q, refl)))));
        symmetric = λ q a b e. let (l, m, d) = k.out a b e in k.into b a m l (turn q a b d);
        transitive = λ q a b c p e. let (x, y, d) = k.out a b p in let (_, z, i) = k.out b c e in k.into a c x z (chain q a b c x y z d i);
        total = λ p q. rw k.worlds (⊎_map (λ x a b l m. k.into a b l m (x a b l m)) (λ x. x) (whole p q));
      }
    where
      turn : F.symmetric ≡ true → (a b : ℕ) → Closed n a b → Closed n b a
      turn q a b (inl e) = inl (back q a b e)
      turn q a b (inr (t, (v, l, d, e))) = inr (t, (v, l, back q v b e, back q a v d))

module _ (F : Setting) (g : Graph) (u : ℕ) (inside : u < g.worlds) (f : Frame F g) where
  abbrev n : ℕ
  n = g.worlds

  -- the old edges and the new one, and the relation after each scan
  abbrev Base : Relation
  Base a b = (edge g a b ≡ true) ⊎ ((a ≡ u) × (b ≡ g.worlds))

  abbrev First : Relation
  First = Looped F Base

  abbrev Second : Relation
  Second = Mutual F Base

  abbrev Last : Relation
  Last = Closed F Base (suc n)

  -- an old world is reached by old edges only
  to_old : (a b : ℕ) → b < n → First a b → edge g a b ≡ true
  to_old a b l (inl (inl e)) = e
  to_old a b l (inl (inr e)) = absurd (omega (arith, e.1))
  to_old a b l (inr e) = rw e.1 (f.reflexive e.0 b l)

  old_two : F.transitive ≡ true → (a v b : ℕ) → b < n → First a v → First v b → edge g a b ≡ true
  old_two t a v b l p q = let e = to_old v b l q in f.transitive t a v b (to_old a v (f.within v b e).0 p) e

  -- symmetric and transitive: every world but u reaches u
  module _ (s : F.symmetric ≡ true) (t : F.transitive ≡ true) where
    near : (a : ℕ) → a < suc n → (a ≡ u) ⊎ Second a u
    near a l = elim (alike a n) [
      | inl e ↦ inr (inr (s, inl (inr (refl, e))))
      | inr e ↦ let k : a < n = omega arith in ⊎_elim (λ w. inr (inl (inl (inl (w a u k inside))))) (λ d. inl (omega arith)) (f.total s t)
    ]

    whole : (a b : ℕ) → a < suc n → b < suc n → Last a b
    whole a b x y = elim (near a x) [
      | inl p ↦ elim (near b y) [ inl q ↦ inr (t, (n, omega arith, inl (inl (inr (p, refl))), inr (s, inl (inr (q, refl))))) | inr q ↦ inl (rw p (back F Base s b u q)) ]
      | inr p ↦ elim (near b y) [ inl q ↦ inl (rw q p) | inr q ↦ inr (t, (u, omega arith, p, back F Base s b u q)) ]
    ]

  -- not symmetric: a third step is one of the new world to itself, or the first two are one
  module _ (s : F.symmetric ≡ false) where
    one_way : (a b : ℕ) → Second a b → First a b
    one_way a b (inl e) = e
    one_way a b (inr e) = true_false (sym e.0 ∙ s)

    push : F.transitive ≡ true → (a b c : ℕ) → b < suc n → Last a b → First b c → Last a c
    push t a b c l (inl p) e = inr (t, (b, l, p, inl e))
    push t a b c l (inr (_, (v, m, p, q))) (inr e) = inr (t, (v, m, p, rw e.1 at q))
    push t a b c l (inr (_, (v, m, p, q))) (inl e) =
        let k : b < n = ⊎_elim (λ d. (f.within b c d).0) (λ d. omega arith) e in
        inr (t, (b, l, inl (inl (inl (old_two t a v b k (one_way a v p) (one_way v b q)))), inl (inl e)))

    chain : F.transitive ≡ true → (a b c : ℕ) → b < suc n → Last a b → Last b c → Last a c
    chain t a b c l p (inl q) = push t a b c l p (one_way b c q)
    chain t a b c l p (inr (_, (v, m, q, r))) = push t a v c m (push t a b v l p (one_way b v q)) (one_way v c r)

  old_edge : (a b : ℕ) → a < n → b < n → (F.symmetric ≡ true) ⊎ (F.symmetric ≡ false) → Last a b → (edge g a b ≡ true) ⊎ ((partial_equivalence F ≡ true) × (n ≡ 1))
  old_edge a b x y s (inl (inl e)) = inl (to_old a b y e)
  old_edge a b x y s (inl (inr e)) = inl (f.symmetric e.0 b a (to_old b a x e.1))
  old_edge a b x y (inl s) (inr e) = ⊎_map (λ w. w a b x y) (λ z. z) (f.total s e.0)
  old_edge a b x y (inr s) (inr (t, (v, l, p, q))) = inl (old_two t a v b y (one_way s a v p) (one_way s v b q))

  base : Is (suc n) Base (graph_of (suc n) (λ a b. edge g a b || (eqb a u && eqb b n)))
  base =
      is_as (graph_is (suc n) _) (λ a b l m. (
        λ e. ⊎_map (λ d. d) (λ d. (eqb-true a u (and_left (eqb a u) _ d), eqb-true b n (and_right (eqb a u) _ d))) (or_cases (edge g a b) _ e),
        elim [ inl d ↦ rw d | inr d ↦ or_true (edge g a b) (rw (eq-eqb a u d.0, eq-eqb b n d.1)) ],
      ))

  pub fork_framed : Forked F g u (fork F g u)
  unfolding fork
  fork_framed =
      let k = closed F Base (suc n) _ base in
      record {
        worlds = k.worlds;
        framed = framed_by F Base (suc n) _ k
            (λ t a b c i j l p q. elim (either F.symmetric) [ inl s ↦ whole s t a c i l | inr s ↦ chain s t a b c j p q ])
            (λ s t. inl (whole s t));
        keeps = λ a b e. k.into a b (omega (arith, (f.within a b e).0)) (omega (arith, (f.within a b e).1)) (inl (inl (inl (inl e))));
        old = λ a b x y e. old_edge a b x y (either F.symmetric) (k.out a b e).2;
        parent = k.into u n (omega arith) (omega arith) (inl (inl (inl (inr (refl, refl)))));
      }

pub init_framed : (F : Setting) (g : Graph) → (g.worlds ≡ 0) ⊎ Frame F g → Frame F (initialize_graph_if_needed F g)
unfolding initialize_graph_if_needed partial_equivalence graph_of
init_framed F g h = elim h [ inl e ↦ rw e one | inr f ↦ cond_both (Frame F) (eqb g.worlds 0) _ g one f ]
  where
    one : Frame F (add_missing_graph_vertices F (graph_of 1 (λ u v. false)))
    one =
        framed_by F (λ a b. ⊥) 1 _
        (closed F (λ a b. ⊥) 1 _ (is_as (graph_is 1 (λ u v. false)) (λ a b l m. (λ e. true_false (sym e), λ e. absurd e))))
        (λ t a b c i j l p q. subst (Closed F (λ a b. ⊥) 1 a) (omega arith) p)
        (λ s t. elim (either F.reflexive) [ inl r ↦ inl (λ a b l m. inl (inl (inr (r, omega arith)))) | inr r ↦ inr (rw (s, t, r), refl) ])

-- a graph that has a world is begun already
pub init_same : (F : Setting) (g : Graph) → 0 < g.worlds → initialize_graph_if_needed F g ≡ g
unfolding initialize_graph_if_needed
init_same F g h = rw (ne_eqb g.worlds 0 (omega arith))
