-- The edges of the graph are relations of the tree of forks, and hold between the images of worlds that occur.
use mathlib.Core.Path.{◌≡◌, refl, sym, ap, ◌∙◌, subst}
use mathlib.Core.Bool.{Bool, true, false, not, cond, ◌&&◌, ◌||◌}
use mathlib.Core.List.{List, [], map}
use mathlib.Core.Logic.{◌⊎◌, ⊎_elim, ⊎_map, ◌≢◌}
use Prim.Native.Nat.{ℕ, zero, suc, ◌<◌, ◌≤◌, ◌+◌}
use native.Mathlib.Omega.{arith}
use lib.Dec.{eqb}
use borrow.Author.Tests.{eqb-true, eqb-false, eq-eqb, ne_eqb}
use lib.ListN.{length, get_or, length-map}
use Rattle.definition.specs.Lists.{Each, up_from, below}
use Rattle.definition.specs.Setting.{Setting}
use Rattle.definition.specs.Models.{Model, Has}
use Rattle.definition.specs.Graph.{Graph, edge, graph_of, empty_graph, add_missing_reflexive_vertices, add_missing_symmetric_vertices, paired, add_missing_transitive_vertices, add_missing_graph_vertices, initialize_graph_if_needed, fork}
use Rattle.definition.proofs.Basics.Lists.{true_false, and_left, and_right, or_cases, either, cond_both, each_any, each_of_map, any_below}
use Rattle.definition.proofs.Basics.Identifiers.{length_from}

-- what does not hold of the default holds of an element of the list
at_map : {A : Type 0} (P : A → Type 0) (f : ℕ → A) (n i j u : ℕ) (d : A) → i + u ≡ j → (P d → ⊥) → P (get_or (map f (up_from n i)) u d) → (u < n) × P (f j)
at_map P f zero i j u d e c h = absurd (c h)
at_map P f (suc n) i j zero d e c h = (omega arith, subst (λ (x : ℕ). P (f x)) (omega arith) h)
at_map P f (suc n) i j (suc u) d e c h = let k = at_map P f n (suc i) j u d (omega arith) c h in (omega (arith, k.0), k.1)

pub edge_graph : (n : ℕ) (e : ℕ → ℕ → Bool) (u v : ℕ) → edge (graph_of n e) u v ≡ true → (u < n) × (v < n) × (e u v ≡ true)
unfolding edge graph_of
edge_graph n e u v h =
    let row = at_map (λ r. get_or r v false ≡ true) (λ a. map (λ b. e a b) (below n)) n 0 u u [] (omega arith) (λ q. true_false (sym q)) h in
    let cell = at_map (λ b. b ≡ true) (e u) n 0 v v false (omega arith) (λ q. true_false (sym q)) row.1 in
    (row.0, cell.0, cell.1)

-- how u is related to v in the tree of forks, in which par gives a world's parent; with both flags no two worlds are told apart
pub data Rel (F : Setting) (par : ℕ → ℕ) (u : ℕ) : ℕ → Type 0 where
  alike : {v : ℕ} → F.symmetric ≡ true → F.transitive ≡ true → Rel F par u v
  itself : {v : ℕ} → F.reflexive ≡ true → u ≡ v → Rel F par u v
  kid : {v : ℕ} → par v < v → u ≡ par v → Rel F par u v
  back : {v : ℕ} → F.symmetric ≡ true → par u < u → v ≡ par u → Rel F par u v
  further : {v : ℕ} → F.transitive ≡ true → par v < v → Rel F par u (par v) → Rel F par u v

module _ (F : Setting) where
  rel_sym : (par : ℕ → ℕ) (u v : ℕ) → F.symmetric ≡ true → Rel F par u v → Rel F par v u
  rel_sym par u v s (alike _ t) = alike s t
  rel_sym par u v s (itself r e) = itself r (sym e)
  rel_sym par u v s (kid h e) = back s h e
  rel_sym par u v s (back _ h e) = kid h e
  rel_sym par u v s (further t h a) = alike s t

  rel_trans : (par : ℕ → ℕ) (u v w : ℕ) → F.transitive ≡ true → Rel F par u v → Rel F par v w → Rel F par u w
  rel_trans par u v w t a (alike s _) = alike s t
  rel_trans par u v w t a (itself r e) = subst (Rel F par u) e a
  rel_trans par u v w t a (kid h e) = further t h (subst (Rel F par u) e a)
  rel_trans par u v w t a (back s h e) = alike s t
  rel_trans par u v w t a (further {v = x} _ h b) = further t h (rel_trans par u v (par x) t a b)

  -- a parent more, for a new world
  rel_change : (par par' : ℕ → ℕ) (n u v : ℕ) → ((x : ℕ) → x < n → par' x ≡ par x) → u < n → v < n → Rel F par u v → Rel F par' u v
  rel_change par par' n u v e hu hv (alike s t) = alike s t
  rel_change par par' n u v e hu hv (itself r d) = itself r d
  rel_change par par' n u v e hu hv (kid {v = x} h d) = kid {v = x} (rw (e x hv) h) (d ∙ sym (e x hv))
  rel_change par par' n u v e hu hv (back s h d) = back s (rw (e u hu) h) (d ∙ sym (e u hu))
  rel_change par par' n u v e hu hv (further {v = x} t h a) =
      further {v = x} t (rw (e x hv) h) (subst (Rel F par' u) (sym (e x hv)) (rel_change par par' n u (par x) e hu (omega arith) a))

  pub record Edges (par : ℕ → ℕ) (g : Graph) : Type 0 where
    pub from : (u v : ℕ) → edge g u v ≡ true → u < g.worlds
    pub to : (u v : ℕ) → edge g u v ≡ true → v < g.worlds
    pub rel : (u v : ℕ) → edge g u v ≡ true → Rel F par u v

  of_graph : (par : ℕ → ℕ) (n : ℕ) (a b : ℕ → ℕ → Bool) → ((u v : ℕ) → a u v ≡ true → Rel F par u v) → ((u v : ℕ) → b u v ≡ true → Rel F par u v) →
      Edges par (graph_of n (λ u v. a u v || b u v))
  unfolding graph_of
  of_graph par n a b h k =
      let at = edge_graph n (λ u v. a u v || b u v) in
      record { from = λ u v q. (at u v q).0; to = λ u v q. (at u v q).1; rel = λ u v q. ⊎_elim (h u v) (k u v) (or_cases (a u v) (b u v) (at u v q).2) }

  -- what each scan that is flagged keeps
  missing_keeps : (P : Graph → Type 0) (g : Graph) → P g → ((h : Graph) → F.reflexive ≡ true → P h → P (add_missing_reflexive_vertices h)) →
      ((h : Graph) → F.symmetric ≡ true → P h → P (add_missing_symmetric_vertices h)) →
      ((h : Graph) → F.transitive ≡ true → P h → P (add_missing_transitive_vertices h)) → P (add_missing_graph_vertices F g)
  unfolding add_missing_graph_vertices
  missing_keeps P g p r s t = step F.transitive _ _ t (step F.symmetric _ _ s (step F.reflexive _ g r p))
    where
      step : (b : Bool) (scan : Graph → Graph) (h : Graph) → ((k : Graph) → b ≡ true → P k → P (scan k)) → P h → P (cond b (scan h) h)
      step true scan h k d = k h refl d
      step false scan h k d = d

  missing_edges : (par : ℕ → ℕ) (g : Graph) → Edges par g → Edges par (add_missing_graph_vertices F g)
  unfolding add_missing_reflexive_vertices add_missing_symmetric_vertices add_missing_transitive_vertices paired
  missing_edges par g e =
      missing_keeps (Edges par) g e (λ h f d. of_graph par h.worlds (edge h) eqb d.rel (λ u v q. itself f (eqb-true u v q)))
      (λ h f d. of_graph par h.worlds (edge h) (λ u v. edge h v u) d.rel (λ u v q. rel_sym par v u f (d.rel v u q)))
      (λ h f d. of_graph par h.worlds (edge h) _ d.rel (λ u w q.
      let found = any_below (paired h u w) h.worlds q in
      let v = found.0 in
      let second = edge h v w && not (eqb u v && eqb v w) in
      rel_trans par u v w f (d.rel u v (and_left (edge h u v) second found.2))
      (d.rel v w (and_left (edge h v w) (not (eqb u v && eqb v w)) (and_right (edge h u v) second found.2)))))

  missing_worlds : (g : Graph) → (add_missing_graph_vertices F g).worlds ≡ g.worlds
  unfolding add_missing_reflexive_vertices add_missing_symmetric_vertices add_missing_transitive_vertices graph_of
  missing_worlds g = missing_keeps (λ h. h.worlds ≡ g.worlds) g refl (λ h f e. e) (λ h f e. e) (λ h f e. e)

  -- the graph of world 0 alone, or the one that is there
  pub init_edges : (par : ℕ → ℕ) (g : Graph) → Edges par g → Edges par (initialize_graph_if_needed F g)
  unfolding initialize_graph_if_needed
  init_edges par g e =
      let one = graph_of 1 (λ u v. false) in
      cond_both (Edges par) (eqb g.worlds 0) (add_missing_graph_vertices F one) g
      (missing_edges par one (of_graph par 1 (λ u v. false) (λ u v. false) (λ u v q. true_false (sym q)) (λ u v q. true_false (sym q)))) e

  pub init_one : (g : Graph) → g.worlds ≡ 0 → (initialize_graph_if_needed F g).worlds ≡ 1
  unfolding initialize_graph_if_needed graph_of
  init_one g e = rw e (missing_worlds (graph_of 1 (λ u v. false)))

  pub init_less : (g : Graph) → (g.worlds ≡ 0) ⊎ ((initialize_graph_if_needed F g).worlds ≡ g.worlds)
  unfolding initialize_graph_if_needed
  init_less g = ⊎_map (eqb-true g.worlds 0) (λ q. rw q) (either (eqb g.worlds 0))

  pub init_worlds : (g : Graph) → (0 < (initialize_graph_if_needed F g).worlds) × (g.worlds ≤ (initialize_graph_if_needed F g).worlds)
  unfolding initialize_graph_if_needed
  init_worlds g =
      ⊎_elim (λ q. let e = init_one g (eqb-true g.worlds 0 q) in (omega arith, omega (arith, eqb-true g.worlds 0 q)))
      (λ q. let ne : g.worlds ≢ 0 = eqb-false g.worlds 0 q in rw q (omega arith, omega arith)) (either (eqb g.worlds 0))

  -- a new world with its parent
  abbrev pub with_parent_lem : (ℕ → ℕ) → ℕ → ℕ → ℕ → ℕ
  with_parent_lem par n u x = cond (eqb x n) u (par x)

  pub with_parent_old : (par : ℕ → ℕ) (n u x : ℕ) → x < n → with_parent_lem par n u x ≡ par x
  with_parent_old par n u x h = rw (ne_eqb x n (omega arith))

  pub with_parent_new : (par : ℕ → ℕ) (n u : ℕ) → with_parent_lem par n u n ≡ u
  with_parent_new par n u = rw (eq-eqb n n refl)

  pub fork_edges : (par : ℕ → ℕ) (g : Graph) (u : ℕ) → u < g.worlds → Edges par g → Edges (with_parent_lem par g.worlds u) (fork F g u)
  unfolding fork
  fork_edges par g u h e =
      let n = g.worlds in
      let par' = with_parent_lem par n u in
      missing_edges par' _
      (of_graph par' (suc n) (edge g) (λ a b. eqb a u && eqb b n) (λ a b q. rel_change par par' n a b (with_parent_old par n u) (e.from a b q) (e.to a b q) (e.rel a b q))
      (λ a b q. let p = eqb-true a u (and_left (eqb a u) (eqb b n) q) in
      let d = eqb-true b n (and_right (eqb a u) (eqb b n) q) in
      let new : par' b ≡ u = ap par' d ∙ with_parent_new par n u in
      kid (omega (arith, new, d, h)) (p ∙ sym new)))

  pub fork_worlds : (g : Graph) (u : ℕ) → (fork F g u).worlds ≡ suc g.worlds
  unfolding fork graph_of
  fork_worlds g u = missing_worlds _

  pub no_edges : (par : ℕ → ℕ) → Edges par empty_graph
  unfolding empty_graph edge
  no_edges par = record { from = λ u v k. true_false (sym k); to = λ u v k. true_false (sym k); rel = λ u v k. true_false (sym k) }

-- in a model with the flagged properties, an edge holds between the images of worlds that occur
module _ (F : Setting) (M : Model) (has : Has F M) (par f : ℕ → ℕ) (Occ : ℕ → Type 0)
    (inside : (v : ℕ) → Occ v → f v < M.size)
    (above : (v : ℕ) → Occ v → (v ≡ 0) ⊎ ((par v < v) × Occ (par v) × (M.reach (f (par v)) (f v) ≡ true)))
    (zero-occurs : Occ 0)
    (begun : F.symmetric ≡ true → F.transitive ≡ true → M.reach (f 0) (f 0) ≡ true) where
  abbrev R : ℕ → ℕ → Type 0
  R u v = M.reach (f u) (f v) ≡ true

  parent : (v : ℕ) → Occ v → par v < v → Occ (par v) × R (par v) v
  parent v o h = ⊎_elim (λ q. absurd (omega arith)) (λ q. (q.1, q.2)) (above v o)

  trans : F.transitive ≡ true → (u v w : ℕ) → Occ u → Occ v → Occ w → R u v → R v w → R u w
  trans t u v w a b c h k = has.transitive t (f u) (f v) (f w) (inside u a) (inside v b) (inside w c) h k

  -- symmetric and transitive: all worlds lie in one clique
  clique : F.symmetric ≡ true → F.transitive ≡ true → (n v : ℕ) → v < n → Occ v → R 0 v
  clique s t zero v h o = absurd (omega arith)
  clique s t (suc n) v h o =
      ⊎_elim (λ q. rw q (begun s t))
      (λ q. trans t 0 (par v) v zero-occurs q.1 o (clique s t n (par v) (omega (arith, q.0, h)) q.1) q.2) (above v o)

  pub rel_sound : (u v : ℕ) → Occ u → Occ v → Rel F par u v → R u v
  rel_sound u v ou ov (alike s t) =
      trans t u 0 v ou zero-occurs ov (has.symmetric s (f 0) (f u) (inside 0 zero-occurs) (inside u ou) (clique s t (suc u) u (omega arith) ou))
      (clique s t (suc v) v (omega arith) ov)
  rel_sound u v ou ov (itself r e) = subst (R u) e (has.reflexive r (f u) (inside u ou))
  rel_sound u v ou ov (kid {v = x} h e) = subst (λ (y : ℕ). R y x) (sym e) (parent x ov h).1
  rel_sound u v ou ov (back {v = x} s h e) =
      has.symmetric s (f x) (f u) (inside x ov) (inside u ou) (subst (λ (y : ℕ). R y u) (sym e) (parent u ou h).1)
  rel_sound u v ou ov (further {v = x} t h a) =
      let p = parent x ov h in trans t u (par x) x ou p.0 ov (rel_sound u (par x) ou p.0 a) p.1

-- a graph has a row for each world, and a flag in it for each world
pub record Squared (g : Graph) : Type 0 where
  pub rows : length g.rows ≡ g.worlds
  pub each : Each (λ (row : List Bool). length row ≡ g.worlds) g.rows

squared_graph : (n : ℕ) (e : ℕ → ℕ → Bool) → Squared (graph_of n e)
unfolding graph_of
squared_graph n e =
    let row : (u : ℕ) → length (map (e u) (below n)) ≡ n = λ u. length-map (below n) _ ∙ length_from n 0 in
    record { rows = length-map (below n) _ ∙ length_from n 0; each = each_of_map _ _ (below n) (each_any _ row (below n)) }

squared_missing : (F : Setting) (g : Graph) → Squared g → Squared (add_missing_graph_vertices F g)
unfolding add_missing_reflexive_vertices add_missing_symmetric_vertices add_missing_transitive_vertices
squared_missing F g s = missing_keeps F Squared g s (λ h f q. squared_graph _ _) (λ h f q. squared_graph _ _) (λ h f q. squared_graph _ _)

pub squared_init : (F : Setting) (g : Graph) → Squared g → Squared (initialize_graph_if_needed F g)
unfolding initialize_graph_if_needed
squared_init F g s = cond_both Squared (eqb g.worlds 0) _ g (squared_missing F _ (squared_graph 1 _)) s

pub squared_fork : (F : Setting) (g : Graph) (u : ℕ) → Squared (fork F g u)
unfolding fork
squared_fork F g u = squared_missing F _ (squared_graph (suc g.worlds) _)

pub squared_empty : Squared empty_graph
unfolding empty_graph
squared_empty = record { rows = refl; each = tt }
