-- Placing keeps an open set, and takes into it a chain of each subtree that a leaf of the set takes.
use mathlib.Core.Path.{◌≡◌, refl, sym, ap, ◌∙◌, subst}
use mathlib.Core.Bool.{Bool, true, false}
use mathlib.Core.List.{List, [], ◌∷◌, ◌++◌, map, map-append, append_assoc, append-nil}
use mathlib.Core.Logic.{◌⊎◌, inl, inr, ⊎_elim, ⊎_map}
use Prim.Native.Nat.{ℕ, suc, ◌<◌, ◌≤◌, ◌+◌}
use native.Mathlib.Omega.{arith}
use borrow.Author.Tests.{ne_eqb}
use lib.ListN.{length, length-append, length-map}
use lib.Seq.{get_or-append_seam}
use Rattle.definition.specs.Lists.{Each, up_from, filter, elem}
use Rattle.definition.specs.Records.{nobody}
use Rattle.definition.specs.Tree.{Node, node_at, leaves, path}
use Rattle.definition.specs.Subtree.{Subtree, Targeted, flat, numbered, copied, append_subtree_on_leaf, push_subtree, append_copies, append_on, takes, append_subtree, append_logic_rule_result}
use Rattle.definition.proofs.Basics.Lists.{true_false, and_left, either, each_map, each_of_map, filter_each, not_true_false}
use Rattle.definition.proofs.Tree.Nodes.{blank, Label, node_append, Ext, ext_refl, ext_trans, ext_append, ext_leaf, ext_copies, ext_subtree, ext_result, length_leaf}
use Rattle.definition.proofs.Basics.Identifiers.{Ids, ids_numbered, IssuedBetween, issued_le}
use Rattle.definition.proofs.Soundness.OpenSets.{Out, Whole, path_elem, runs_like, New, adds, adds_each, adds_other, no_chain, left_chain, middle_chain, right_chain, chain_each, Side, side_map, hang_in, hang_out}

module _ (Ok : ℕ → ℕ → Type 0) where
  abbrev pub OkNode : Node → Type 0
  OkNode n = Ok n.world n.formula

  abbrev pub Fine : List Node → ℕ → Type 0
  Fine t x = (x < length t) × OkNode (node_at t x)

  pub fine_ext : (t t' : List Node) → Ext t t' → (x : ℕ) → Fine t x → Fine t' x
  fine_ext t t' e x h = (omega (arith, h.0, e.longer), subst (λ (l : Label). Ok l.world l.formula) (sym (e.labelled x h.0)) h.1)

  pub amid_fine : (ns rs t : List Node) → Each OkNode ns → Each (Fine (t ++ (ns ++ rs))) (up_from (length ns) (length t))
  amid_fine [] rs t h = tt
  amid_fine (n ∷ ns) rs t h =
      let e : length (t ++ (n ∷ [])) ≡ suc (length t) = omega (arith, length-append t (n ∷ [])) in (
        (omega (arith, length-append t (n ∷ (ns ++ rs))), rw (get_or-append_seam t n (ns ++ rs) blank) h.0),
        rw (append_assoc t (n ∷ []) (ns ++ rs), e) at (amid_fine ns rs (t ++ (n ∷ [])) h.1),
      )

  made_fine : (f : ℕ → Node) (t : List Node) (bs cs ds : List ℕ) (n : ℕ) → length t + length bs ≡ n → Each (λ c. OkNode (f c)) cs →
      Each (Fine (t ++ map f (bs ++ (cs ++ ds)))) (up_from (length cs) n)
  made_fine f t bs cs ds n e h =
      let fine = amid_fine (map f cs) (map f ds) (t ++ map f bs) (each_of_map OkNode f cs h) in
      rw (map-append f bs (cs ++ ds), map-append f cs ds, ← e) (rw (append_assoc t (map f bs) (map f cs ++ map f ds), length-append t (map f bs), length-map bs f, length-map cs f) at fine)

  -- nodes made for the numbers of a subtree have a side where these have one
  pub made_side : (f : ℕ → Node) (t : List Node) (s : Subtree) → Side (λ c. OkNode (f c)) s → Side (Fine (t ++ map f (flat s))) (numbered (length t) s)
  unfolding flat numbered
  made_side f t s ([], no_chain, h) = ([], no_chain, tt)
  made_side f t s (cs, left_chain c ds m r, h) = (_, left_chain _ _ _ _, made_fine f t [] cs (m ++ r) (length t) (omega arith) h)
  made_side f t s (cs, middle_chain l c ds r, h) = (_, middle_chain _ _ _ _, made_fine f t l cs r (length t + length l) refl h)
  made_side f t s (_, right_chain l m c ds, h) =
      let fine = made_fine f t (l ++ m) (c ∷ ds) [] (length t + length l + length m) (omega (arith, length-append l m)) h in
      let e : (l ++ m) ++ ((c ∷ ds) ++ []) ≡ l ++ (m ++ (c ∷ ds)) = append_assoc l m ((c ∷ ds) ++ []) ∙ ap (λ (k : List ℕ). l ++ (m ++ k)) (append-nil (c ∷ ds)) in
      (_, right_chain _ _ _ _, subst (λ (xs : List ℕ). Each (Fine (t ++ map f xs)) (up_from (length (c ∷ ds)) (length t + length l + length m))) e fine)

  -- a copy of a subtree has a side where the subtree has one
  copy_side : (t : List Node) (s : Subtree) → Side (Fine t) s → Side (Fine (t ++ map (copied t) (flat s))) (numbered (length t) s)
  copy_side t s k = made_side (copied t) t s (side_map (Fine t) (λ c. OkNode (copied t c)) s (λ x a. a.1) k)

  -- a set of the tree's nodes, all of them fine
  pub record Put (t : List Node) (S : ℕ → Bool) : Type 0 where
    pub whole : Whole t S
    pub fine : (x : ℕ) → S x ≡ true → OkNode (node_at t x)

  pub put_append : (t ns : List Node) (S : ℕ → Bool) → Put t S → Put (t ++ ns) S
  put_append t ns S p =
      let same : (x : ℕ) → S x ≡ true → node_at (t ++ ns) x ≡ node_at t x = λ x h. node_append t ns x ((p.whole 0).known x h) in
      record {
        whole = λ e. runs_like t (t ++ ns) S e e (p.whole e) (ext_append t ns).longer (λ x h. ap (λ (n : Node). n.parent) (same x h)) (λ x h d. rw (same x h) ((p.whole e).down x h d));
        fine = λ x h. rw (same x h) (p.fine x h);
      }

  -- the subtree has a fine side, or no leaf is in the set
  abbrev Ready : (ℕ → Bool) → List Node → Subtree → List ℕ → Type 0
  Ready S t s ls = Side (Fine t) s ⊎ Each (Out S) ls

  takers : (t : List Node) (S : ℕ → Bool) (x : ℕ) (s : Subtree) → Whole t S → (S x ≡ true → Side (Fine t) s) → Ready S t s (filter (takes t x) (leaves t))
  unfolding takes
  takers t S x s w f =
      ⊎_map f (λ q. each_map (λ y h. not_true_false (S y) (λ k. true_false (sym (path_elem t S w x y k (and_left (elem x (path t y)) _ h)) ∙ q)))
      (filter (takes t x) (leaves t)) (filter_each (takes t x) (leaves t))) (either (S x))

  -- a subtree below one leaf
  hang_put : (lo hi : ℕ) (t₀ t : List Node) (S : ℕ → Bool) (y : ℕ) (s₀ s : Subtree) (ls : List ℕ) → Ext t₀ t → Put t S → Ids lo hi s →
      ((x : ℕ) → lo ≤ x → x < hi → S x ≡ false) → hi ≤ length t → length t ≤ nobody → (Side (Fine t₀) s₀ → Side (Fine t) s) → Ready S t₀ s₀ (y ∷ ls) →
      (S' : ℕ → Bool) × Put (append_subtree_on_leaf t y s) S' × Ready S' (append_subtree_on_leaf t y s) s₀ ls × ((x : ℕ) → (x < lo) ⊎ (hi ≤ x) → S' x ≡ S x)
  hang_put lo hi t₀ t S y s₀ s ls e p i quiet h bound f r =
      let t' = append_subtree_on_leaf t y s in
      let off : Each (Out S) (flat s) = each_map (λ x (k : (lo ≤ x) × (x < hi)). quiet x k.0 k.1) (flat s) i.within in
      let new : Each (New (length t)) (flat s) = each_map (λ x (k : (lo ≤ x) × (x < hi)). (omega arith, ne_eqb x nobody (omega arith))) (flat s) i.within in
      let fine : (x : ℕ) → S x ≡ true → OkNode (node_at t' x) = λ x k. (fine_ext t t' (ext_leaf t y s) x ((p.whole 0).known x k, p.fine x k)).1 in
      let further = side_map (Fine t₀) (Fine t') s₀ (fine_ext t₀ t' (ext_trans t₀ t t' e (ext_leaf t y s))) in
      let out : S y ≡ false → Put t' S = λ q. record { whole = hang_out S t y s p.whole q off; fine = fine } in
      ⊎_elim (λ k. ⊎_elim (λ q. (
        adds S (f k).0,
        record {
          whole = hang_in S t y s (f k).0 (f k).1 p.whole q new off i.distinct;
          fine = adds_each (λ x. OkNode (node_at t' x)) S (f k).0 fine (each_map (λ x (b : Fine t x). (fine_ext t t' (ext_leaf t y s) x b).1) (f k).0 (f k).2);
        },
        inl (further k),
        λ x a. adds_other S (f k).0 x (each_map (λ z (b : (lo ≤ z) × (z < hi)). ⊎_elim (λ c. omega arith) (λ c. omega arith) a) (f k).0 (chain_each (λ z. (lo ≤ z) × (z < hi)) s (f k).0 (f k).1 i.within)),
      )) (λ q. (S, out q, inl (further k), λ x a. refl)) (either (S y))) (λ q. (S, out q.0, inr q.1, λ x a. refl)) r

  -- copies of a subtree; Q says where the set stays as it was
  copies_put : (Q : ℕ → Type 0) (S₀ : ℕ → Bool) (ls : List ℕ) (t : List Node) (S : ℕ → Bool) (q : List ℕ) (s : Subtree) → ((x : ℕ) → Q x → x < length t) →
      ((x : ℕ) → Q x → S x ≡ S₀ x) → Put t S → Ready S t s ls → length (append_copies t q ls s).nodes ≤ nobody →
      (S' : ℕ → Bool) × Put (append_copies t q ls s).nodes S' × ((x : ℕ) → Q x → S' x ≡ S₀ x)
  unfolding append_copies
  copies_put Q S₀ [] t S q s known same p r bound = (S, p, same)
  copies_put Q S₀ (y ∷ ls) t S q s known same p r bound =
      let c = numbered (length t) s in
      let ns = map (copied t) (flat s) in
      let v = append_subtree_on_leaf (t ++ ns) y c in
      let n : length (t ++ ns) ≡ length t + length (flat s) = omega (arith, length-append t ns, length-map (flat s) (copied t)) in
      let l : length v ≡ length (t ++ ns) = length_leaf (t ++ ns) y c in
      let one =
      hang_put (length t) (length t + length (flat s)) t (t ++ ns) S y s c ls (ext_append t ns) (put_append t ns S p) (ids_numbered (length t) s)
      (λ x a b. not_true_false (S x) (λ k. omega (arith, (p.whole 0).known x k))) (omega arith) (omega (arith, (ext_copies ls v (push_subtree q c) s).longer)) (copy_side t s) r in
      copies_put Q S₀ ls v one.0 (push_subtree q c) s (λ x a. omega (arith, known x a)) (λ x a. one.3 x (inl (known x a)) ∙ same x a) one.1 one.2 bound

  on_put : (ls : List ℕ) (lo hi : ℕ) (t : List Node) (S : ℕ → Bool) (q : List ℕ) (s : Subtree) → Put t S → Ids lo hi s →
      ((x : ℕ) → lo ≤ x → x < hi → S x ≡ false) → hi ≤ length t → Ready S t s ls → length (append_on t q ls s).nodes ≤ nobody →
      (S' : ℕ → Bool) × Put (append_on t q ls s).nodes S' × ((x : ℕ) → (x < length t) × ((x < lo) ⊎ (hi ≤ x)) → S' x ≡ S x)
  unfolding append_on
  on_put [] lo hi t S q s p i quiet h r bound = (S, p, λ x a. refl)
  on_put (y ∷ ls) lo hi t S q s p i quiet h r bound =
      let u = append_subtree_on_leaf t y s in
      let n = length_leaf t y s in
      let one = hang_put lo hi t t S y s s ls (ext_refl t) p i quiet h (omega (arith, (ext_copies ls u (push_subtree q s) s).longer)) (λ k. k) r in
      copies_put (λ x. (x < length t) × ((x < lo) ⊎ (hi ≤ x))) S ls u one.0 (push_subtree q s) s (λ x a. omega (arith, a.0)) (λ x a. one.3 x a.1) one.1 one.2 bound

  -- a joined result: the set grows by a fine side of each subtree that a leaf of the set takes, and is the same of the nodes before it
  pub all_put : (old : ℕ) (S₀ : ℕ → Bool) (rs : List Targeted) (t : List Node) (S : ℕ → Bool) (q : List ℕ) (lo hi : ℕ) → Put t S →
      ((x : ℕ) → lo ≤ x → x < hi → S x ≡ false) → hi ≤ length t → old ≤ lo → ((x : ℕ) → x < old → S x ≡ S₀ x) → IssuedBetween lo hi rs →
      Each (λ (r : Targeted). r.target < old) rs → Each (λ (r : Targeted). S₀ r.target ≡ true → Side (Fine t) r.subtree) rs →
      length (append_logic_rule_result t q rs).nodes ≤ nobody →
      (S' : ℕ → Bool) × Put (append_logic_rule_result t q rs).nodes S' × ((x : ℕ) → x < old → S' x ≡ S₀ x)
  unfolding append_logic_rule_result append_subtree
  all_put old S₀ [] t S q lo hi p quiet h k same i b g bound = (S, p, same)
  all_put old S₀ (r ∷ rs) t S q lo hi p quiet h k same i b g bound =
      let s = r.subtree in
      let d = append_subtree t q r.target s in
      let e = ext_subtree t q r.target s in
      let le : i.0 ≤ hi = issued_le i.0 hi rs i.2 in
      let c : lo + length (flat s) ≡ i.0 = i.1.count in
      let ready = takers t S r.target s p.whole (λ z. g.0 (sym (same r.target b.0) ∙ z)) in
      let one =
      on_put (filter (takes t r.target) (leaves t)) lo i.0 t S q s p i.1 (λ x a z. quiet x a (omega arith)) (omega arith) ready
      (omega (arith, (ext_result rs d.nodes d.waiting).longer)) in
      all_put old S₀ rs d.nodes one.0 d.waiting i.0 hi one.1 (λ x a z. one.2 x (omega arith, inr a) ∙ quiet x (omega arith) z)
      (omega (arith, e.longer)) (omega arith) (λ x a. one.2 x (omega arith, inl (omega arith)) ∙ same x a) i.2 b.1
      (each_map {Q = λ (j : Targeted). S₀ j.target ≡ true → Side (Fine d.nodes) j.subtree}
      (λ (j : Targeted) (a : S₀ j.target ≡ true → Side (Fine t) j.subtree) z. side_map (Fine t) (Fine d.nodes) j.subtree (fine_ext t d.nodes e) (a z)) rs g.1)
      bound
