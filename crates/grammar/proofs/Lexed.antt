-- The scan finds the tokens of the definition, and those alone; so a text has one list of tokens.
use mathlib.Core.Path.{◌≡◌, refl, sym, ap, subst, ◌∙◌}
use mathlib.Core.Bool.{Bool, true, false, cond, not, ◌&&◌}
use mathlib.Core.List.{List, [], ◌∷◌, ◌++◌}
use Prim.Native.Nat.{ℕ, zero, suc, ◌+◌, ◌≤◌}
use native.Mathlib.Omega.{arith}
use lib.Dec.{eqb, leb}
use lib.ListN.{length, get_or, drop, length-append, length-drop}
use lib.Seq.{drop-append_seam, get_or-drop, drop-drop}
use borrow.Author.Tests.{eq-eqb, ne_eqb, eqb-true, eqb-false, le-leb, leb-true}
use Rattle.definition.specs.Limits.{largest_atom}
use Rattle.definition.specs.Lists.{Each}
use Rattle.definition.proofs.Basics.Lists.{and_left, and_right}
use Rattle.grammar.specs.Tokens.{Token, name, invalid}
use Rattle.grammar.specs.Lexing.{is_digit, Digits, value, NoLeadingZero, Spells, a_name, a_tilde, a_box, a_diamond, an_ampersand, a_bar, an_arrow, a_double, a_both, an_opening, a_closing, a_newline, NoDigit, Follows, NoToken, Placed, placed, Lexes, nothing, a_space, a_token, no_token}
use Rattle.grammar.specs.Scan.{Scan, found, lost, Entry, table, hits, first_hit, digits_of, well_begun, name_by, scan, placing, lex_from, lexed}

-- the digits before what is none
digits_all : (ds rest : List ℕ) → Digits ds → NoDigit rest → digits_of (ds ++ rest) ≡ ds
digits_all [] [] h n = refl
digits_all [] (b ∷ rest) h n = rw n
digits_all (d ∷ ds) rest (h, g) n = rw h (ap (λ (v : List ℕ). d ∷ v) (digits_all ds rest g n))

well_begun_lem : (ds : List ℕ) → NoLeadingZero ds → well_begun ds ≡ true
well_begun_lem [] h = absurd h
well_begun_lem (d ∷ []) h = refl
well_begun_lem (d ∷ e ∷ ds) h = rw (ne_eqb d 48 h)

finds_name : (ds rest : List ℕ) → Digits ds → NoLeadingZero ds → value ds ≤ largest_atom → NoDigit rest → scan (97 ∷ (ds ++ rest)) ≡ found (name (value ds)) (suc (length ds))
unfolding scan name_by
finds_name ds rest h z le n = rw (digits_all ds rest h n, well_begun_lem ds z, le-leb (value ds) largest_atom le)

-- the scan finds each token of the definition
pub scan_finds : (b rest : List ℕ) (t : Token) → Spells b t → Follows t rest → scan (b ++ rest) ≡ found t (length b)
unfolding scan
scan_finds _ rest _ (a_name ds h z le) f = finds_name ds rest h z le f
scan_finds _ rest _ a_tilde f = refl
scan_finds _ rest _ a_box f = refl
scan_finds _ rest _ a_diamond f = refl
scan_finds _ rest _ an_ampersand f = refl
scan_finds _ rest _ a_bar f = refl
scan_finds _ rest _ an_arrow f = refl
scan_finds _ rest _ a_double f = refl
scan_finds _ rest _ a_both f = refl
scan_finds _ rest _ an_opening f = refl
scan_finds _ rest _ a_closing f = refl
scan_finds _ rest _ a_newline f = refl

pub scan_lost : (bs : List ℕ) → scan bs ≡ lost → NoToken bs
scan_lost bs e b t rest s f q =
    let a : scan bs ≡ found t (length b) = ap scan (sym q) ∙ scan_finds b rest t s f in
    let z : ◌≡◌ {A = ℕ} 0 1 = cc in
    omega arith

-- a token that begins the bytes
pub record Begins (bs : List ℕ) (t : Token) (k : ℕ) : Type 0 where
  pub bytes : List ℕ
  pub split : bytes ++ drop k bs ≡ bs
  pub size : k ≡ length bytes
  pub spells : Spells bytes t
  pub follows : Follows t (drop k bs)

-- a byte that is not 0 is there
byte_there : (bs : List ℕ) (a : ℕ) → get_or bs 0 0 ≡ a → 1 ≤ a → a ∷ drop 1 bs ≡ bs
byte_there [] a e h = absurd (omega arith)
byte_there (b ∷ bs) a e h = ap (λ (x : ℕ). x ∷ bs) (sym e)

two_there : (bs : List ℕ) (a b : ℕ) → get_or bs 0 0 ≡ a → get_or bs 1 0 ≡ b → 1 ≤ a → 1 ≤ b → a ∷ b ∷ drop 2 bs ≡ bs
two_there bs a b e f h g = ap (λ (v : List ℕ). a ∷ b ∷ v) (sym (drop-drop 1 1 bs)) ∙ ap (λ (v : List ℕ). a ∷ v) (byte_there (drop 1 bs) b (get_or-drop 1 bs 0 0 ∙ f) g) ∙ byte_there bs a e h

three_there : (bs : List ℕ) (a b c : ℕ) → get_or bs 0 0 ≡ a → get_or bs 1 0 ≡ b → get_or bs 2 0 ≡ c → 1 ≤ a → 1 ≤ b → 1 ≤ c → a ∷ b ∷ c ∷ drop 3 bs ≡ bs
three_there bs a b c e f q h g i = ap (λ (v : List ℕ). a ∷ b ∷ c ∷ v) (sym (drop-drop 1 2 bs)) ∙ ap (λ (v : List ℕ). a ∷ b ∷ v) (byte_there (drop 2 bs) c (get_or-drop 2 bs 0 0 ∙ q) i) ∙ two_there bs a b e f h g

-- a token has a first byte, and it is no space
spelled_head : {b : List ℕ} {t : Token} → Spells b t → (x : ℕ) × (xs : List ℕ) × (b ≡ x ∷ xs) × (eqb x 32 ≡ false)
spelled_head (a_name ds h z le) = (97, ds, refl, refl)
spelled_head a_tilde = (126, [], refl, refl)
spelled_head a_box = (91, 93 ∷ [], refl, refl)
spelled_head a_diamond = (60, 62 ∷ [], refl, refl)
spelled_head an_ampersand = (38, [], refl, refl)
spelled_head a_bar = (124, [], refl, refl)
spelled_head an_arrow = (45, 62 ∷ [], refl, refl)
spelled_head a_double = (61, 62 ∷ [], refl, refl)
spelled_head a_both = (60, 45 ∷ 62 ∷ [], refl, refl)
spelled_head an_opening = (40, [], refl, refl)
spelled_head a_closing = (41, [], refl, refl)
spelled_head a_newline = (10, [], refl, refl)

pub spells_some : {b : List ℕ} {t : Token} → Spells b t → 1 ≤ length b
spells_some s = omega (arith, ap length (spelled_head s).2)

-- what an entry says of bytes that hit it
abbrev Good : Entry → Type 0
Good e = (bs : List ℕ) → hits e (get_or bs 0 0) (get_or bs 1 0) (get_or bs 2 0) ≡ true → Begins bs e.token e.size

abbrev Plain : Token → Type 0
Plain t = (bs : List ℕ) → Follows t bs

one_byte : (a : ℕ) (t : Token) → 1 ≤ a → Plain t → Spells (a ∷ []) t → (bs : List ℕ) → eqb (get_or bs 0 0) a && true ≡ true → Begins bs t 1
one_byte a t h p s bs e =
    record { bytes = a ∷ []; split = byte_there bs a (eqb-true (get_or bs 0 0) a (and_left (eqb (get_or bs 0 0) a) true e)) h; size = refl; spells = s; follows = p (drop 1 bs) }

two_bytes : (a b : ℕ) (t : Token) → 1 ≤ a → 1 ≤ b → Plain t → Spells (a ∷ b ∷ []) t → (bs : List ℕ) → eqb (get_or bs 0 0) a && (eqb (get_or bs 1 0) b && true) ≡ true → Begins bs t 2
two_bytes a b t h g p s bs e =
    let x : eqb (get_or bs 0 0) a ≡ true = and_left (eqb (get_or bs 0 0) a) (eqb (get_or bs 1 0) b && true) e in
    let y : eqb (get_or bs 1 0) b ≡ true = and_left (eqb (get_or bs 1 0) b) true (and_right (eqb (get_or bs 0 0) a) (eqb (get_or bs 1 0) b && true) e) in
    record { bytes = a ∷ b ∷ []; split = two_there bs a b (eqb-true (get_or bs 0 0) a x) (eqb-true (get_or bs 1 0) b y) h g; size = refl; spells = s; follows = p (drop 2 bs) }

three_bytes : (a b c : ℕ) (t : Token) → 1 ≤ a → 1 ≤ b → 1 ≤ c → Plain t → Spells (a ∷ b ∷ c ∷ []) t → (bs : List ℕ) → eqb (get_or bs 0 0) a && (eqb (get_or bs 1 0) b && eqb (get_or bs 2 0) c) ≡ true → Begins bs t 3
three_bytes a b c t h g i p s bs e =
    let x : eqb (get_or bs 0 0) a ≡ true = and_left (eqb (get_or bs 0 0) a) (eqb (get_or bs 1 0) b && eqb (get_or bs 2 0) c) e in
    let yz : eqb (get_or bs 1 0) b && eqb (get_or bs 2 0) c ≡ true = and_right (eqb (get_or bs 0 0) a) (eqb (get_or bs 1 0) b && eqb (get_or bs 2 0) c) e in
    let y : eqb (get_or bs 1 0) b ≡ true = and_left (eqb (get_or bs 1 0) b) (eqb (get_or bs 2 0) c) yz in
    let z : eqb (get_or bs 2 0) c ≡ true = and_right (eqb (get_or bs 1 0) b) (eqb (get_or bs 2 0) c) yz in
    record { bytes = a ∷ b ∷ c ∷ []; split = three_there bs a b c (eqb-true (get_or bs 0 0) a x) (eqb-true (get_or bs 1 0) b y) (eqb-true (get_or bs 2 0) c z) h g i; size = refl; spells = s; follows = p (drop 3 bs) }

infixr 5 ◌and◌
◌and◌ : {A B : Type 0} → A → B → A × B
◌and◌ a b = (a, b)

good_table : Each Good table
good_table =
    one_byte 126 _ (omega arith) (λ _. tt) a_tilde
    and one_byte 38 _ (omega arith) (λ _. tt) an_ampersand
    and one_byte 124 _ (omega arith) (λ _. tt) a_bar
    and one_byte 40 _ (omega arith) (λ _. tt) an_opening
    and one_byte 41 _ (omega arith) (λ _. tt) a_closing
    and one_byte 10 _ (omega arith) (λ _. tt) a_newline
    and two_bytes 91 93 _ (omega arith) (omega arith) (λ _. tt) a_box
    and two_bytes 60 62 _ (omega arith) (omega arith) (λ _. tt) a_diamond
    and two_bytes 45 62 _ (omega arith) (omega arith) (λ _. tt) an_arrow
    and two_bytes 61 62 _ (omega arith) (omega arith) (λ _. tt) a_double
    and three_bytes 60 45 62 _ (omega arith) (omega arith) (omega arith) (λ _. tt) a_both
    and tt

hit_sound : (es : List Entry) → Each Good es → (bs : List ℕ) (t : Token) (k : ℕ) → first_hit es (get_or bs 0 0) (get_or bs 1 0) (get_or bs 2 0) ≡ found t k → Begins bs t k
hit_sound [] g bs t k e = let z : ◌≡◌ {A = ℕ} 0 1 = cc in absurd (omega arith)
hit_sound (x ∷ es) (g, gs) bs t k e = go (λ f. hit_sound es gs bs t k f) (hits x (get_or bs 0 0) (get_or bs 1 0) (get_or bs 2 0)) refl e
  where
    go : (first_hit es (get_or bs 0 0) (get_or bs 1 0) (get_or bs 2 0) ≡ found t k → Begins bs t k) → (b : Bool) → hits x (get_or bs 0 0) (get_or bs 1 0) (get_or bs 2 0) ≡ b → cond b (found x.token x.size) (first_hit es (get_or bs 0 0) (get_or bs 1 0) (get_or bs 2 0)) ≡ found t k → Begins bs t k
    go ih true h f =
        let p : x.token ≡ t = cc in
        let q : x.size ≡ k = cc in
        subst (λ (u : Token). Begins bs u k) p (subst (λ (n : ℕ). Begins bs x.token n) q (g bs h))
    go ih false h f = ih f

-- the digits that the scan finds: digits, the bytes' first, and no digit follows
record Numbered (bs ds : List ℕ) : Type 0 where
  good : Digits ds
  split : ds ++ drop (length ds) bs ≡ bs
  end : NoDigit (drop (length ds) bs)

numbered : (bs : List ℕ) → Numbered bs (digits_of bs)
numbered [] = record { good = tt; split = refl; end = tt }
numbered (b ∷ bs) = go (numbered bs) (is_digit b) refl
  where
    go : Numbered bs (digits_of bs) → (x : Bool) → is_digit b ≡ x → Numbered (b ∷ bs) (cond x (b ∷ digits_of bs) [])
    go h true e = record { good = (e, h.good); split = ap (λ (v : List ℕ). b ∷ v) h.split; end = h.end }
    go h false e = record { good = tt; split = refl; end = e }

well_begun_back : (ds : List ℕ) → well_begun ds ≡ true → NoLeadingZero ds
well_begun_back [] e = let z : ◌≡◌ {A = ℕ} 0 1 = cc in omega arith
well_begun_back (d ∷ []) e = tt
well_begun_back (d ∷ f ∷ ds) e = λ (h : d ≡ 48). let q : not (eqb d 48) ≡ false = rw (eq-eqb d 48 h) in let z : ◌≡◌ {A = ℕ} 0 1 = cc in omega arith

name_sound : (bs : List ℕ) (t : Token) (k : ℕ) → get_or bs 0 0 ≡ 97 → name_by (digits_of (drop 1 bs)) ≡ found t k → Begins bs t k
unfolding name_by
name_sound bs t k h e = go (well_begun ds && leb (value ds) largest_atom) refl e
  where
    ds : List ℕ
    ds = digits_of (drop 1 bs)

    there : 97 ∷ drop 1 bs ≡ bs
    there = byte_there bs 97 h (omega arith)

    rest : drop (suc (length ds)) bs ≡ drop (length ds) (drop 1 bs)
    rest = ap (λ (v : List ℕ). drop (suc (length ds)) v) (sym there)

    go : (b : Bool) → well_begun ds && leb (value ds) largest_atom ≡ b → cond b (found (name (value ds)) (suc (length ds))) lost ≡ found t k → Begins bs t k
    go false q f = let z : ◌≡◌ {A = ℕ} 0 1 = cc in absurd (omega arith)
    go true q f =
        let p : name (value ds) ≡ t = cc in
        let r : suc (length ds) ≡ k = cc in
        subst (λ (u : Token). Begins bs u k) p (subst (λ (n : ℕ). Begins bs (name (value ds)) n) r
        (record {
          bytes = 97 ∷ ds;
          split = ap (λ (v : List ℕ). 97 ∷ (ds ++ v)) rest ∙ ap (λ (v : List ℕ). 97 ∷ v) (numbered (drop 1 bs)).split ∙ there;
          size = refl;
          spells = a_name ds (numbered (drop 1 bs)).good (well_begun_back ds (and_left (well_begun ds) (leb (value ds) largest_atom) q)) (leb-true (value ds) largest_atom (and_right (well_begun ds) (leb (value ds) largest_atom) q));
          follows = subst NoDigit (sym rest) (numbered (drop 1 bs)).end;
        }))

-- what the scan finds is a token of the definition
pub scan_sound : (bs : List ℕ) (t : Token) (k : ℕ) → scan bs ≡ found t k → Begins bs t k
unfolding scan
scan_sound bs t k e = go (eqb (get_or bs 0 0) 97) refl e
  where
    go : (b : Bool) → eqb (get_or bs 0 0) 97 ≡ b → cond b (name_by (digits_of (drop 1 bs))) (first_hit table (get_or bs 0 0) (get_or bs 1 0) (get_or bs 2 0)) ≡ found t k → Begins bs t k
    go true h f = name_sound bs t k (eqb-true (get_or bs 0 0) 97 h) f
    go false h f = hit_sound table good_table bs t k f

-- the lexer lexes
pub lexes : (n o : ℕ) (bs : List ℕ) → length bs ≤ n → Lexes o bs (lex_from n o bs)
unfolding lex_from
lexes zero o [] h = nothing
lexes zero o (b ∷ bs) h = absurd (omega arith)
lexes (suc n) o [] h = nothing
lexes (suc n) o (b ∷ bs) h = at_space (λ o bs h. lexes n o bs h) (eqb b 32) refl
  where
    rest : ℕ → List Placed
    rest k = lex_from n (o + k) (drop k (b ∷ bs))

    at_scan : ((o : ℕ) (bs : List ℕ) → length bs ≤ n → Lexes o bs (lex_from n o bs)) → (b ≡ 32 → ⊥) → (s : Scan) → scan (b ∷ bs) ≡ s → Lexes o (b ∷ bs) (placing o s rest)
    at_scan ih ne (found t k) e =
        let g = scan_sound (b ∷ bs) t k e in
        let m : 1 ≤ k = omega (arith, spells_some g.spells, g.size) in
        let w : Lexes (o + k) (drop k (b ∷ bs)) (rest k) = ih (o + k) (drop k (b ∷ bs)) (omega (arith, length-drop k (b ∷ bs))) in
        let v : Lexes (o + length g.bytes) (drop k (b ∷ bs)) (rest k) = subst (λ (i : ℕ). Lexes (o + i) (drop k (b ∷ bs)) (rest k)) g.size w in
        subst (λ (u : List ℕ). Lexes o u (placed o t ∷ rest k)) g.split (a_token o g.spells g.follows v)
    at_scan ih ne lost e = no_token o b bs ne (scan_lost (b ∷ bs) e)

    at_space : ((o : ℕ) (bs : List ℕ) → length bs ≤ n → Lexes o bs (lex_from n o bs)) → (x : Bool) → eqb b 32 ≡ x → Lexes o (b ∷ bs) (cond x (lex_from n (suc o) bs) (placing o (scan (b ∷ bs)) rest))
    at_space ih true e = subst (λ (x : ℕ). Lexes o (x ∷ bs) (lex_from n (suc o) bs)) (sym (eqb-true b 32 e)) (a_space (ih (suc o) bs (omega arith)))
    at_space ih false e = at_scan ih (eqb-false b 32 e) (scan (b ∷ bs)) refl

lex_found : (m o x : ℕ) (xs : List ℕ) (t : Token) (k : ℕ) → eqb x 32 ≡ false → scan (x ∷ xs) ≡ found t k → lex_from (suc m) o (x ∷ xs) ≡ placed o t ∷ lex_from m (o + k) (drop k (x ∷ xs))
unfolding lex_from
lex_found m o x xs t k e f = rw (e, f)

lex_lost : (m o x : ℕ) (xs : List ℕ) → eqb x 32 ≡ false → scan (x ∷ xs) ≡ lost → lex_from (suc m) o (x ∷ xs) ≡ placed o invalid ∷ []
unfolding lex_from
lex_lost m o x xs e f = rw (e, f)

lex_token : (m o : ℕ) (b bs : List ℕ) (t : Token) → Spells b t → Follows t bs → lex_from (suc m) o (b ++ bs) ≡ placed o t ∷ lex_from m (o + length b) bs
lex_token m o b bs t s f = go (spelled_head s)
  where
    go : (x : ℕ) × (xs : List ℕ) × (b ≡ x ∷ xs) × (eqb x 32 ≡ false) → lex_from (suc m) o (b ++ bs) ≡ placed o t ∷ lex_from m (o + length b) bs
    go (x, xs, e, ne) =
        let a : scan (x ∷ (xs ++ bs)) ≡ found t (length b) = subst (λ (v : List ℕ). scan (v ++ bs) ≡ found t (length b)) e (scan_finds b bs t s f) in
        let c : drop (length b) (x ∷ (xs ++ bs)) ≡ bs = subst (λ (v : List ℕ). drop (length b) (v ++ bs) ≡ bs) e (drop-append_seam b bs) in
        ap (λ (v : List ℕ). lex_from (suc m) o (v ++ bs)) e ∙ lex_found m o x (xs ++ bs) t (length b) ne a ∙ ap (λ (v : List ℕ). placed o t ∷ lex_from m (o + length b) v) c

-- what the definition lexes is what the lexer finds
pub lexed_only : {o : ℕ} {bs : List ℕ} {ts : List Placed} → Lexes o bs ts → (n : ℕ) → length bs ≤ n → lex_from n o bs ≡ ts
unfolding lex_from
lexed_only nothing zero h = refl
lexed_only nothing (suc n) h = refl
lexed_only (a_space d) zero h = absurd (omega arith)
lexed_only (a_space d) (suc n) h = lexed_only d n (omega arith)
lexed_only (a_token o {b = b} {bs = bs} s f d) zero h = absurd (omega (arith, spells_some s, length-append b bs))
lexed_only (a_token o {b = b} {bs = bs} {t = t} s f d) (suc n) h = lex_token n o b bs t s f ∙ ap (λ (v : List Placed). placed o t ∷ v) (lexed_only d n (omega (arith, spells_some s, length-append b bs)))
lexed_only (no_token o b bs ne nt) zero h = absurd (omega arith)
lexed_only (no_token o b bs ne nt) (suc n) h = go (scan (b ∷ bs)) refl
  where
    go : (s : Scan) → scan (b ∷ bs) ≡ s → lex_from (suc n) o (b ∷ bs) ≡ placed o invalid ∷ []
    go (found t k) e = let g = scan_sound (b ∷ bs) t k e in absurd (nt g.bytes t (drop k (b ∷ bs)) g.spells g.follows g.split)
    go lost e = lex_lost n o b bs (ne_eqb b 32 ne) e

-- a text has one list of tokens
pub one_lexing : {o : ℕ} {bs : List ℕ} {ts us : List Placed} → Lexes o bs ts → Lexes o bs us → ts ≡ us
one_lexing {bs = bs} d e = sym (lexed_only d (length bs) (omega arith)) ∙ lexed_only e (length bs) (omega arith)

pub lexes_at : (text : List ℕ) (at : ℕ) → Lexes at (drop at text) (lexed text at)
unfolding lexed
lexes_at text at = lexes (length (drop at text)) at (drop at text) (omega arith)

pub lexed_as : (text : List ℕ) (at : ℕ) (ts : List Placed) → Lexes at (drop at text) ts → lexed text at ≡ ts
lexed_as text at ts d = one_lexing (lexes_at text at) d
