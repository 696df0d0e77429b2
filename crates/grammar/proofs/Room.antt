-- No more records than tokens, and no more tokens than bytes.
use mathlib.Core.Path.{ap}
use mathlib.Core.List.{List, [], ◌∷◌, ◌++◌}
use Prim.Native.Nat.{ℕ, ◌+◌, ◌-◌, ◌≤◌}
use native.Mathlib.Omega.{arith}
use lib.ListN.{length, length-append, length-map}
use Rattle.definition.specs.Records.{Rec}
use Rattle.definition.specs.Formula.{Form}
use Rattle.grammar.specs.Tokens.{Token, closing, newline, joint, Joint, joined}
use Rattle.grammar.specs.Lexing.{Placed, Lexes, nothing, a_space, a_token, no_token}
use Rattle.grammar.specs.Grammar.{Phrase, named, under, bracketed, single, grouped_left, grouped_right, Text, blank, line}
use Rattle.grammar.specs.Reading.{Reads}
use Rattle.grammar.specs.Lines.{rec, records_of, lines_from}
use Rattle.grammar.proofs.Connectives.{sign_of, sign_records, joint_of, joint_records, length_marked}
use Rattle.grammar.proofs.Lexed.{spells_some}

few_joined : (j : Joint) (p q : Form) (ts us : List Token) (n : ℕ) → ((k : ℕ) → length (records_of p 0 k) ≤ length ts) → ((k : ℕ) → length (records_of q 0 k) ≤ length us) →
    length (records_of (joined j p q) 0 n) ≤ length (ts ++ (joint j ∷ us))
few_joined j p q ts us n h k =
    let ps : List Rec = records_of p 0 n in
    let middle : ℕ = n + length ps in
    let qs : List Rec = records_of q 0 middle in
    omega (arith, ap length (joint_records j p q 0 n), length-append (ps ++ qs) (rec 0 (joint_of j) (middle - 1) (middle + length qs - 1) ∷ []), length-append ps qs, h n, k middle, length-append ts (joint j ∷ us))

few_records : {l : ℕ} {ts : List Token} {p : Form} → Phrase l ts p → (n : ℕ) → length (records_of p 0 n) ≤ length ts
unfolding records_of
few_records named n = omega arith
few_records (under {s = s} {p = p} h) n =
    let ps : List Rec = records_of p 0 n in
    omega (arith, ap length (sign_records s p 0 n), length-append ps (rec 0 (sign_of s) (n + length ps - 1) 0 ∷ []), few_records h n)
few_records (bracketed {ts = ts} h) n = omega (arith, few_records h n, length-append ts (closing ∷ []))
few_records (single h) n = few_records h n
few_records (grouped_left j {ts = ts} {us = us} {p = p} {q = q} e s h k) n = few_joined j p q ts us n (λ i. few_records h i) (λ i. few_records k i)
few_records (grouped_right j {ts = ts} {us = us} {p = p} {q = q} e s h k) n = few_joined j p q ts us n (λ i. few_records h i) (λ i. few_records k i)

few_lines : {ts : List Token} {ps : List Form} → Text ts ps → (n : ℕ) → length (lines_from n ps) ≤ length ts
unfolding lines_from
few_lines blank n = omega arith
few_lines (line {ts = ts} {us = us} {p = p} {ps = ps} h t) n =
    let rs : List Rec = records_of p 1 n in
    let k : ℕ = n + length rs in
    omega (arith, length-append rs (lines_from k ps), length_marked p 1 n, few_records h n, few_lines t k, length-append ts (newline ∷ us))

few_tokens : {o : ℕ} {bs : List ℕ} {ts : List Placed} → Lexes o bs ts → length ts ≤ length bs
few_tokens nothing = omega arith
few_tokens (a_space d) = omega (arith, few_tokens d)
few_tokens (a_token o {b = b} {bs = bs} s f d) = omega (arith, spells_some s, few_tokens d, length-append b bs)
few_tokens (no_token o b bs ne nt) = omega arith

pub within : (bytes : List ℕ) (ps : List Form) → Reads bytes ps → length (lines_from 0 ps) ≤ length bytes
within bytes ps h = omega (arith, few_lines h.says 0, length-map h.tokens (λ (x : Placed). x.token), few_tokens h.lexed)
