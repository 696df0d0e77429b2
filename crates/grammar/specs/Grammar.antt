-- "The grammar is defined without the reader": which lists of tokens are a phrase of a level, and the formula that each says; and which lists are a text.
use Rattle.std.specs.Prelude.{◌≡◌, List, [], ◌∷◌, ◌++◌, ℕ, zero, suc}
use Rattle.definition.specs.Formula.{Form, atom}
use Rattle.grammar.specs.Tokens.{Sign, Joint, Token, name, sign, joint, opening, closing, newline, signed, joined, level, loosest, leftward, rightward, side}

-- Phrase l ts p: the tokens ts, in which no joint outside brackets is looser than the level l, say the formula p
pub data Phrase : ℕ → List Token → Form → Type 0 where
  named : {n : ℕ} → Phrase zero (name n ∷ []) (atom n)
  -- "~, [] (Necessary) and <> (Possible) bind tightest"
  under : {s : Sign} {ts : List Token} {p : Form} → Phrase zero ts p → Phrase zero (sign s ∷ ts) (signed s p)
  -- "A bracketed formula may stand wherever an atom may"
  bracketed : {ts : List Token} {p : Form} → Phrase loosest ts p → Phrase zero (opening ∷ (ts ++ (closing ∷ []))) p
  -- what binds tighter may stand where something looser may
  single : {l : ℕ} {ts : List Token} {p : Form} → Phrase l ts p → Phrase (suc l) ts p
  -- "& and | group to the left": what stands left of the joint may be of its level, what stands right binds tighter
  grouped_left : (j : Joint) {l : ℕ} {ts us : List Token} {p q : Form} → level j ≡ suc l → side j ≡ leftward →
      Phrase (suc l) ts p → Phrase l us q → Phrase (suc l) (ts ++ (joint j ∷ us)) (joined j p q)
  -- "the arrows to the right": the other way round
  grouped_right : (j : Joint) {l : ℕ} {ts us : List Token} {p q : Form} → level j ≡ suc l → side j ≡ rightward →
      Phrase l ts p → Phrase (suc l) us q → Phrase (suc l) (ts ++ (joint j ∷ us)) (joined j p q)

-- "A newline ends a formula, the last included"; "Empty text or spaces alone have no formula and are blank"; "an empty line is garbled", since a phrase has a token
pub data Text : List Token → List Form → Type 0 where
  blank : Text [] []
  line : {ts us : List Token} {p : Form} {ps : List Form} → Phrase loosest ts p → Text us ps → Text (ts ++ (newline ∷ us)) (p ∷ ps)

-- tokens that can be continued to a text, however long
abbrev pub Viable : List Token → Type 0
Viable ts = (us : List Token) × (ps : List Form) × Text (ts ++ us) ps
