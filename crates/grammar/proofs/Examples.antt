-- The table of examples, computed by the definitional reader.
use mathlib.Core.Path.{◌≡◌, refl, subst}
use mathlib.Core.List.{List, [], ◌∷◌, map}
use Rattle.definition.specs.Lists.{Each}
use Rattle.grammar.specs.Tokens.{signed, joined, level, side}
use Rattle.grammar.specs.Lexing.{value_from}
use Rattle.grammar.specs.Scan.{name_by, scan, lex_from, lexed}
use Rattle.grammar.specs.Examples.{ComesTo, Example, table}
use Rattle.grammar.proofs.Reader.{phrase}
use Rattle.grammar.proofs.Exact.{lines}
use Rattle.grammar.proofs.Texts.{read_bytes, comes_to}

computed : map (λ (e : Example). read_bytes e.text) table ≡ map (λ (e : Example). e.outcome) table
unfolding signed joined level side value_from name_by scan lex_from lexed phrase lines
computed = refl

as_computed : (es : List Example) → map (λ (e : Example). read_bytes e.text) es ≡ map (λ (e : Example). e.outcome) es → Each (λ (e : Example). ComesTo e.text e.outcome) es
as_computed [] h = tt
as_computed (e ∷ es) h =
    let here : read_bytes e.text ≡ e.outcome = cc in
    (subst (ComesTo e.text) here (comes_to e.text), as_computed es (cc))

pub examples : Each (λ (e : Example). ComesTo e.text e.outcome) table
examples = as_computed table computed
