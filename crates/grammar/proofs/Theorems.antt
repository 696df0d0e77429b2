-- The claims of specs/Claims.
use mathlib.Core.Path.{refl, sym, ap, ◌∙◌}
use mathlib.Core.List.{List}
use mathlib.Core.Logic.{◌⊎◌, inl, inr}
use Prim.Native.Nat.{ℕ}
use lib.ListN.{length, length-map}
use Rattle.definition.specs.Records.{number_of, marks}
use Rattle.definition.specs.Formula.{Form, form_at}
use Rattle.definition.specs.Trays.{record_bytes}
use Rattle.grammar.specs.Reading.{Reads, UnreadableAt}
use Rattle.grammar.specs.Lines.{records_of, lines_from}
use Rattle.grammar.specs.Examples.{Outcome, taken, unreadable, ComesTo}
use Rattle.grammar.specs.Claims.{OneReading, OneLexing, TakenOrUnreadable, Apart, OneOffset, Continued, Faithful, Decoded, Within, Marked, Examples, Written}
use Rattle.grammar.proofs.Lexed
use Rattle.grammar.proofs.Texts
use Rattle.grammar.proofs.Continued as C
use Rattle.grammar.proofs.Room
use Rattle.grammar.proofs.Faithful as F
use Rattle.grammar.proofs.Decoded as D
use Rattle.grammar.proofs.Examples as E

pub one_reading : OneReading
one_reading = Texts.one_reading

pub one_lexing : OneLexing
one_lexing o bytes ts us = Lexed.one_lexing

pub taken_or_unreadable : TakenOrUnreadable
taken_or_unreadable bytes = go (Texts.read_bytes bytes) (Texts.comes_to bytes)
  where
    go : (a : Outcome) → ComesTo bytes a → ((ps : List Form) × Reads bytes ps) ⊎ ((o : ℕ) × UnreadableAt bytes o)
    go (taken ps) h = inl (ps, h)
    go (unreadable o) h = inr (o, h)

pub apart : Apart
apart = Texts.apart

pub one_offset : OneOffset
one_offset = Texts.one_offset

pub continued : Continued
continued = C.continued

pub faithful : Faithful
faithful = F.faithful

pub decoded : Decoded
decoded = D.decoded

pub within : Within
within = Room.within

pub marked : Marked
marked ps = sym (length-map (marks (lines_from 0 ps)) (form_at (lines_from 0 ps))) ∙ ap length (F.faithful ps)

pub examples : Examples
examples = E.examples

pub written : Written
unfolding number_of record_bytes records_of lines_from
written = refl
