-- What is read at a place of an array of words.
use Rattle.std.proofs.Common.{◌≡◌, refl, sym, ap, ◌∙◌, List, [], ◌∷◌, ℕ, suc, ◌+◌, ◌-◌, ◌≤◌, ◌<◌, Bool, true, false, leb, get_or, add-one, arith}
use borrow.Author.Tests.{leb-true, leb-false}
use Rattle.definition.specs.Limits.{most_text}
use Rattle.grammar.specs.Tokens.{Token}
use Rattle.lexer.specs.Words.{before, tokens_within, tokens_from, Stands}
use Rattle.lexer.specs.declared.Word.{Word}

pub ends_at : (words : List Word) (at : ℕ) → most_text ≤ at → tokens_from words at ≡ []
unfolding tokens_within
ends_at words at h = let z : most_text - at ≡ 0 = omega arith in ap (λ (n : ℕ). tokens_within n words at) z

from : (words : List Word) (at : ℕ) → at < most_text → tokens_from words at ≡ before (get_or words at Word.End) (tokens_from words (at + 1))
unfolding tokens_within
from words at h = let z : most_text - at ≡ suc (most_text - suc at) = omega arith in rw add-one (ap (λ (n : ℕ). tokens_within n words at) z)

-- beyond the last place an array has the end
pub stands : (words : List Word) (at : ℕ) (w : Word) → (most_text ≤ at → w ≡ Word.End) → w ≡ get_or words at Word.End → Stands words at w
stands words at w beyond e = go (leb (suc at) most_text) refl
  where
    here : at < most_text → (w : Word) → tokens_from words at ≡ before w (tokens_from words (at + 1)) → Stands words at w
    here h Word.End q = q
    here h (Word.Name a) q = record { inside = h; is = q }
    here h (Word.Sign s) q = record { inside = h; is = q }
    here h (Word.Joint j) q = record { inside = h; is = q }
    here h Word.Opening q = record { inside = h; is = q }
    here h Word.Closing q = record { inside = h; is = q }
    here h Word.Newline q = record { inside = h; is = q }
    here h Word.Invalid q = record { inside = h; is = q }

    go : (b : Bool) → leb (suc at) most_text ≡ b → Stands words at w
    go true q = let h : at < most_text = leb-true (suc at) most_text q in here h w (from words at h ∙ ap (λ (v : Word). before v (tokens_from words (at + 1))) (sym e))
    go false q = let h : most_text ≤ at = omega (arith, leb-false (suc at) most_text q) in rw (beyond h) (ends_at words at h)

-- what follows a token
pub from_cons : (words : List Word) (at : ℕ) (t : Token) (us : List Token) → tokens_from words at ≡ t ∷ us → us ≡ tokens_from words (at + 1)
from_cons words at t us e = go (leb (suc at) most_text) refl
  where
    here : (w : Word) → before w (tokens_from words (at + 1)) ≡ t ∷ us → us ≡ tokens_from words (at + 1)
    here Word.End f = cc
    here (Word.Name a) f = cc
    here (Word.Sign s) f = cc
    here (Word.Joint j) f = cc
    here Word.Opening f = cc
    here Word.Closing f = cc
    here Word.Newline f = cc
    here Word.Invalid f = cc

    go : (b : Bool) → leb (suc at) most_text ≡ b → us ≡ tokens_from words (at + 1)
    go true q = here (get_or words at Word.End) (sym (from words at (leb-true (suc at) most_text q)) ∙ e)
    go false q = let f : [] ≡ t ∷ us = sym (ends_at words at (omega (arith, leb-false (suc at) most_text q))) ∙ e in cc
