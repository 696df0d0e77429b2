-- The typed call, from what the reader says of the text and the contract of the call.
use mathlib.Core.Path.{◌≡◌, refl, sym, ap, ◌∙◌, subst}
use mathlib.Core.List.{List}
use Rattle.std.proofs.Common.{Err}
use Prim.Native.Nat.{ℕ, ◌<◌, ◌≤◌, ◌*◌, ◌-◌}
use native.Mathlib.Omega.{arith}
use lib.ListN.{length, take, drop, replicate, length-append}
use Rattle.definition.specs.Limits.{record_length, most_text, text_tray_length}
use Rattle.definition.specs.RefusalNumbers.{tray_too_short, too_many_identifiers, unreadable_text, text_too_long}
use Rattle.definition.specs.Lists.{concat_map, padded}
use Rattle.definition.specs.Records.{decode}
use Rattle.definition.specs.Formula.{Form, branch_of}
use Rattle.definition.specs.Setting.{setting_of}
use Rattle.definition.specs.Trays.{Trays, record_bytes, over}
use Rattle.definition.specs.Call.{Answer, refusal}
use Rattle.definition.specs.Claim.{NoModel}
use Rattle.definition.specs.Completeness.{HasModel}
use Rattle.definition.proofs.Call.Outcomes.{refusal_number}
use Rattle.definition.proofs.Completeness.Whole.{has_model}
use Rattle.grammar.specs.Reading.{UnreadableAt}
use Rattle.grammar.specs.Lines.{lines_from, tray_of}
use Rattle.grammar.proofs.Decoded.{length_bytes, tray_prefix}
use Rattle.grammar.proofs.Theorems.{one_reading, one_offset, apart, faithful, decoded}
use Rattle.prover.specs.Contract.{Contract}
use Rattle.prover.specs.Said.{said}
use Rattle.reader.specs.Contract.{Taken, ReadText}
use Rattle.reader.specs.Refused.{refusal_of}
use Rattle.reader.specs.declared.TextError.{TextError}
use Rattle.reader.specs.declared.TextError.TheVariants as E
use Rattle.typed.specs.Contract.{Ran, TypedContract}

-- the records that were read stand at the beginning of the text tray
module _ {text textTray textTrayLeft : List ℕ} {count : ℕ} (t : Taken text textTray textTrayLeft count) where
  abbrev bytes : List ℕ
  bytes = concat_map record_bytes (lines_from 0 t.forms)

  pub records_fit : record_length * count ≤ length textTrayLeft
  unfolding over padded
  records_fit =
      let zeros : List ℕ = replicate (text_tray_length - length bytes) 0 in
      let written = tray_of (lines_from 0 t.forms) in
      omega (arith, t.count_is, ap length t.tray, length-append written (drop (length written) textTray), length-append bytes zeros, length_bytes (lines_from 0 t.forms))

  records_begin : take (record_length * count) textTrayLeft ≡ bytes
  unfolding over
  records_begin =
      let rs = lines_from 0 t.forms in
      ap (take (record_length * count)) t.tray ∙ ap (λ (n : ℕ). take (record_length * n) (over (tray_of rs) textTray)) t.count_is ∙ tray_prefix rs (drop (length (tray_of rs)) textTray)

-- the branch that the records are is the list of the text's formulas
same_forms : (ps : List Form) → branch_of (decode (concat_map record_bytes (lines_from 0 ps))) ≡ ps
same_forms ps = ap branch_of (decoded ps) ∙ faithful ps

module _ (text : List ℕ) (flags : ℕ) {textTray textTrayLeft : List ℕ} (lent : Trays) where
  pub too_short : (length textTray < text_tray_length) × (textTrayLeft ≡ textTray) → TypedContract text flags textTray lent (refusal tray_too_short 0) textTrayLeft lent
  too_short (h, kept) = record {
    short_tray = λ _. record { says = refl; text_tray_kept = kept; trays_kept = refl };
    long_text = λ k _. absurd (omega (arith, h, k));
    unreadable = λ k _ _ _. absurd (omega (arith, h, k));
    taken = λ k _ _ _. absurd (omega (arith, h, k));
    unreadable_exactly = λ o. (λ e. let d : tray_too_short ≡ unreadable_text = cc in absurd (omega (arith, d)), λ (k, _, _). absurd (omega (arith, h, k)));
    long_exactly = (λ e. let d : tray_too_short ≡ text_too_long = cc in absurd (omega (arith, d)), λ (k, _). absurd (omega (arith, h, k)));
  }

  pub too_long : (text_tray_length ≤ length textTray) × (most_text < length text) × (textTrayLeft ≡ textTray) → TypedContract text flags textTray lent (refusal text_too_long 0) textTrayLeft lent
  too_long (wide, h, kept) = record {
    short_tray = λ k. absurd (omega (arith, wide, k));
    long_text = λ _ _. record { says = refl; text_tray_kept = kept; trays_kept = refl };
    unreadable = λ _ k _ _. absurd (omega (arith, h, k));
    taken = λ _ k _ _. absurd (omega (arith, h, k));
    unreadable_exactly = λ o. (λ e. let d : text_too_long ≡ unreadable_text = cc in absurd (omega (arith, d)), λ (_, k, _). absurd (omega (arith, h, k)));
    long_exactly = (λ _. (wide, h), λ _. refl);
  }

  pub unreadable : (o : ℕ) → (text_tray_length ≤ length textTray) × (length text ≤ most_text) × UnreadableAt text o × (textTrayLeft ≡ textTray) → TypedContract text flags textTray lent (refusal unreadable_text o) textTrayLeft lent
  unreadable o (wide, few, g, kept) = record {
    short_tray = λ k. absurd (omega (arith, wide, k));
    long_text = λ _ k. absurd (omega (arith, few, k));
    unreadable = λ _ _ p h. record { says = ap (refusal unreadable_text) (one_offset text o p g h); text_tray_kept = kept; trays_kept = refl };
    taken = λ _ _ ps h. absurd (apart text o ps g h);
    unreadable_exactly = λ p. (
      λ e. let d : o ≡ p = cc in (wide, few, subst (UnreadableAt text) d g),
      λ (_, _, h). ap (refusal unreadable_text) (one_offset text o p g h),
    );
    long_exactly = (λ e. let d : unreadable_text ≡ text_too_long = cc in absurd (omega (arith, d)), λ (_, k). absurd (omega (arith, few, k)));
  }

  -- a text that is not read
  pub refused : (e : TextError) → ReadText text textTray textTrayLeft (Err e) → TypedContract text flags textTray lent (said (Err (refusal_of e))) textTrayLeft lent
  unfolding said
  refused E.ShortTray h = too_short h
  refused E.TooLong h = too_long h
  refused (E.Unreadable o) h = unreadable o h

  module _ (answer : Answer) (left : Trays) where
    went : (ps : List Form) → textTrayLeft ≡ over (tray_of (lines_from 0 ps)) textTray → Contract (concat_map record_bytes (lines_from 0 ps)) flags lent answer left → Ran flags textTray lent answer textTrayLeft left ps
    went ps tray k =
        let F = setting_of flags in
        record {
          records = tray;
          call = k;
          proved_is_sound = λ p. subst (NoModel F) (same_forms ps) (k.proved_is_sound p);
          open_has_model = λ c p. subst (HasModel F) (same_forms ps) (has_model _ _ (k.open_has_model c p));
          exact_in_time = λ c f p. let e = k.exact_in_time c f p in (λ q. subst (NoModel F) (same_forms ps) (e.0 q), λ q. e.1 (subst (NoModel F) (sym (same_forms ps)) q));
        }

    pub read_and_run : {count : ℕ} → (text_tray_length ≤ length textTray) × (length text ≤ most_text) × Taken text textTray textTrayLeft count →
        Contract (take (record_length * count) textTrayLeft) flags lent answer left → TypedContract text flags textTray lent answer textTrayLeft left
    read_and_run (wide, few, t) c =
        let k = subst (λ (b : List ℕ). Contract b flags lent answer left) (records_begin t) c in
        let low : (number place : ℕ) → answer ≡ refusal number place → number ≤ too_many_identifiers = λ number place e. refusal_number (bytes t) flags lent number place (sym k.answers ∙ e) in
        record {
          short_tray = λ h. absurd (omega (arith, wide, h));
          long_text = λ _ h. absurd (omega (arith, few, h));
          unreadable = λ _ _ o g. absurd (apart text o t.forms g t.reads);
          taken = λ _ _ ps h. subst (Ran flags textTray lent answer textTrayLeft left) (one_reading text t.forms ps t.reads h) (went t.forms t.tray k);
          unreadable_exactly = λ o. (λ e. absurd (omega (arith, low unreadable_text o e)), λ (_, _, g). absurd (apart text o t.forms g t.reads));
          long_exactly = (λ e. absurd (omega (arith, low text_too_long 0 e)), λ (_, h). absurd (omega (arith, few, h)));
        }
