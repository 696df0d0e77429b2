-- The contract of the typed call, clause by clause. `textTray` is the text tray at entry and `lent` the other three; `textTrayLeft` and `left` are the trays at exit.
use Rattle.std.specs.Prelude.{◌≡◌, false, List, ◌↔◌, ℕ, ◌<◌, ◌≤◌, length}
use Rattle.definition.specs.Limits.{most_text, text_tray_length}
use Rattle.definition.specs.RefusalNumbers.{tray_too_short, unreadable_text, text_too_long}
use Rattle.definition.specs.Lists.{concat_map}
use Rattle.definition.specs.Formula.{Form}
use Rattle.definition.specs.Setting.{setting_of, partial_equivalence}
use Rattle.definition.specs.Trays.{Trays, record_bytes, over}
use Rattle.definition.specs.Call.{Answer, refusal}
use Rattle.definition.specs.Claim.{Proved, NoModel}
use Rattle.definition.specs.Finished.{InTime, Open}
use Rattle.definition.specs.Completeness.{ChecksContradictions, HasModel}
use Rattle.grammar.specs.Reading.{Reads, UnreadableAt}
use Rattle.grammar.specs.Lines.{lines_from, tray_of}
use Rattle.prover.specs.Contract.{Contract}

-- refused before any record is read: "neither writes"
pub record Refuses (textTray : List ℕ) (lent : Trays) (said : Answer) (textTrayLeft : List ℕ) (left : Trays) (number place : ℕ) : Type 0 where
  pub says : said ≡ refusal number place
  pub text_tray_kept : textTrayLeft ≡ textTray
  pub trays_kept : left ≡ lent

-- the formulas ps were read, and their records went the way of every branch
pub record Ran (flags : ℕ) (textTray : List ℕ) (lent : Trays) (said : Answer) (textTrayLeft : List ℕ) (left : Trays) (ps : List Form) : Type 0 where
  -- "Records are written children first, left before right, unshared, into a tray of 24,576 bytes, the rest zero";
  -- "a refusal by them leaves the records just read in this tray"
  pub records : textTrayLeft ≡ over (tray_of (lines_from 0 ps)) textTray
  -- "The checks of the records follow": every clause of the call, of the bytes of these records
  pub call : Contract (concat_map record_bytes (lines_from 0 ps)) flags lent said left
  -- demand 3, and what is said beyond the papers, of the text's own formulas
  pub proved_is_sound : Proved said → NoModel (setting_of flags) ps
  pub open_has_model : ChecksContradictions (setting_of flags) → Open said → HasModel (setting_of flags) ps
  pub exact_in_time : ChecksContradictions (setting_of flags) → partial_equivalence (setting_of flags) ≡ false → InTime said → (Proved said ↔ NoModel (setting_of flags) ps)

pub record TypedContract (text : List ℕ) (flags : ℕ) (textTray : List ℕ) (lent : Trays) (said : Answer) (textTrayLeft : List ℕ) (left : Trays) : Type 0 where
  -- "a shorter tray is "short tray", before 14"
  pub short_tray : length textTray < text_tray_length → Refuses textTray lent said textTrayLeft left tray_too_short 0
  -- "14 "long slip", above 4,096 bytes, which comes before 13"
  pub long_text : text_tray_length ≤ length textTray → most_text < length text → Refuses textTray lent said textTrayLeft left text_too_long 0
  -- "13 "garbled", with the byte offset of the first token that can't continue a text, or the text's length where it ends short"
  pub unreadable : text_tray_length ≤ length textTray → length text ≤ most_text → (o : ℕ) → UnreadableAt text o → Refuses textTray lent said textTrayLeft left unreadable_text o
  -- "a text is taken exactly if it belongs to it, and has one reading"
  pub taken : text_tray_length ≤ length textTray → length text ≤ most_text → (ps : List Form) → Reads text ps → Ran flags textTray lent said textTrayLeft left ps
  -- so 13, with its offset, and 14 are said of these texts and of no others
  pub unreadable_exactly : (o : ℕ) → (said ≡ refusal unreadable_text o) ↔ ((text_tray_length ≤ length textTray) × (length text ≤ most_text) × UnreadableAt text o)
  pub long_exactly : (said ≡ refusal text_too_long 0) ↔ ((text_tray_length ≤ length textTray) × (most_text < length text))
