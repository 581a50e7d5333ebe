-- Bytes that are no body.
use Rattle.std.proofs.Common.{◌≡◌, ℕ, List, ◌∷◌, ◌∙◌}
use Rattle.value_bytes.specs.Fields.{both, u64}
use Rattle.value_bytes.specs.Reads.{NotWhole}
use Rattle.journal_form.specs.declared.records.Record.TheVariants.{Create, Publish, Compact, Floor, Levels, Checkpoint}
use Rattle.journal_bytes.specs.Records.{checkpoint, compact, create, levels, publish}
use Rattle.journal_bytes.specs.ReadRecords.{IsNoBody}

pub no_create : (body rest : List ℕ) → body ≡ 1 ∷ rest → NotWhole (both u64 create) rest → IsNoBody body
no_create body rest e none edit (Create form s) is = let same = is.spelled ∙ e in none (edit, (form, s)) (record { fits = is.fits; spelled = cc })
no_create body rest e none edit told is = let same = is.spelled ∙ e in cc

pub no_publish : (body rest : List ℕ) → body ≡ 2 ∷ rest → NotWhole (both u64 publish) rest → IsNoBody body
no_publish body rest e none edit (Publish version files changed) is = let same = is.spelled ∙ e in none (edit, (version, (files, changed))) (record { fits = is.fits; spelled = cc })
no_publish body rest e none edit told is = let same = is.spelled ∙ e in cc

pub no_compact : (body rest : List ℕ) → body ≡ 3 ∷ rest → NotWhole (both u64 compact) rest → IsNoBody body
no_compact body rest e none edit (Compact version replaced files changed l) is = let same = is.spelled ∙ e in none (edit, (version, (replaced, (files, (changed, l))))) (record { fits = is.fits; spelled = cc })
no_compact body rest e none edit told is = let same = is.spelled ∙ e in cc

pub no_floor : (body rest : List ℕ) → body ≡ 4 ∷ rest → NotWhole (both u64 u64) rest → IsNoBody body
no_floor body rest e none edit (Floor floor) is = let same = is.spelled ∙ e in none (edit, floor) (record { fits = is.fits; spelled = cc })
no_floor body rest e none edit told is = let same = is.spelled ∙ e in cc

pub no_levels : (body rest : List ℕ) → body ≡ 5 ∷ rest → NotWhole (both u64 levels) rest → IsNoBody body
no_levels body rest e none edit (Levels l) is = let same = is.spelled ∙ e in none (edit, l) (record { fits = is.fits; spelled = cc })
no_levels body rest e none edit told is = let same = is.spelled ∙ e in cc

pub no_checkpoint : (body rest : List ℕ) → body ≡ 6 ∷ rest → NotWhole (both u64 checkpoint) rest → IsNoBody body
no_checkpoint body rest e none edit (Checkpoint epoch form s next_file floor rowsets kept l) is =
    let same = is.spelled ∙ e in none (edit, (epoch, (form, (s, (next_file, (floor, (rowsets, (kept, l)))))))) (record { fits = is.fits; spelled = cc })
no_checkpoint body rest e none edit told is = let same = is.spelled ∙ e in cc
