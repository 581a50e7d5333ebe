-- The bodies of an area, and the epoch of the first one.
use Rattle.std.proofs.Common.{◌≡◌, ℕ, List, [], ◌∷◌, ◌++◌, refl, sym, ap, subst, ◌∙◌, Option, Some}
use Rattle.std.proofs.lemmas.List.{drop_at}
use Rattle.byteorder.specs.Endian.{big_bytes, big_number}
use Rattle.byteorder.specs.Numbers.{big_number-reads_back, length-bytes_high_first}
use Rattle.value_bytes.specs.Fields.{Field, both, counted, u8, u64}
use Rattle.value_bytes.specs.Telling.{number-tells, text-tells}
use Rattle.gated_log.specs.Log.{frame, HasNone, IsLog}
use Rattle.journal_form.specs.declared.records.Record.{Record}
use Rattle.journal_form.specs.declared.records.Record.TheVariants.{Create, Publish, Compact, Floor, Levels, Checkpoint}
use Rattle.journal_form.proofs.Parts.{some_is}
use Rattle.pk_values.specs.Schemas.{Layout}
use Rattle.journal_form.specs.declared.records.LevelList.{LevelList}
use Rattle.journal_form.specs.Versions.{Rowset}
use Rattle.journal_bytes.specs.Schemas.{schema}
use Rattle.journal_bytes.specs.Records.{RecordFits, checkpoint, kept_bodies, levels, listed_files, record_bytes}
use Rattle.journal_bytes.specs.RecordsTell.{one_spelling}
use Rattle.version_journal.specs.Areas.{Begins, epoch_in, first_epoch}
use Rattle.version_journal.specs.Laws.{EpochIsTold, OneLog}

-- a log with a body isn't one without
no_body : (bytes : List ℕ) (body rest : List ℕ) → HasNone bytes → bytes ≡ (165 ∷ frame body) ++ rest → ⊥
no_body bytes body rest none e = let closed : HasNone ((165 ∷ frame body) ++ rest) = subst HasNone e none in closed refl

pub one_log : OneLog
one_log [] [] bytes g h = refl
one_log [] (y ∷ ys) bytes g h = absurd (no_body bytes y h.0 g h.1)
one_log (x ∷ xs) [] bytes g h = absurd (no_body bytes x g.0 h g.1)
one_log (x ∷ xs) (y ∷ ys) bytes g h =
    let both : 165 ∷ (frame x ++ g.0) ≡ 165 ∷ (frame y ++ h.0) = sym g.1 ∙ h.1 in
    let inner : frame x ++ g.0 ≡ frame y ++ h.0 = cc in
    let p = text-tells u64 (number-tells 8) x y g.0 h.0 g.2.fits h.2.fits inner in
    let rest = one_log xs ys g.0 g.4 (subst (λ (b : List ℕ). IsLog ys b) (sym p.1) h.4) in
    λ i. p.0 i ∷ rest i

pub begins-one : (e f : ℕ) (body : List ℕ) → Begins e body → Begins f body → e ≡ f
begins-one e f body b c =
    let p = one_spelling b.edit c.edit b.told c.told b.fits c.fits (sym b.spelled ∙ c.spelled) in
    some_is e f (sym b.first ∙ ap first_epoch p.1 ∙ c.first)

-- what stands behind the epoch of a checkpoint
abbrev behind_epoch : Field (ℕ × (Layout × (ℕ × (ℕ × (List Rowset × (List (List ℕ) × Option LevelList))))))
behind_epoch = both u8 (both schema (both u64 (both u64 (both (counted u64 listed_files) (both kept_bodies levels)))))

told_in : (edit : ℕ) (r : Record) (epoch : ℕ) → RecordFits edit r → first_epoch r ≡ Some epoch → epoch_in (record_bytes edit r) ≡ epoch
told_in edit (Create form schema) epoch fits first = some_is 0 epoch first
told_in edit (Checkpoint e form s next_file floor rowsets kept l) epoch fits first =
    let rest = (checkpoint).bytes (e, (form, (s, (next_file, (floor, (rowsets, (kept, l))))))) in
    ap (big_number 8) (drop_at (big_bytes 8 edit) rest 8 (length-bytes_high_first 8 edit))
    ∙ big_number-reads_back 8 e ((behind_epoch).bytes (form, (s, (next_file, (floor, (rowsets, (kept, l))))))) fits.1.0
    ∙ some_is e epoch first
told_in edit (Publish version files rows) epoch fits first = cc
told_in edit (Compact version replaced files rows levels) epoch fits first = cc
told_in edit (Floor floor) epoch fits first = cc
told_in edit (Levels levels) epoch fits first = cc

pub epoch_is_told : EpochIsTold
epoch_is_told epoch body b = ap epoch_in b.spelled ∙ told_in b.edit b.told epoch b.fits b.first
