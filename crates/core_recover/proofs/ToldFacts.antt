-- Damage and files as the journal of the store that was handed in tells them.
use Rattle.std.proofs.Common.{◌≡◌, ◌≢◌, ◌⊎◌, inl, inr, refl, ap, sym, subst, ◌∙◌, ℕ, zero, suc, ◌<◌, List, [], ◌∷◌, Option, Some, None, arith}
use Rattle.std.specs.List.{AllByRecursion}
use Rattle.std.specs.FinMap.{get}
use Rattle.dev_traits.specs.Image.{Image, area_of, file}
use Rattle.dev_traits.specs.View.{View, Told}
use Rattle.dev_traits.specs.declared.faults.Damaged.{Damaged}
use Rattle.gated_log.specs.Log.{HasNone, IsLog, IsNoLog}
use Rattle.pk_values.specs.Schemas.{Layout}
use Rattle.journal_form.specs.declared.records.NewFile.{NewFile}
use Rattle.journal_form.specs.declared.records.ListedFile.{ListedFile}
use Rattle.journal_form.specs.Meaning.{Standing}
use Rattle.journal_form.specs.Versions.{Versions, files_of}
use Rattle.version_journal.specs.Areas.{area_of_epoch, other_area}
use Rattle.version_journal.specs.Images.{HasNoRecord, IsSaid}
use Rattle.version_journal.specs.Reading.{IsDamagedIn, MeanNothing}
use Rattle.version_journal.specs.declared.fault.JournalFault.{JournalFault}
use Rattle.version_journal.specs.declared.fault.JournalFault.TheVariants as journal
use Rattle.store_files.specs.Named.{FileShown}
use Rattle.tablet_state.specs.Stands.{all_versions, files_in}
use Rattle.core_recover.specs.Areas.{BlanksEmpty}
use Rattle.core_recover.specs.Damages.{IsLiveBlockDamage, IsDamageOf, IsFooterDamage, IsNamedDamage, kept_files}
use Rattle.core_recover.specs.Faults.{of_journal}
use Rattle.core_recover.specs.Keeping.{IsThere}
use Rattle.core_recover.specs.Reading.{named}
use Rattle.core_recover.specs.Replaying.{IsReplayed, versions_in}
use Rattle.core_recover.specs.declared.faults.OpenFault.{OpenFault}
use Rattle.core_recover.specs.declared.faults.OpenFault.TheVariants as fault
use Rattle.core_recover.specs.declared.replaying.Replayed.{Replayed}
use Rattle.core_recover.proofs.OpenFacts.{epoch_area, log_like, no_log, none_like, other_small}
use Rattle.core_recover.proofs.ReadingFacts.{named_is}

pub journal_damage : (f : JournalFault) (d : Damaged) → of_journal f ≡ fault.Damaged d → f ≡ journal.Damaged d
journal_damage journal.Empty d is = absurd (cc is)
journal_damage (journal.Damaged x) d is = cc
journal_damage journal.StoreFault d is = absurd (cc is)
journal_damage journal.Memory d is = absurd (cc is)

-- what was replayed, in the words of the journal
pub damage_told : (r : Replayed) (m : Standing) (image : Image) (d : Damaged) → IsReplayed r m → IsNamedDamage r.schema (named r) (files_of r.current) image d
    → IsNamedDamage m.versions.current.schema (kept_files m) (files_of m.versions.current.rowsets) image d
damage_told r m image d is damage =
    subst (λ (vs : Versions). IsNamedDamage vs.current.schema (files_in (all_versions vs)) (files_of vs.current.rowsets) image d) (sym is.versions)
    (subst (λ (fs : List NewFile). IsNamedDamage r.schema fs (files_of r.current) image d) (sym (named_is r)) damage)

-- ---- before the empty areas were blanked

abbrev Blanked : List ℕ → List ℕ → Type 0
Blanked was now = (now ≡ was) ⊎ ((was ≡ []) × (now ≡ 0 ∷ []))

blank_log : (log : List (List ℕ)) → IsLog log (0 ∷ []) → log ≡ []
blank_log [] h = refl
blank_log (body ∷ log) h = absurd (gate h.1)
  where
    zero_open : ◌≡◌ {A = ℕ} 0 165 → ⊥
    zero_open e = absurd (omega arith)

    gate : {xs : List ℕ} → 0 ∷ [] ≡ 165 ∷ xs → ⊥
    gate e = zero_open (cc e)

pub log_back : (log : List (List ℕ)) (was now : List ℕ) → Blanked was now → IsLog log now → IsLog log was
log_back log was now (inl same) is = subst (IsLog log) same is
log_back log was now (inr (none, blank)) is =
    let empty : log ≡ [] = blank_log log (subst (IsLog log) blank is) in
    subst (λ (l : List (List ℕ)). IsLog l was) (sym empty) (subst HasNone (sym none) tt)

pub said_back : (before mid : Image) (m : Standing) → BlanksEmpty before mid → IsSaid mid m → IsSaid before m
said_back before mid m blanks said = record {
  meant = record {
    log = said.meant.log;
    other = said.meant.other;
    is_log = log_back said.meant.log (area_of before (area_of_epoch m.epoch)) (area_of mid (area_of_epoch m.epoch)) (blanks.areas (area_of_epoch m.epoch)) said.meant.is_log;
    other_log = log_back said.meant.other (area_of before (other_area m.epoch)) (area_of mid (other_area m.epoch)) (blanks.areas (other_area m.epoch)) said.meant.other_log;
    means = said.meant.means;
    before = said.meant.before;
  };
  built = said.built;
}

damaged_back : (a : ℕ) (before mid : Image) → BlanksEmpty before mid → IsDamagedIn a mid → IsDamagedIn a before
damaged_back zero before mid blanks (inl none) = inl (λ bodies is. none bodies (log_like bodies (area_of before 0) (area_of mid 0) (blanks.areas 0) is))
damaged_back zero before mid blanks (inr (bodies, is, some, nothing)) = inr (bodies, log_back bodies (area_of before 0) (area_of mid 0) (blanks.areas 0) is, some, nothing)
damaged_back (suc a) before mid blanks (one, some) = (one, λ none. some (none_like (area_of before 1) (area_of mid 1) (blanks.areas 1) none))

file_back : (before mid : Image) (n : ℕ) → BlanksEmpty before mid → file mid n ≡ file before n
file_back before mid n blanks = ap (λ fs. get fs n) blanks.files

named_back : (s : Layout) (files : List NewFile) (current : List ListedFile) (before mid : Image) (d : Damaged) → BlanksEmpty before mid → IsNamedDamage s files current mid d → IsNamedDamage s files current before d
named_back s files current before mid d blanks (inl is) = inl (record { rows = is.rows; named = is.named; part_is = is.part_is; shows = subst (λ (o : Option (List ℕ)). FileShown s is.rows o d.shown) (file_back before mid d.file blanks) is.shows })
named_back s files current before mid d blanks (inr is) = inr (record {
  named = is.named;
  among = is.among;
  file_is = is.file_is;
  bytes = is.bytes;
  there = sym (file_back before mid is.named.file blanks) ∙ is.there;
  footer = is.footer;
  has = is.has;
  rows = is.rows;
  block = is.block;
  mark = is.mark;
  marked = is.marked;
  part_is = is.part_is;
  live = is.live;
  shows = is.shows;
})

pub damage_back : (before mid : Image) (d : Damaged) → BlanksEmpty before mid → IsDamageOf mid d → IsDamageOf before d
damage_back before mid d blanks (inl (a, is, damaged)) = inl (a, is, damaged_back a before mid blanks damaged)
damage_back before mid d blanks (inr (m, said, damage)) =
    inr (m, said_back before mid m blanks said, named_back m.versions.current.schema (kept_files m) (files_of m.versions.current.rowsets) before mid d blanks damage)

pub there_back : (s : Layout) (fs : List NewFile) (before mid : Image) → BlanksEmpty before mid → AllByRecursion (IsThere s mid) fs → AllByRecursion (IsThere s before) fs
there_back s [] before mid blanks h = tt
there_back s (f ∷ fs) before mid blanks h =
    (record { bytes = h.0.bytes; there = sym (file_back before mid f.file blanks) ∙ h.0.there; footer = h.0.footer; has = h.0.has; rows = h.0.rows }, there_back s fs before mid blanks h.1)
