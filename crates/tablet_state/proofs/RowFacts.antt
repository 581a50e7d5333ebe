-- That what is held fits the schema.
use Rattle.std.proofs.Common.{◌≡◌, ap, sym, subst, ◌∙◌, ℕ, List, [], ◌∷◌, ◌++◌, map, Option, Some, None, Bool, true, false, ◌==◌, cond, IsTrue, All, slice_get, unwrap_or}
use Rattle.std.specs.List.{AllByRecursion}
use Rattle.std.proofs.lemmas.Option.{slice_get_within, unwrap_or-slice_get}
use Rattle.pk_values.specs.Schemas.{Layout, fits_row}
use Rattle.pk_values.specs.declared.cells.Value.{Value}
use Rattle.dev_traits.specs.Image.{Image}
use Rattle.index_level0.specs.declared.place.Place.{Place}
use Rattle.rowsets.specs.Live.{Part, Files, is_dead, live, parts_of}
use Rattle.rowsets.proofs.LoadFacts.{live_rows_fit}
use Rattle.journal_form.specs.declared.records.NewFile.{NewFile}
use Rattle.journal_form.specs.declared.records.ListedFile.{ListedFile}
use Rattle.journal_form.specs.Versions.{Version, files_of}
use Rattle.tablet_state.specs.Stands.{IsSegment, files_in, part_of, rowsets_of, told_file}
use Rattle.tablet_state.specs.Turns.{HeldRowsFit}
use Rattle.tablet_state.proofs.VersionFacts.{parts, parts_are}
use Rattle.tablet_state.proofs.FileFacts.{all-first, all-last}

one_of : (P : List Value → Type 0) (xs : List (List Value)) (i : ℕ) (row : List Value) → All P xs → slice_get xs i ≡ Some row → P row
one_of P xs i row all is = subst P (sym (unwrap_or-slice_get xs i row) ∙ ap (λ (o : Option (List Value)). unwrap_or o row) is) (all i row (slice_get_within xs i row is))

none_some : (row : List Value) → None ≡ Some row → ⊥
none_some row e = cc

pub files_of_last : (P : NewFile → Type 0) (vs : List Version) (v : Version) → AllByRecursion P (files_in (vs ++ v ∷ [])) → AllByRecursion P (map told_file (files_of v.rowsets))
files_of_last P [] v h = all-first P (map told_file (files_of v.rowsets)) [] h
files_of_last P (w ∷ vs) v h = files_of_last P vs v (all-last P (map told_file (files_of w.rowsets)) (files_in (vs ++ v ∷ [])) h)

live_fits : (s : Layout) (stored : Files) (image : Image) (fs : List ListedFile) (p : Place) (row : List Value) → AllByRecursion (λ (f : NewFile). IsSegment s (stored f.file) f image) (map told_file fs)
    → live stored (parts fs) p ≡ Some row → IsTrue (fits_row s row)
live_fits s stored image [] p row are is = absurd (none_some row is)
live_fits s stored image (f ∷ fs) p row are is = go (f.file == p.segment) (is_dead (part_of f) p.row) is (live_fits s stored image fs p row are.1)
  where
    go : (a b : Bool) → cond a (cond b None (slice_get (stored f.file) p.row)) (live stored (parts fs) p) ≡ Some row → (live stored (parts fs) p ≡ Some row → IsTrue (fits_row s row)) → IsTrue (fits_row s row)
    go true true e more = absurd (none_some row e)
    go true false e more = one_of (λ (r : List Value). IsTrue (fits_row s r)) (stored f.file) p.row row are.0.lawful.fit e
    go false b e more = more e

pub held_rows_fit : HeldRowsFit
held_rows_fit s stored m index plan b image holds files =
    live_rows_fit s (live stored (parts_of (rowsets_of m.versions.current))) b.current holds.holds.current
    (λ p row is. live_fits s stored image (files_of m.versions.current.rowsets) p row (files_of_last (λ (f : NewFile). IsSegment s (stored f.file) f image) m.versions.older m.versions.current files)
    (ap (λ (ps : List Part). live stored ps p) (sym (parts_are m.versions.current.rowsets)) ∙ is))
