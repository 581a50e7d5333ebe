-- That what is made ready can be applied.
use Rattle.std.proofs.Common.{◌≡◌, ◌≢◌, refl, ap, ℕ, zero, suc, ◌+◌, ◌<◌, ◌≤◌, ◌^◌, List, [], ◌∷◌, length, length-append, min, take, slice_get, Option, Some, None, Bool, true, false, ◌==◌, nat_le, arith}
use Rattle.std.specs.List.{AllByRecursion}
use Rattle.std.proofs.lemmas.Bool.{eqb-false, leb-false}
use Rattle.std.proofs.lemmas.List.Elements.{All-from_recursion}
use Rattle.dev_traits.specs.View.{View}
use Rattle.pk_values.specs.Schemas.{Layout}
use Rattle.index_level0.specs.declared.place.Place.{Place}
use Rattle.rowsets.specs.Indexing.{CodeMove}
use Rattle.journal_form.specs.declared.records.NewFile.{NewFile}
use Rattle.journal_form.specs.Versions.{Rowset as ListedRowset, files_of}
use Rattle.tablet_state.specs.Contents.{Contents, current_number, worn_of}
use Rattle.tablet_state.specs.State.{HasOwn, HasRoom, Room, SegmentView, most_files, refusal}
use Rattle.tablet_state.specs.Readies.{AreInFields, IsMade, IsMadeOf, IsPublished, NewSegment, new_files}
use Rattle.tablet_state.proofs.Owning.{unworn}
use Rattle.tablet_state.proofs.Readying.{as_many, is_led}
use Rattle.column_page.proofs.FooterParts.{footer_parts}

-- ---- a state that refuses no load

none_of : (closed worn : Option ℕ) (full : Bool) → refusal closed worn full ≡ None → (closed ≡ None) × (worn ≡ None) × (full ≡ false)
none_of (Some p) worn full is = absurd (cc is)
none_of None (Some n) full is = absurd (cc is)
none_of None None true is = absurd (cc is)
none_of None None false is = (refl, refl, refl)

pub record Goes (c : Contents) (closed : Option ℕ) : Type 0 where
  pub open_ : closed ≡ None
  pub unworn_ : worn_of c ≡ None
  pub many : length c.older + 1 < 1000

pub goes_on : (c : Contents) (segs : List SegmentView) (closed : Option ℕ) → HasOwn c segs → refusal closed (worn_of c) (length c.older + 1 == 1000) ≡ None → Goes c closed
goes_on c segs closed own is =
    let parts = none_of closed (worn_of c) (length c.older + 1 == 1000) is in
    record { open_ = parts.0; unworn_ = parts.1; many = under parts.2 }
  where
    few : length c.older < 1000
    few = own.few

    under : (length c.older + 1 == 1000) ≡ false → length c.older + 1 < 1000
    under e = let ne : length c.older + 1 ≢ 1000 = eqb-false (length c.older + 1) 1000 e in omega (arith, few, ne)

-- ---- numbers of new files

rows_fit : (s : Layout) (first : ℕ) (made : List NewSegment) → AllByRecursion (IsMadeOf s) made → first + length made ≤ 2 ^ 63 → AllByRecursion (λ (f : NewFile). (f.file < 2 ^ 64) × (f.rows < 2 ^ 32)) (new_files first made)
rows_fit s first [] known le = tt
rows_fit s first (m ∷ made) known le =
    let few : m.1.rows ≤ 65536 = (footer_parts m.1 known.0.is).few_rows in
    ((omega arith, omega arith), rows_fit s (first + 1) made known.1 (omega arith))

pub fields_fit : (s : Layout) (first : ℕ) (made : List NewSegment) → AllByRecursion (IsMadeOf s) made → first + length made ≤ 2 ^ 63 → AreInFields (new_files first made)
fields_fit s first made known le = record {
  count = let many = as_many first made in omega arith;
  each = All-from_recursion (λ (f : NewFile). (f.file < 2 ^ 64) × (f.rows < 2 ^ 32)) (new_files first made) (rows_fit s first made known le);
}

-- ---- all that applying asks

pub made_ready : (view : View) (c : Contents) (segs : List SegmentView) (closed : Option ℕ) (room : Room) (made : List NewSegment) (dead : List Place) (entries : List CodeMove) (body : List ℕ) (current : List ListedRowset)
    → HasOwn c segs → Goes c closed → length made < 2 ^ 32 → AllByRecursion (IsMadeOf c.schema) made
    → IsPublished c.current (new_files c.next_file made) dead (current_number c + 1) (c.edit + 1) current body
    → nat_le most_files (length (files_of current)) ≡ false → HasRoom (length made) (length entries) (length body + 10) view room
    → IsMade view c room made dead entries body current
made_ready view c segs closed room made dead entries body current own goes few known p files r =
    let numbers = unworn c goes.unworn_ in
    let next : c.next_file < 2 ^ 62 = numbers.0 in
    let edit : c.edit < 2 ^ 62 = numbers.1 in
    let version : current_number c < 2 ^ 62 = numbers.2 in
    record {
      unworn = goes.unworn_;
      many = goes.many;
      few = few;
      attached = known;
      led = is_led c made dead entries body current (omega arith) (omega (arith, version)) goes.many (omega arith) p;
      few_files = leb-false most_files (length (files_of current)) files;
      calls = r.calls;
      bytes = r.bytes;
      versions = r.versions;
      files = r.segments;
      keys = r.places;
    }

-- ---- how many files there are

files_more : (rowsets : List ListedRowset) (i : ℕ) (fs : ListedRowset) → slice_get rowsets i ≡ Some fs → length (files_of (take (suc i) rowsets)) ≡ length (files_of (take i rowsets)) + length fs
files_more [] i fs is = absurd (cc is)
files_more (x ∷ rowsets) zero fs is =
    let same : x ≡ fs = cc in
    let n = ap (length) same in
    let both = length-append x (files_of (take 0 rowsets)) in
    omega (arith, n, both)
files_more (x ∷ rowsets) (suc i) fs is =
    let more = files_more rowsets i fs is in
    let one = length-append x (files_of (take (suc i) rowsets)) in
    let two = length-append x (files_of (take i rowsets)) in
    omega (arith, more, one, two)

pub files_step : (rowsets : List ListedRowset) (i most files more all : ℕ) (fs : ListedRowset) → slice_get rowsets i ≡ Some fs → more ≡ length fs → files ≡ min (length (files_of (take i rowsets))) most → all ≡ min (files + more) most
    → all ≡ min (length (files_of (take (i + 1) rowsets))) most
files_step rowsets i most files more all fs at is so_far step =
    let one = files_more rowsets i fs at in
    let next : i + 1 ≡ suc i = omega arith in
    let same = ap (λ (n : ℕ). length (files_of (take n rowsets))) next in
    omega arith
