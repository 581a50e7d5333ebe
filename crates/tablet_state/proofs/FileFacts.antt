-- Which files versions name after a record.
use Rattle.std.proofs.Common.{◌≡◌, refl, ap, sym, subst, ◌∙◌, ℕ, zero, suc, ◌+◌, ◌-◌, List, [], ◌∷◌, ◌++◌, map, drop, Some}
use Rattle.std.specs.List.{AllByRecursion}
use Rattle.journal_form.specs.declared.records.NewFile.{NewFile}
use Rattle.journal_form.specs.declared.records.DeadRows.{DeadRows}
use Rattle.journal_form.specs.declared.records.ListedFile.{ListedFile}
use Rattle.journal_form.specs.declared.records.Record.{Record}
use Rattle.journal_form.specs.declared.records.Record.TheVariants.{Create, Publish, Compact, Floor, Levels, Checkpoint}
use Rattle.journal_form.specs.Versions.{Rowset, Version, Versions, above, compacted, published, compacted_rowsets, files_of, floor_fits, level_numbers, levels_fit, marked, marked_file, new_rowset, published_rowsets, raised, whole_file}
use Rattle.journal_form.specs.Meaning.{Standing, entries_above, in_force, step, step_at}
use Rattle.journal_form.proofs.Parts.{then_some}
use Rattle.journal_form.proofs.StepFacts.{gives_publish, gives_compact, steps}
use Rattle.std.proofs.lemmas.List.{map-append}
use Rattle.tablet_state.specs.Stands.{all_versions, files_in, told_file}
use Rattle.tablet_state.specs.Holding.{brings}

pub all-append : {X : Type 0} (P : X → Type 0) (xs ys : List X) → AllByRecursion P xs → AllByRecursion P ys → AllByRecursion P (xs ++ ys)
all-append P [] ys h g = g
all-append P (x ∷ xs) ys h g = (h.0, all-append P xs ys h.1 g)

pub all-first : {X : Type 0} (P : X → Type 0) (xs ys : List X) → AllByRecursion P (xs ++ ys) → AllByRecursion P xs
all-first P [] ys h = tt
all-first P (x ∷ xs) ys h = (h.0, all-first P xs ys h.1)

pub all-last : {X : Type 0} (P : X → Type 0) (xs ys : List X) → AllByRecursion P (xs ++ ys) → AllByRecursion P ys
all-last P [] ys h = h
all-last P (x ∷ xs) ys h = all-last P xs ys h.1

pub all-drop : {X : Type 0} (P : X → Type 0) (n : ℕ) (xs : List X) → AllByRecursion P xs → AllByRecursion P (drop n xs)
all-drop P zero xs h = h
all-drop P (suc n) [] h = tt
all-drop P (suc n) (x ∷ xs) h = all-drop P n xs h.1

pub all-map : {X Y : Type 0} (P : Y → Type 0) (f : X → Y) (xs : List X) → AllByRecursion P (map f xs) → AllByRecursion (λ x. P (f x)) xs
all-map P f [] h = tt
all-map P f (x ∷ xs) h = (h.0, all-map P f xs h.1)

pub all-mapped : {X Y : Type 0} (P : Y → Type 0) (f : X → Y) (xs : List X) → AllByRecursion (λ x. P (f x)) xs → AllByRecursion P (map f xs)
all-mapped P f [] h = tt
all-mapped P f (x ∷ xs) h = (h.0, all-mapped P f xs h.1)

files_of-marked : (changed : List DeadRows) (rs : List Rowset) → files_of (marked changed rs) ≡ map (marked_file changed) (files_of rs)
files_of-marked changed [] = refl
files_of-marked changed (r ∷ rs) = ap (λ (t : List ListedFile). map (marked_file changed) r ++ t) (files_of-marked changed rs) ∙ sym (map-append (marked_file changed) r (files_of rs))

module _ (P : NewFile → Type 0) where
  -- the files of a version, and of versions
  abbrev Has : List Rowset → Type 0
  Has rs = AllByRecursion P (map told_file (files_of rs))

  abbrev Have : List Version → Type 0
  Have vs = AllByRecursion (λ v. Has v.rowsets) vs

  have : (vs : List Version) → AllByRecursion P (files_in vs) → Have vs
  have [] h = tt
  have (v ∷ vs) h = (all-first P (map told_file (files_of v.rowsets)) (files_in vs) h, have vs (all-last P (map told_file (files_of v.rowsets)) (files_in vs) h))

  listed : (vs : List Version) → Have vs → AllByRecursion P (files_in vs)
  listed [] h = tt
  listed (v ∷ vs) h = all-append P (map told_file (files_of v.rowsets)) (files_in vs) h.0 (listed vs h.1)

  has-append : (xs ys : List Rowset) → Has xs → Has ys → Has (xs ++ ys)
  has-append [] ys h g = g
  has-append (x ∷ xs) ys h g =
      let hx = all-map P told_file (x ++ files_of xs) h in
      let rest = has-append xs ys (all-mapped P told_file (files_of xs) (all-last (λ (f : ListedFile). P (told_file f)) x (files_of xs) hx)) g in
      all-mapped P told_file (x ++ files_of (xs ++ ys))
      (all-append (λ (f : ListedFile). P (told_file f)) x (files_of (xs ++ ys)) (all-first (λ (f : ListedFile). P (told_file f)) x (files_of xs) hx) (all-map P told_file (files_of (xs ++ ys)) rest))

  has-drop : (n : ℕ) (xs : List Rowset) → Has xs → Has (drop n xs)
  has-drop zero xs h = h
  has-drop (suc n) [] h = tt
  has-drop (suc n) (x ∷ xs) h =
      has-drop n xs (all-mapped P told_file (files_of xs) (all-last (λ (f : ListedFile). P (told_file f)) x (files_of xs) (all-map P told_file (x ++ files_of xs) h)))

  has-new : (files : List NewFile) → AllByRecursion P files → Has (new_rowset files)
  has-new [] h = tt
  has-new (f ∷ files) h = all-mapped P told_file (map whole_file (f ∷ files) ++ []) (all-append (λ (g : ListedFile). P (told_file g)) (map whole_file (f ∷ files)) [] (h.0, wholes files h.1) tt)
    where
      wholes : (fs : List NewFile) → AllByRecursion P fs → AllByRecursion (λ (g : ListedFile). P (told_file g)) (map whole_file fs)
      wholes [] h = tt
      wholes (g ∷ fs) h = (h.0, wholes fs h.1)

  has-marked : (changed : List DeadRows) (rs : List Rowset) → Has rs → Has (marked changed rs)
  has-marked changed rs h = subst (λ (fs : List ListedFile). AllByRecursion P (map told_file fs)) (sym (files_of-marked changed rs)) (all-mapped P told_file (map (marked_file changed) (files_of rs)) (each (files_of rs) (all-map P told_file (files_of rs) h)))
    where
      each : (fs : List ListedFile) → AllByRecursion (λ (g : ListedFile). P (told_file g)) fs → AllByRecursion (λ (g : ListedFile). P (told_file g)) (map (marked_file changed) fs)
      each [] h = tt
      each (f ∷ fs) h = (h.0, each fs h.1)

  module _ (m t : Standing) (named : AllByRecursion P (files_in (all_versions m.versions))) where
    abbrev vs : Versions
    vs = m.versions

    older : Have vs.older
    older = all-first (λ (v : Version). Has v.rowsets) vs.older (vs.current ∷ []) (have (all_versions vs) named)

    current : Has vs.current.rowsets
    current = (all-last (λ (v : Version). Has v.rowsets) vs.older (vs.current ∷ []) (have (all_versions vs) named)).0

    all_of : (x : Versions) → Have x.older → Has x.current.rowsets → AllByRecursion P (files_in (all_versions x))
    all_of x h g = listed (all_versions x) (all-append (λ (v : Version). Has v.rowsets) x.older (x.current ∷ []) h (g, tt))

    abbrev Of : Standing → Type 0
    Of x = AllByRecursion P (files_in (all_versions x.versions))

    at : (edit : ℕ) (r : Record) → step_at edit m r ≡ Some t → AllByRecursion P (brings r) → Of t
    at edit (Publish version files rows) h new =
        let g = gives_publish edit version files rows m t h in
        subst Of g.is
        (all_of (published files rows vs) (all-append (λ (v : Version). Has v.rowsets) vs.older (vs.current ∷ []) older (current, tt))
        (has-marked rows (published_rowsets files vs.current.rowsets) (has-append vs.current.rowsets (new_rowset files) current (has-new files new))))
    at edit (Compact version replaced files rows levels) h new =
        let g = gives_compact edit version replaced files rows levels m t h in
        subst Of g.is
        (all_of (compacted replaced files rows levels vs) older (has-marked rows (compacted_rowsets replaced files vs.current.rowsets) (has-append (new_rowset files) (drop replaced vs.current.rowsets) (has-new files new) (has-drop replaced vs.current.rowsets current))))
    at edit (Floor floor) h new =
        let p = then_some (floor_fits floor vs) (record m { edit = edit; versions = raised floor vs; kept = entries_above floor m.kept }) t h in
        subst Of p.1 (all_of (raised floor vs) (all-drop (λ (v : Version). Has v.rowsets) (floor - vs.floor) vs.older older) current)
    at edit (Levels levels) h new =
        let p = then_some (levels_fit edit levels) (record m { edit = edit; versions = record vs { next_file = above vs.next_file (level_numbers levels) }; levels = in_force levels m.levels }) t h in
        subst Of p.1 (all_of (record vs { next_file = above vs.next_file (level_numbers levels) }) older current)
    at edit (Create form schema) h new = absurd (cc h)
    at edit (Checkpoint epoch form schema next_file floor rowsets kept levels) h new = absurd (cc h)

    pub files_grow : (r : Record) → step m r ≡ Some t → AllByRecursion P (brings r) → Of t
    files_grow r h new = at (m.edit + 1) r (steps m t r h).1 new
