-- What a replay has after each record.
use Rattle.std.proofs.Common.{◌≡◌, refl, ap, sym, subst, ◌∙◌, ℕ, ◌+◌, ◌-◌, ◌≤◌, ◌<◌, suc, zero, arith, List, [], ◌∷◌, ◌++◌, map, take, drop, length, Bool, true, false, ◌&&◌, not, nat_le, nat_lt, ◌==◌, if◌then◌else◌, Option, Some, None, is_some, IsTrue, length-append, append_assoc}
use Rattle.std.specs.Option.{option_map}
use Rattle.std.specs.List.{flat_map}
use Rattle.std.specs.BTreeMap.{get}
use Rattle.std.specs.Ordering.{nat_cmp}
use Rattle.std.proofs.lemmas.Bool.{and_parts, and_from, ltb-true, leb-true, eqb-true, lt-ltb}
use Rattle.std.proofs.lemmas.List.{length-drop}
use Rattle.pk_values.specs.Schemas.{Layout}
use Rattle.journal_form.specs.declared.records.NewFile.{NewFile}
use Rattle.journal_form.specs.declared.records.DeadRows.{DeadRows}
use Rattle.journal_form.specs.declared.records.ListedFile.{ListedFile}
use Rattle.journal_form.specs.declared.records.LevelList.{LevelList}
use Rattle.journal_form.specs.declared.records.Record.{Record}
use Rattle.journal_form.specs.declared.records.Record.TheVariants.{Create, Publish, Compact, Floor, Levels, Checkpoint}
use Rattle.journal_form.specs.Versions.{Rowset, Versions, above, all_below, bound, changes_fit, compact_fits, compacted, compacted_rowsets, consecutive, current_number, files_fit, files_of, floor_fits, levels_fit, marked, marked_file, new_rowset, numbers_of, publish_fits, published, published_rowsets, raised, whole_file}
use Rattle.journal_form.specs.Meaning.{Standing, created, distinct, entries_above, is_form, kept_above, most_file, no_versions, opens, step, step_at}
use Rattle.journal_form.specs.Standings.{is_built}
use Rattle.journal_form.proofs.Parts.{then_some}
use Rattle.journal_form.proofs.StepFacts.{steps_count}
use Rattle.journal_form.proofs.Numbers.{all_from, below_more, distinct_end}
use Rattle.journal_form.proofs.GoodFiles.{AreGood, compacted_good, consecutive-from, files_of-append, files_of-marked, files_of-new, good_drop, marked_good, numbers, numbers-append, numbers-marked, published_good}
use Rattle.journal_replay.specs.declared.replay.Replay.{Replay}
use Rattle.journal_replay.specs.declared.span.Span.{Span}
use Rattle.journal_replay.specs.Lookups.{Finds, Lookup, added, all_take, counted_from, listed_as, marks, span_numbers, without}
use Rattle.journal_replay.specs.Follow.{Follows, Goes, HasCompacted, HasCurrent, HasPublished, HasRaised, Moves, compact_takes, files_left, new_rowset_numbers, all_numbers, option_spans, numbers_in, publish_takes}
use Rattle.journal_replay.proofs.LookupFacts.{added_finds, all_take_is, finds_ext, finds_swap, marks_find, without_finds}

-- ---- rowsets by the numbers of their files

marked-numbers : (cs : List DeadRows) (rowsets : List Rowset) → map numbers_in (marked cs rowsets) ≡ map numbers_in rowsets
marked-numbers cs [] = refl
marked-numbers cs (files ∷ rowsets) = λ i. numbers-marked cs files i ∷ marked-numbers cs rowsets i

numbers_in-append : (xs ys : List Rowset) → map numbers_in (xs ++ ys) ≡ map numbers_in xs ++ map numbers_in ys
numbers_in-append [] ys = refl
numbers_in-append (x ∷ xs) ys = ap (λ (t : List (List ℕ)). numbers_in x ∷ t) (numbers_in-append xs ys)

numbers_in-drop : (k : ℕ) (xs : List Rowset) → map numbers_in (drop k xs) ≡ drop k (map numbers_in xs)
numbers_in-drop zero xs = refl
numbers_in-drop (suc k) [] = refl
numbers_in-drop (suc k) (x ∷ xs) = numbers_in-drop k xs

counted : (k : ℕ) (files : List NewFile) → consecutive k files ≡ true → numbers (map whole_file files) ≡ counted_from k (length files)
counted k [] h = refl
counted k (f ∷ files) h =
    let p = and_parts (f.file == k) (consecutive (k + 1) files) h in
    let e = eqb-true f.file k p.0 in
    λ i. e i ∷ counted (k + 1) files p.1 i

new_numbers : (next most : ℕ) (files : List NewFile) → files_fit next most files ≡ true → map numbers_in (new_rowset files) ≡ new_rowset_numbers files
new_numbers next most [] h = refl
new_numbers next most (f ∷ files) h =
    let p = and_parts (nat_le next f.file) _ h in
    let q = and_parts (consecutive f.file (f ∷ files)) (all_below most (numbers_of (f ∷ files))) p.1 in
    ap (λ (t : List ℕ). t ∷ []) (counted f.file (f ∷ files) q.0)

-- the numbers of the files of the first rowsets
flat_numbers : (k : ℕ) (rowsets : List Rowset) (spans : List Span) → map numbers_in rowsets ≡ map span_numbers spans → numbers (files_of (take k rowsets)) ≡ flat_map span_numbers (take k spans)
flat_numbers zero rowsets spans e = refl
flat_numbers (suc k) [] [] e = refl
flat_numbers (suc k) [] (s ∷ spans) e = cc
flat_numbers (suc k) (r ∷ rowsets) [] e = cc
flat_numbers (suc k) (r ∷ rowsets) (s ∷ spans) e =
    let head : numbers_in r ≡ span_numbers s = cc in
    let tail : map numbers_in rowsets ≡ map span_numbers spans = cc in
    numbers-append r (files_of (take k rowsets)) ∙ (λ i. head i ++ flat_numbers k rowsets spans tail i)

files_split : (k : ℕ) (rowsets : List Rowset) → files_of (take k rowsets) ++ files_of (drop k rowsets) ≡ files_of rowsets
files_split zero rowsets = refl
files_split (suc k) [] = refl
files_split (suc k) (r ∷ rowsets) = append_assoc r (files_of (take k rowsets)) (files_of (drop k rowsets)) ∙ ap (λ (t : List ListedFile). r ++ t) (files_split k rowsets)

-- ---- new files

-- where new files begin
abbrev first_new : ℕ → List NewFile → ℕ
first_new next [] = next
first_new next (f ∷ files) = f.file

record AreNumbered (next : ℕ) (files : List NewFile) : Type 0 where
  run : consecutive (first_new next files) files ≡ true
  later : next ≤ first_new next files

numbered : (next most : ℕ) (files : List NewFile) → files_fit next most files ≡ true → AreNumbered next files
numbered next most [] h = record { run = refl; later = omega arith }
numbered next most (f ∷ files) h =
    let p = and_parts (nat_le next f.file) _ h in
    let q = and_parts (consecutive f.file (f ∷ files)) (all_below most (numbers_of (f ∷ files))) p.1 in
    record { run = q.0; later = leb-true next f.file p.0 }

most_is : (r : Replay) (s : Standing) → HasCurrent r s → most_file s ≡ bound - 1
most_is r s has = (λ i. if (has.form i == 1) && not (is_some (has.levels i)) then bound - 1 else bound)

good_now : (r : Replay) (s : Standing) → HasCurrent r s → AreGood s.versions.next_file (files_of s.versions.current.rowsets)
good_now r s has = record { once = has.once; fit = has.fit; below = has.below }

-- ---- a published version

more_files : (r : Replay) (s : Standing) (files : List NewFile) → HasCurrent r s → files_fit s.versions.next_file (bound - 1) files ≡ true
    → Finds (added files (get nat_cmp r.files)) (files_of (published_rowsets files s.versions.current.rowsets))
more_files r s files has h =
    let old = s.versions.current.rowsets in
    let n = numbered s.versions.next_file (bound - 1) files h in
    let low = below_more s.versions.next_file (first_new s.versions.next_file files) (numbers (files_of old)) n.later has.below in
    let e : files_of old ++ map whole_file files ≡ files_of (published_rowsets files old) = ap (λ (t : List ListedFile). files_of old ++ t) (sym (files_of-new files)) ∙ sym (files_of-append old (new_rowset files)) in
    subst (Finds (added files (get nat_cmp r.files))) e (added_finds (first_new s.versions.next_file files) files (get nat_cmp r.files) (files_of old) n.run low has.files)

and_same : (a b c : Bool) → (a ≡ true → b ≡ c) → (a && b) ≡ (a && c)
and_same true b c h = h refl
and_same false b c h = refl

few_is : (r : Replay) (s : Standing) → HasCurrent r s → (r.current - r.floor) + 1 ≡ length s.versions.older + 1
few_is r s has = let c = has.current in let f = has.floor in omega arith

publish_same : (r : Replay) (s : Standing) (version : ℕ) (files : List NewFile) (changed : List DeadRows) → HasCurrent r s → publish_takes r version files changed ≡ publish_fits (most_file s) s.versions version files changed
publish_same r s version files changed has =
    let old = s.versions.current.rowsets in
    let rest : (files_fit s.versions.next_file (bound - 1) files && all_take 0 (added files (get nat_cmp r.files)) changed) ≡ (files_fit s.versions.next_file (bound - 1) files && changes_fit 0 (files_of (published_rowsets files old)) changed) =
    and_same (files_fit s.versions.next_file (bound - 1) files) _ _ (λ h. all_take_is (added files (get nat_cmp r.files)) (files_of (published_rowsets files old)) changed (more_files r s files has h)) in
    (λ i. (version == has.current i + 1) && (nat_lt version bound && (nat_lt (few_is r s has i) 1000 && (files_fit (has.next_file i) (bound - 1) files && all_take 0 (added files (get nat_cmp r.files)) changed))))
    ∙ ap (λ (b : Bool). (version == current_number s.versions + 1) && (nat_lt version bound && (nat_lt (length s.versions.older + 1) 1000 && b))) rest
    ∙ ap (λ (m : ℕ). publish_fits m s.versions version files changed) (sym (most_is r s has))

-- the version after it
abbrev publish_step : (edit : ℕ) (s : Standing) (version : ℕ) (files : List NewFile) (changed : List DeadRows) → Standing
publish_step edit s version files changed = record s { edit = edit; versions = published files changed s.versions; kept = s.kept ++ record { edit = edit; told = Publish version files changed } ∷ [] }

publish_when : (edit : ℕ) (s : Standing) (version : ℕ) (files : List NewFile) (changed : List DeadRows) (b : Bool) → publish_fits (most_file s) s.versions version files changed ≡ b
    → step_at edit s (Publish version files changed) ≡ (if b then Some (publish_step edit s version files changed) else None)
publish_when edit s version files changed b e = by b e
  where
    f : Versions → Standing
    f vs = record s { edit = edit; versions = vs; kept = s.kept ++ record { edit = edit; told = Publish version files changed } ∷ [] }

    by : (b : Bool) → publish_fits (most_file s) s.versions version files changed ≡ b → step_at edit s (Publish version files changed) ≡ (if b then Some (publish_step edit s version files changed) else None)
    by true e = ap (λ (t : Bool). option_map f (if t then Some (published files changed s.versions) else None)) e
    by false e = ap (λ (t : Bool). option_map f (if t then Some (published files changed s.versions) else None)) e

published_has : (edit : ℕ) (old new : Replay) (s : Standing) (version : ℕ) (files : List NewFile) (changed : List DeadRows) → HasCurrent old s → publish_takes old version files changed ≡ true
    → HasPublished version files changed old new → HasCurrent new (publish_step edit s version files changed)
published_has edit old new s version files changed has h made =
    let fits = subst (λ (b : Bool). b ≡ true) (publish_same old s version files changed has ∙ ap (λ (m : ℕ). publish_fits m s.versions version files changed) (most_is old s has)) h in
    let a = and_parts (version == current_number s.versions + 1) _ fits in
    let b = and_parts (nat_lt version bound) _ a.1 in
    let c = and_parts (nat_lt (length s.versions.older + 1) 1000) _ b.1 in
    let d = and_parts (files_fit s.versions.next_file (bound - 1) files) (changes_fit 0 (files_of (published_rowsets files s.versions.current.rowsets)) changed) c.1 in
    let number = eqb-true version (current_number s.versions + 1) a.0 in
    let le : bound - 1 ≤ bound = omega arith in
    let good = marked_good (above s.versions.next_file (numbers_of files)) changed (published_rowsets files s.versions.current.rowsets) d.1
    (published_good s.versions.next_file (bound - 1) files s.versions.current.rowsets le d.0 (good_now old s has)) in
    let is_now = made.current in
    record {
      form = has.form;
      levels = has.levels;
      floor = made.floor ∙ has.floor;
      current = omega (arith, length-append s.versions.older (s.versions.current ∷ []));
      next_file = made.next_file ∙ ap (λ (n : ℕ). above n (numbers_of files)) has.next_file;
      rowsets = marked-numbers changed (published_rowsets files s.versions.current.rowsets)
          ∙ numbers_in-append s.versions.current.rowsets (new_rowset files)
          ∙ (λ i. has.rowsets i ++ new_numbers s.versions.next_file (bound - 1) files d.0 i)
          ∙ sym made.rowsets;
      files = subst (Finds (get nat_cmp new.files)) (sym (files_of-marked changed (published_rowsets files s.versions.current.rowsets)))
          (finds_ext (marks changed (added files (get nat_cmp old.files))) (get nat_cmp new.files) (map (marked_file changed) (files_of (published_rowsets files s.versions.current.rowsets))) made.lookup
          (marks_find changed (added files (get nat_cmp old.files)) (files_of (published_rowsets files s.versions.current.rowsets)) d.1 (more_files old s files has d.0)));
      once = good.once;
      fit = good.fit;
      below = good.below;
    }

pub publish_moves : (edit : ℕ) (ok : Bool) (old new : Replay) (s : Standing) (version : ℕ) (files : List NewFile) (changed : List DeadRows) → HasCurrent old s → ok ≡ publish_takes old version files changed
    → (ok ≡ true → HasPublished version files changed old new) → Moves ok (step_at edit s (Publish version files changed)) new
publish_moves edit true old new s version files changed has e made =
    (publish_step edit s version files changed, publish_when edit s version files changed true (sym (e ∙ publish_same old s version files changed has)), published_has edit old new s version files changed has (sym e) (made refl))
publish_moves edit false old new s version files changed has e made = publish_when edit s version files changed false (sym (e ∙ publish_same old s version files changed has))

-- ---- a compacted version

rowsets_count : (xs : List Rowset) (ys : List Span) → map numbers_in xs ≡ map span_numbers ys → length ys ≡ length xs
rowsets_count [] [] e = refl
rowsets_count [] (y ∷ ys) e = cc
rowsets_count (x ∷ xs) [] e = cc
rowsets_count (x ∷ xs) (y ∷ ys) e = let tail : map numbers_in xs ≡ map span_numbers ys = cc in ap suc (rowsets_count xs ys tail)

left_files : (r : Replay) (s : Standing) (replaced : ℕ) → HasCurrent r s → Finds (files_left r replaced) (files_of (drop replaced s.versions.current.rowsets))
left_files r s replaced has =
    let all = s.versions.current.rowsets in
    let split = files_split replaced all in
    subst (λ (ns : List ℕ). Finds (without ns (get nat_cmp r.files)) (files_of (drop replaced all))) (flat_numbers replaced all r.rowsets.items has.rowsets)
    (without_finds (get nat_cmp r.files) (files_of (take replaced all)) (files_of (drop replaced all))
    (subst (λ (t : List ListedFile). distinct (numbers t) ≡ true) (sym split) has.once) (subst (Finds (get nat_cmp r.files)) (sym split) has.files))

other_files : (r : Replay) (s : Standing) (replaced : ℕ) (files : List NewFile) → HasCurrent r s → files_fit s.versions.next_file (bound - 1) files ≡ true
    → Finds (added files (files_left r replaced)) (files_of (compacted_rowsets replaced files s.versions.current.rowsets))
other_files r s replaced files has h =
    let left = drop replaced s.versions.current.rowsets in
    let next = s.versions.next_file in
    let first = first_new next files in
    let n = numbered next (bound - 1) files h in
    let good = good_drop next replaced s.versions.current.rowsets (good_now r s has) in
    let low = below_more next first (numbers (files_of left)) n.later good.below in
    let e : map whole_file files ++ files_of left ≡ files_of (compacted_rowsets replaced files s.versions.current.rowsets) = ap (λ (t : List ListedFile). t ++ files_of left) (sym (files_of-new files)) ∙ sym (files_of-append (new_rowset files) left) in
    subst (Finds (added files (files_left r replaced))) e
    (finds_swap first (added files (files_left r replaced)) (files_of left) (map whole_file files) low (consecutive-from first first files (omega arith) n.run)
    (added_finds first files (files_left r replaced) (files_of left) n.run low (left_files r s replaced has)))

compact_same : (r : Replay) (s : Standing) (edit version replaced : ℕ) (files : List NewFile) (changed : List DeadRows) → HasCurrent r s → r.current < bound
    → compact_takes r version replaced files changed ≡ compact_fits (most_file s) s.versions edit version replaced files changed None
compact_same r s edit version replaced files changed has small =
    let all = s.versions.current.rowsets in
    let rest : (files_fit s.versions.next_file (bound - 1) files && all_take 0 (added files (files_left r replaced)) changed) ≡ (files_fit s.versions.next_file (bound - 1) files && (changes_fit 0 (files_of (compacted_rowsets replaced files all)) changed && true)) =
    and_same (files_fit s.versions.next_file (bound - 1) files) _ _ (λ h. all_take_is (added files (files_left r replaced)) (files_of (compacted_rowsets replaced files all)) changed (other_files r s replaced files has h) ∙ sym (and_true (changes_fit 0 (files_of (compacted_rowsets replaced files all)) changed))) in
    (λ i. (version == has.current i) && (nat_le replaced (rowsets_count all r.rowsets.items has.rowsets i) && (files_fit (has.next_file i) (bound - 1) files && all_take 0 (added files (files_left r replaced)) changed)))
    ∙ and_same (version == current_number s.versions) _ _ (λ h. let e = eqb-true version (current_number s.versions) h in let now = has.current in
    ap (λ (b : Bool). nat_le replaced (length all) && b) rest ∙ ap (λ (b : Bool). b && (nat_le replaced (length all) && (files_fit s.versions.next_file (bound - 1) files && (changes_fit 0 (files_of (compacted_rowsets replaced files all)) changed && true)))) (sym (lt-ltb version bound (omega arith))))
    ∙ ap (λ (m : ℕ). compact_fits m s.versions edit version replaced files changed None) (sym (most_is r s has))
  where
    and_true : (b : Bool) → (b && true) ≡ b
    and_true true = refl
    and_true false = refl

abbrev compact_step : (edit : ℕ) (s : Standing) (version replaced : ℕ) (files : List NewFile) (changed : List DeadRows) → Standing
compact_step edit s version replaced files changed =
    record s { edit = edit; versions = compacted replaced files changed None s.versions; kept = kept_above s.versions.older s.kept (record { edit = edit; told = Compact version replaced files changed None }); levels = s.levels }

compact_when : (edit : ℕ) (s : Standing) (version replaced : ℕ) (files : List NewFile) (changed : List DeadRows) (b : Bool) → compact_fits (most_file s) s.versions edit version replaced files changed None ≡ b
    → step_at edit s (Compact version replaced files changed None) ≡ (if b then Some (compact_step edit s version replaced files changed) else None)
compact_when edit s version replaced files changed b e = by b e
  where
    f : Versions → Standing
    f vs = record s { edit = edit; versions = vs; kept = kept_above s.versions.older s.kept (record { edit = edit; told = Compact version replaced files changed None }); levels = s.levels }

    by : (b : Bool) → compact_fits (most_file s) s.versions edit version replaced files changed None ≡ b → step_at edit s (Compact version replaced files changed None) ≡ (if b then Some (compact_step edit s version replaced files changed) else None)
    by true e = ap (λ (t : Bool). option_map f (if t then Some (compacted replaced files changed None s.versions) else None)) e
    by false e = ap (λ (t : Bool). option_map f (if t then Some (compacted replaced files changed None s.versions) else None)) e

compacted_has : (edit : ℕ) (old new : Replay) (s : Standing) (version replaced : ℕ) (files : List NewFile) (changed : List DeadRows) → HasCurrent old s → old.current < bound
    → compact_takes old version replaced files changed ≡ true → HasCompacted replaced files changed old new → HasCurrent new (compact_step edit s version replaced files changed)
compacted_has edit old new s version replaced files changed has small h made =
    let fits = subst (λ (b : Bool). b ≡ true) (compact_same old s edit version replaced files changed has small ∙ ap (λ (m : ℕ). compact_fits m s.versions edit version replaced files changed None) (most_is old s has)) h in
    let all = s.versions.current.rowsets in
    let a = and_parts (version == current_number s.versions) _ fits in
    let b = and_parts (nat_lt version bound) _ a.1 in
    let c = and_parts (nat_le replaced (length all)) _ b.1 in
    let d = and_parts (files_fit s.versions.next_file (bound - 1) files) (changes_fit 0 (files_of (compacted_rowsets replaced files all)) changed && true) c.1 in
    let e = and_parts (changes_fit 0 (files_of (compacted_rowsets replaced files all)) changed) true d.1 in
    let le : bound - 1 ≤ bound = omega arith in
    let good = marked_good (above s.versions.next_file (numbers_of files)) changed (compacted_rowsets replaced files all) e.0
    (compacted_good s.versions.next_file (bound - 1) replaced files all le d.0 (good_now old s has)) in
    record {
      form = has.form;
      levels = has.levels;
      floor = made.floor ∙ has.floor;
      current = made.current ∙ has.current;
      next_file = made.next_file ∙ ap (λ (n : ℕ). above n (numbers_of files)) has.next_file;
      rowsets = marked-numbers changed (compacted_rowsets replaced files all)
          ∙ numbers_in-append (new_rowset files) (drop replaced all)
          ∙ (λ i. new_numbers s.versions.next_file (bound - 1) files d.0 i ++ (numbers_in-drop replaced all ∙ ap (drop replaced) has.rowsets) i)
          ∙ sym made.rowsets;
      files = subst (Finds (get nat_cmp new.files)) (sym (files_of-marked changed (compacted_rowsets replaced files all)))
          (finds_ext (marks changed (added files (files_left old replaced))) (get nat_cmp new.files) (map (marked_file changed) (files_of (compacted_rowsets replaced files all))) made.lookup
          (marks_find changed (added files (files_left old replaced)) (files_of (compacted_rowsets replaced files all)) e.0 (other_files old s replaced files has d.0)));
      once = good.once;
      fit = good.fit;
      below = good.below;
    }

pub compact_moves : (edit : ℕ) (ok : Bool) (old new : Replay) (s : Standing) (version replaced : ℕ) (files : List NewFile) (changed : List DeadRows) → HasCurrent old s → old.current < bound
    → ok ≡ compact_takes old version replaced files changed → (ok ≡ true → HasCompacted replaced files changed old new) → Moves ok (step_at edit s (Compact version replaced files changed None)) new
compact_moves edit true old new s version replaced files changed has small e made = (
  compact_step edit s version replaced files changed,
  compact_when edit s version replaced files changed true (sym (e ∙ compact_same old s edit version replaced files changed has small)),
  compacted_has edit old new s version replaced files changed has small (sym e) (made refl),
)
compact_moves edit false old new s version replaced files changed has small e made = compact_when edit s version replaced files changed false (sym (e ∙ compact_same old s edit version replaced files changed has small))

-- ---- a raised floor

floor_same : (r : Replay) (s : Standing) (floor : ℕ) → HasCurrent r s → r.current < bound → (nat_lt r.floor floor && nat_le floor r.current) ≡ floor_fits floor s.versions
floor_same r s floor has small =
    (λ i. nat_lt (has.floor i) floor && nat_le floor (has.current i))
    ∙ ap (λ (b : Bool). nat_lt s.versions.floor floor && b) (by (nat_le floor (current_number s.versions)) (λ h. let le = leb-true floor (current_number s.versions) h in let now = has.current in lt-ltb floor bound (omega arith)))
  where
    by : (b : Bool) → (b ≡ true → nat_lt floor bound ≡ true) → b ≡ (b && nat_lt floor bound)
    by true k = sym (k refl)
    by false k = refl

abbrev floor_step : ℕ → Standing → ℕ → Standing
floor_step edit s floor = record s { edit = edit; versions = raised floor s.versions; kept = entries_above floor s.kept }

pub floor_moves : (edit : ℕ) (ok : Bool) (old new : Replay) (s : Standing) (floor : ℕ) → HasCurrent old s → old.current < bound → ok ≡ (nat_lt old.floor floor && nat_le floor old.current)
    → (ok ≡ true → HasRaised floor old new) → Moves ok (step_at edit s (Floor floor)) new
floor_moves edit true old new s floor has small e made =
    let m = made refl in
    let fits = sym (e ∙ floor_same old s floor has small) in
    let a = and_parts (nat_lt s.versions.floor floor) _ fits in
    let b = and_parts (nat_le floor (current_number s.versions)) (nat_lt floor bound) a.1 in
    let above_ = ltb-true s.versions.floor floor a.0 in
    let within = leb-true floor (current_number s.versions) b.0 in
    let now = m.current in
    let was = has.current in (
      floor_step edit s floor,
      ap (λ (t : Bool). if t then Some (floor_step edit s floor) else None) fits,
      record {
        form = has.form;
        levels = has.levels;
        floor = m.floor_now;
        current = omega (arith, length-drop (floor - s.versions.floor) s.versions.older);
        next_file = m.next_file ∙ has.next_file;
        rowsets = has.rowsets ∙ ap (λ (t : List Span). map span_numbers t) (sym m.rowsets);
        files = finds_ext (get nat_cmp old.files) (get nat_cmp new.files) (files_of s.versions.current.rowsets) m.files has.files;
        once = has.once;
        fit = has.fit;
        below = has.below;
      },
    )
floor_moves edit false old new s floor has small e made =
    ap (λ (t : Bool). if t then Some (floor_step edit s floor) else None) (sym (e ∙ floor_same old s floor has small))

-- ---- the first record

pub begins_has : (r : Replay) (schema : Layout) (s : Standing) → opens 0 (created 1 schema) ≡ Some s → r.edit ≡ 0 → r.floor ≡ 0 → r.current ≡ 0 → r.next_file ≡ 1 → r.rowsets.items ≡ []
    → ((n : ℕ) → get nat_cmp r.files n ≡ None) → Follows r s
begins_has r schema s h edit floor current next rowsets files =
    let p = then_some ((0 == 0) && is_form 1) (record { form = 1; epoch = 0; edit = 0; versions = no_versions schema; kept = []; levels = None }) s h in
    subst (Follows r) p.1 (record {
      edit = edit;
      has = record {
        form = refl;
        levels = refl;
        floor = floor;
        current = current;
        next_file = next;
        rowsets = ap (λ (t : List Span). map span_numbers t) (sym rowsets);
        files = λ n. ap (option_map (listed_as n)) (files n);
        once = refl;
        fit = refl;
        below = refl;
      };
    })

-- ---- as the records are told

pub publish_told : (edit : ℕ) (ok : Bool) (old new : Replay) (s : Standing) (version : ℕ) (files fs : List NewFile) (changed cs : List DeadRows) (told : Record) → HasCurrent old s → told ≡ Publish version files changed
    → fs ≡ files → cs ≡ changed → ok ≡ publish_takes old version fs cs → (ok ≡ true → HasPublished version fs cs old new) → Moves ok (step_at edit s told) new
publish_told edit ok old new s version files fs changed cs told has is e d fits made =
    subst (λ (r : Record). Moves ok (step_at edit s r) new) ((λ i. Publish version (e i) (d i)) ∙ sym is) (publish_moves edit ok old new s version fs cs has fits made)

no_levels : (version replaced : ℕ) (files : List NewFile) (changed : List DeadRows) (levels : Option LevelList) → IsTrue (is_built (Compact version replaced files changed levels)) → None ≡ levels
no_levels version replaced files changed None h = refl
no_levels version replaced files changed (Some l) h = cc

pub compact_told : (edit : ℕ) (ok : Bool) (old new : Replay) (s : Standing) (version replaced : ℕ) (files fs : List NewFile) (changed cs : List DeadRows) (levels : Option LevelList) (told : Record) → HasCurrent old s → old.current < bound
    → told ≡ Compact version replaced files changed levels → IsTrue (is_built told) → fs ≡ files → cs ≡ changed → ok ≡ compact_takes old version replaced fs cs → (ok ≡ true → HasCompacted replaced fs cs old new)
    → Moves ok (step_at edit s told) new
compact_told edit ok old new s version replaced files fs changed cs levels told has small is built e d fits made =
    let none = no_levels version replaced files changed levels (subst (λ (r : Record). IsTrue (is_built r)) is built) in
    subst (λ (r : Record). Moves ok (step_at edit s r) new) ((λ i. Compact version replaced (e i) (d i) (none i)) ∙ sym is) (compact_moves edit ok old new s version replaced fs cs has small fits made)

pub floor_told : (edit : ℕ) (ok : Bool) (old new : Replay) (s : Standing) (floor : ℕ) (told : Record) → HasCurrent old s → old.current < bound → told ≡ Floor floor → ok ≡ (nat_lt old.floor floor && nat_le floor old.current)
    → (ok ≡ true → HasRaised floor old new) → Moves ok (step_at edit s told) new
floor_told edit ok old new s floor told has small is fits made = subst (λ (r : Record). Moves ok (step_at edit s r) new) (sym is) (floor_moves edit ok old new s floor has small fits made)

-- a step that was made
pub goes_so : (ok : Bool) (old new up : Replay) (s : Standing) (told : Record) → ok ≡ true → Follows old s → old.edit + 1 < bound → new.edit ≡ old.edit → up.edit ≡ new.edit + 1
    → ((t : Standing) → HasCurrent new t → HasCurrent up t) → Moves ok (step_at (s.edit + 1) s told) new → Goes ok (step s told) up
goes_so true old new up s told so follows small same more lift moves =
    let was = follows.edit in
    let next = moves.1 in
    let is : step s told ≡ Some moves.0 = ap (λ (b : Bool). if b then step_at (s.edit + 1) s told else None) (lt-ltb (s.edit + 1) bound (omega arith)) ∙ next in
    let count = (steps_count s moves.0 told is).edit in
    (moves.0, is, record { edit = omega arith; has = lift moves.0 moves.2 })
goes_so false old new up s told so follows small same more lift moves = cc

-- ---- a compaction that was made

spans-append : (xs ys : List Span) → all_numbers (xs ++ ys) ≡ all_numbers xs ++ all_numbers ys
spans-append [] ys = refl
spans-append (x ∷ xs) ys = ap (λ (t : List (List ℕ)). span_numbers x ∷ t) (spans-append xs ys)

spans-drop : (k : ℕ) (xs : List Span) → all_numbers (drop k xs) ≡ drop k (all_numbers xs)
spans-drop zero xs = refl
spans-drop (suc k) [] = refl
spans-drop (suc k) (x ∷ xs) = spans-drop k xs

pub rowsets_made : (replaced : ℕ) (files : List NewFile) (old : Replay) (span : Option Span) (left items rowsets : List Span) → items ≡ old.rowsets.items → left ≡ drop replaced items
    → rowsets ≡ option_spans span ++ left → all_numbers (option_spans span) ≡ new_rowset_numbers files → all_numbers rowsets ≡ new_rowset_numbers files ++ drop replaced (all_numbers old.rowsets.items)
rowsets_made replaced files old span left items rowsets e d r n =
    ap all_numbers r ∙ spans-append (option_spans span) left ∙ (λ i. n i ++ (ap all_numbers (d ∙ ap (drop replaced) e) ∙ spans-drop replaced old.rowsets.items) i)

pub lookup_made : (replaced : ℕ) (files : List NewFile) (changed : List DeadRows) (old : Replay) (gone items : List Span) (f g h : Lookup) → items ≡ old.rowsets.items → gone ≡ take replaced items
    → ((n : ℕ) → f n ≡ without (flat_map span_numbers gone) (get nat_cmp old.files) n) → ((n : ℕ) → g n ≡ added files f n) → ((n : ℕ) → h n ≡ marks changed g n)
    → (n : ℕ) → h n ≡ marks changed (added files (files_left old replaced)) n
lookup_made replaced files changed old gone items f g h e d first second third n =
    let left : f ≡ files_left old replaced = (λ i m. first m i) ∙ ap (λ (t : List Span). without (flat_map span_numbers t) (get nat_cmp old.files)) (d ∙ ap (take replaced) e) in
    let more : g ≡ added files (files_left old replaced) = (λ i m. second m i) ∙ ap (added files) left in
    third n ∙ ap (λ (k : Lookup). marks changed k n) more
