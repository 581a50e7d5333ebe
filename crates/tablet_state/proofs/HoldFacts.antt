-- What each record makes of what is held of a book.
use Rattle.std.proofs.Common.{◌≡◌, refl, ap, sym, subst, ◌∙◌, inl, inr, ℕ, ◌+◌, ◌-◌, ◌<◌, ◌≤◌, max, List, [], ◌∷◌, ◌++◌, map, length, drop, Option, Some, None, Bool, true, false, ◌||◌, ◌&&◌, ◌==◌, nat_lt, nat_le, cond, if◌then◌else◌, arith, is_some, not}
use Rattle.std.specs.List.{list_any, AllByRecursion}
use Rattle.std.specs.Option.{option_and_then}
use Rattle.std.proofs.lemmas.Bool.{and_parts, eq-eqb, eqb-true, or_cases, ltb-true, leb-true}
use Rattle.std.proofs.lemmas.List.{map-append, length-map}
use Rattle.pk_values.specs.Schemas.{Layout}
use Rattle.pk_values.specs.declared.cells.Value.{Value}
use Rattle.pk_model.specs.declared.books.Book.{Book}
use Rattle.pk_model.specs.declared.books.Plan.{Plan}
use Rattle.pk_model.specs.Books.{publish, version, change_end, change_expire, late}
use Rattle.index_level0.specs.declared.place.Place.{Place}
use Rattle.rowsets.specs.Live.{Part, Version as Rowsets, Files, Live, Index, Apart, FilesOnce, HasKey, StandsFor, live, parts_of, names}
use Rattle.rowsets.specs.Marks.{same_place, stands_in}
use Rattle.rowsets.specs.Marks as marks
use Rattle.rowsets.specs.Changes.{one_rowset}
use Rattle.rowsets.specs.Changes as changes
use Rattle.rowsets.specs.Ending.{Moved, found_late, is_in}
use Rattle.rowsets.specs.Ending as ending
use Rattle.rowsets.specs.Loads.{ComeWithRow}
use Rattle.rowsets.specs.Merging.{all_live, numbered, with_files, moved_in, moved_to}
use Rattle.rowsets.specs.Steps.{IsReady, IsMerge}
use Rattle.rowsets.specs.Indexing.{moved_index, kept_moves}
use Rattle.rowsets.specs.Plans.{base_of, top_of}
use Rattle.rowsets.specs.Books.{Held, Readings, HoldsBook, HoldsPlans, names_version, names_plan, names_held, held_after}
use Rattle.rowsets.proofs.LiveFacts.{live-agrees, live-named, names-append, names-marked, same_place-exact}
use Rattle.rowsets.proofs.PlanFacts.{first_and_last}
use Rattle.rowsets.proofs.WrittenFacts.{lower_files_stay, numbered_are_new, numbered_are_written, written_are_moved}
use Rattle.rowsets.proofs.BookFacts.{others_are_free, expiry_is_held, as_many_versions}
use Rattle.rowsets.proofs.StepFacts.{ready_is_held, merge_is_held, only_merged_marked, written_is_merge}
use Rattle.journal_form.specs.declared.records.NewFile.{NewFile}
use Rattle.journal_form.specs.declared.records.DeadRows.{DeadRows}
use Rattle.journal_form.specs.declared.records.LevelList.{LevelList}
use Rattle.journal_form.specs.declared.records.Record.{Record}
use Rattle.journal_form.specs.declared.records.Record.TheVariants.{Publish, Compact, Floor, Levels}
use Rattle.journal_form.specs.Versions.{Version, Versions, above, bound, changes_fit, compact_fits, compacted, compacted_rowsets, current_number, files_fit, files_of, floor_fits, level_numbers, levels_fit, new_rowset, numbers_of, publish_fits, published, published_rowsets, raised}
use Rattle.journal_form.specs.Meaning.{Standing, entries_above, in_force, most_file, step}
use Rattle.journal_form.proofs.Parts.{then_some}
use Rattle.journal_form.proofs.StepFacts.{one_more, gives_publish, gives_compact, steps}
use Rattle.journal_form.proofs.GoodFiles.{AreGood, published_good, compacted_good}
use Rattle.journal_form.proofs.Applied.{EachGood, Good}
use Rattle.journal_form.proofs.SoundStandings.{meaning-sound}
use Rattle.tablet_state.specs.Stands.{rowsets_of}
use Rattle.kept_versions.specs.Changes.{places_of_changes}
use Rattle.tablet_state.specs.Holding.{IsTold, Holds, held, told_files, fresh, moved_rows, PublicationIsHeld, CompactionIsHeld, FloorIsHeld, LevelsAreHeld}
use Rattle.tablet_state.proofs.VersionFacts.{parts, marked_rowsets, one_new, drop_parts, drop_versions, version_below}
use Rattle.tablet_state.proofs.FileFacts.{all-append, all-first, all-last, all-drop}

pub told_more : (m t : Standing) (r : Record) → IsTold m → step m r ≡ Some t → IsTold t
told_more m t r told st = record {
  edit = told.edit;
  opening = told.opening;
  records = told.records ++ r ∷ [];
  means = one_more told.edit told.opening told.records r ∙ ap (option_and_then (λ (s : Standing). step s r)) told.means ∙ st;
}

pub good_of : (m : Standing) → IsTold m → Good m.versions
good_of m told = (meaning-sound told.edit told.opening told.records m told.means).good

most : (s : Standing) → most_file s ≤ bound
most s = go ((s.form == 1) && not (is_some s.levels))
  where
    go : (b : Bool) → (if b then bound - 1 else bound) ≤ bound
    go true = omega arith
    go false = omega arith

nothing : {X : Type 0} → false ≡ true → X
nothing e = absurd (cc e)

-- ---- the numbers that are held

pub numbers_told : (first : ℕ) (files : List (List (List Value))) → numbers_of (told_files first files) ≡ numbered first files
numbers_told first [] = refl
numbers_told first (rows ∷ files) = ap (λ (ns : List ℕ). first ∷ ns) (numbers_told (first + 1) files)

older_below : (next : ℕ) (vs : List Version) (n : ℕ) → EachGood next vs → list_any (λ v. names_version v n) (map rowsets_of vs) ≡ true → n < next
older_below next [] n good named = nothing named
older_below next (v ∷ vs) n good named =
    elim (or_cases (names_version (rowsets_of v) n) (list_any (λ w. names_version w n) (map rowsets_of vs)) named) [
      | inl e ↦ version_below next v n good.0 e
      | inr e ↦ older_below next vs n good.1 e
    ]

-- the plan's rowsets are of files that the current version names
plan_named : (s : Layout) (rows : Readings) (now : ℕ) (current : Rowsets) (plan : Option Rowsets) (p : Option Plan) (n : ℕ) → HoldsPlans s rows now current plan p → names_plan plan n ≡ true → names_version current n ≡ true
plan_named s rows now current None p n holds named = nothing named
plan_named s rows now current (Some begun) None n holds named = absurd holds
plan_named s rows now current (Some begun) (Some p) n holds named =
    ap (λ (ps : List Part). names ps n) (first_and_last (length begun) current)
    ∙ names-append (base_of begun current) (top_of begun current) n
    ∙ ap (λ b. b || names (top_of begun current) n) (holds.keeps.keeps.files n ∙ named)

module _ (s : Layout) (stored : Files) (m : Standing) (index : Index) (plan : Option Rowsets) (b : Book) (keeps : Holds s stored m index plan b) where
  abbrev vs : Versions
  vs = m.versions

  abbrev h : Held
  h = held vs index plan

  good : Good vs
  good = good_of m keeps.told

  current_below : (n : ℕ) → names (parts_of (rowsets_of vs.current)) n ≡ true → n < vs.next_file
  current_below n named = version_below vs.next_file vs.current n good.current named

  held_below : (n : ℕ) → names_held h n ≡ true → n < vs.next_file
  held_below n named =
      elim (or_cases (list_any (λ v. names_version v n) h.older) (names_version h.current n || names_plan plan n) named) [
        | inl e ↦ older_below vs.next_file vs.older n good.older e
        | inr e ↦ elim (or_cases (names_version h.current n) (names_plan plan n) e) [
          | inl f ↦ current_below n f
          | inr f ↦ current_below n (plan_named s (λ v. stored) (version b) h.current plan b.plan n keeps.holds.plan f)
        ]
      ]

  module _ (first : ℕ) (files : List (List (List Value))) (le : vs.next_file ≤ first) where
    abbrev now : Files
    now = with_files first files stored

    -- the new files change nothing of what is held
    pub holds_still : HoldsBook s (λ v. now) h b
    holds_still = others_are_free s (λ v. stored) (λ v. now) h b (λ v n named. let lt = held_below n named in lower_files_stay first n files stored (omega arith)) keeps.holds

    pub new : Apart (parts_of (rowsets_of vs.current)) (map all_live (numbered first files)) × FilesOnce (map all_live (numbered first files))
    new = numbered_are_new first files (parts_of (rowsets_of vs.current)) (λ n named. let lt = current_below n named in omega arith)

  schemas_current : vs.current.schema ≡ s
  schemas_current = (all-last (λ (v : Version). v.schema ≡ s) vs.older (vs.current ∷ []) keeps.schemas).0

  schemas_older : AllByRecursion (λ (v : Version). v.schema ≡ s) vs.older
  schemas_older = all-first (λ (v : Version). v.schema ≡ s) vs.older (vs.current ∷ []) keeps.schemas

-- ---- a load

published_is : (most_ version : ℕ) (vs : Versions) (files : List NewFile) (changed : List DeadRows) → most_ ≤ bound → publish_fits most_ vs version files changed ≡ true → AreGood vs.next_file (files_of vs.current.rowsets)
    → rowsets_of (published files changed vs).current ≡ changes.published (places_of_changes changed) (map all_live (numbers_of files)) (rowsets_of vs.current)
published_is most_ version vs files changed le fits good =
    let a = and_parts (version == current_number vs + 1) _ fits in
    let b = and_parts (nat_lt version bound) _ a.1 in
    let c = and_parts (nat_lt (length vs.older + 1) 1000) _ b.1 in
    let d = and_parts (files_fit vs.next_file most_ files) (changes_fit 0 (files_of (published_rowsets files vs.current.rowsets)) changed) c.1 in
    let g = published_good vs.next_file most_ files vs.current.rowsets le d.0 good in
    marked_rowsets (files_of (published_rowsets files vs.current.rowsets)) changed d.1 (published_rowsets files vs.current.rowsets) g.fit
    ∙ ap (map (marks.marked (places_of_changes changed))) (map-append parts vs.current.rowsets (new_rowset files) ∙ ap (λ (r : Rowsets). rowsets_of vs.current ++ r) (one_new files))

-- ---- new files, whatever else is stored

same_fresh : (first : ℕ) (files : List (List (List Value))) (a b : Files) (n : ℕ) → names (map all_live (numbered first files)) n ≡ true → with_files first files a n ≡ with_files first files b n
same_fresh first [] a b n named = nothing named
same_fresh first (file ∷ files) a b n named = go (n == first) refl (same_fresh (first + 1) files a b n)
  where
    go : (t : Bool) → (n == first) ≡ t → (names (map all_live (numbered (first + 1) files)) n ≡ true → with_files (first + 1) files a n ≡ with_files (first + 1) files b n)
        → cond t file (with_files (first + 1) files a n) ≡ cond t file (with_files (first + 1) files b n)
    go true e more = refl
    go false e more =
        elim (or_cases (first == n) (names (map all_live (numbered (first + 1) files)) n) named) [
          | inl f ↦ absurd (clash (n == first) (eq-eqb n first (sym (eqb-true first n f))) e)
          | inr f ↦ more f
        ]
      where
        clash : (x : Bool) → x ≡ true → x ≡ false → ⊥
        clash x g h = cc (sym g ∙ h)

live_fresh : (first : ℕ) (files : List (List (List Value))) (stored : Files) (stale : List Place) (p : Place)
    → live (with_files first files stored) (marks.marked stale (map all_live (numbered first files))) p ≡ live (fresh first files) (marks.marked stale (map all_live (numbered first files))) p
live_fresh first files stored stale p =
    live-agrees (fresh first files) (with_files first files stored) (marks.marked stale (map all_live (numbered first files)))
    (λ n named. same_fresh first files stored (λ n. []) n (sym (names-marked stale (map all_live (numbered first files)) n) ∙ named)) p

each_named : (ns ms : List ℕ) → ((n : ℕ) → names (map all_live ns) n ≡ true → names (map all_live ms) n ≡ true) → AllByRecursion (λ n. names (map all_live ms) n ≡ true) ns
each_named [] ms sub = tt
each_named (n ∷ ns) ms sub = (
  sub n (ap (λ b. b || names (map all_live ns) n) (eq-eqb n n refl)),
  each_named ns ms (λ k e. sub k (either (n == k) (names (map all_live ns) k) e)),
)
  where
    either : (a b : Bool) → b ≡ true → (a || b) ≡ true
    either true b e = refl
    either false b e = e

moved_same : (s : Layout) (rows others : Files) (ns : List ℕ) → AllByRecursion (λ n. rows n ≡ others n) ns → moved_to s rows ns ≡ moved_to s others ns
moved_same s rows others [] h = refl
moved_same s rows others (n ∷ ns) h = ap (λ (xs : List (List Value)). moved_in s n 0 xs ++ moved_to s rows ns) h.0 ∙ ap (λ (es : List Moved). moved_in s n 0 (others n) ++ es) (moved_same s rows others ns h.1)

all_by : {X : Type 0} (P Q : X → Type 0) (xs : List X) → ((x : X) → P x → Q x) → AllByRecursion P xs → AllByRecursion Q xs
all_by P Q [] f h = tt
all_by P Q (x ∷ xs) f h = (f x h.0, all_by P Q xs f h.1)

moved_fresh : (s : Layout) (first : ℕ) (files : List (List (List Value))) (stored : Files) → moved_to s (with_files first files stored) (numbered first files) ≡ moved_rows s first files
moved_fresh s first files stored = moved_same s (with_files first files stored) (fresh first files) (numbered first files)
    (all_by (λ n. names (map all_live (numbered first files)) n ≡ true) (λ n. with_files first files stored n ≡ fresh first files n) (numbered first files) (λ n named. same_fresh first files stored (λ n. []) n named) (each_named (numbered first files) (numbered first files) (λ n e. e)))

come_there : (first : ℕ) (files : List (List (List Value))) (stored : Files) (stale : List Place) → ComeWithRow (fresh first files) stale (map all_live (numbered first files)) → ComeWithRow (with_files first files stored) stale (map all_live (numbered first files))
come_there first files stored stale come =
    elim come [
      | inl none ↦ inl none
      | inr row ↦ inr (row.0, row.1, live_fresh first files stored stale row.0 ∙ row.2)
    ]

pub publication_is_held : PublicationIsHeld
publication_is_held s stored m t index plan b load number first files changed moves keeps le st p =
    let r : Record = Publish number (told_files first files) changed in
    let g = gives_publish (m.edit + 1) number (told_files first files) changed m t (steps m t r st).1 in
    let vs : Versions = m.versions in
    let now : Files = with_files first files stored in
    let more = new s stored m index plan b keeps first files le in
    let lives : live (fresh first files) (marks.marked p.stale (map all_live (numbered first files))) ≡ live now (marks.marked p.stale (map all_live (numbered first files))) =
    λ i q. sym (live_fresh first files stored p.stale q) i in
    let ready : IsReady s load b.current index (live now (marks.marked p.stale (map all_live (numbered first files)))) p.looked_up moves =
    subst (λ (x : Live). IsReady s load b.current index x p.looked_up moves) lives p.ready in
    let is : rowsets_of (published (told_files first files) changed vs).current ≡ changes.published (places_of_changes changed) (map all_live (numbered first files)) (rowsets_of vs.current) =
    published_is (most_file m) number vs (told_files first files) changed (most m) g.fits (good_of m keeps.told).current
    ∙ ap (λ (ns : List ℕ). changes.published (places_of_changes changed) (map all_live ns) (rowsets_of vs.current)) (numbers_told first files) in
    let older : map rowsets_of (vs.older ++ vs.current ∷ []) ≡ map rowsets_of vs.older ++ rowsets_of vs.current ∷ [] = map-append rowsets_of vs.older (vs.current ∷ []) in
    let same : held_after (places_of_changes changed) (map all_live (numbered first files)) (moved_index moves index) (held vs index plan) ≡ held (published (told_files first files) changed vs) (moved_index moves index) plan =
    λ i. record { older = sym older i; current = sym is i; index = moved_index moves index; plan = plan } in
    subst (λ (x : Standing). IsTold x → Holds s now x (moved_index moves index) plan (publish s b load)) g.is
    (λ told. record {
      told = told;
      schemas = all-append (λ (v : Version). v.schema ≡ s) (vs.older ++ vs.current ∷ []) ((published (told_files first files) changed vs).current ∷ []) keeps.schemas (schemas_current s stored m index plan b keeps, tt);
      floor = keeps.floor;
      holds = subst (λ (h : Held). HoldsBook s (λ v. now) h (publish s b load)) same
          (ready_is_held s (λ v. now) (held vs index plan) b load (map all_live (numbered first files)) p.looked_up p.stale (places_of_changes changed) moves
          (holds_still s stored m index plan b keeps first files le) (λ n named. refl) more.0 more.1 ready p.of_new p.found (come_there first files stored p.stale p.come) p.lawful);
    })
    (told_more m t r keeps.told st)

-- ---- the end of a compaction

-- the rowsets with which a plan began stood for its map, and do so with the files that are stored now
planned : (s : Layout) (rows : Readings) (now : ℕ) (current begun : Rowsets) (o : Option Plan) (p : Plan) → o ≡ Some p → HoldsPlans s rows now current (Some begun) o → StandsFor s (live (rows p.version) (parts_of begun)) p.rows
planned s rows now current begun o p is holds = (subst (HoldsPlans s rows now current (Some begun)) is holds).stood

late_in : (s : Layout) (rows : Files) (ps : List Part) (index : Index) (begun : List Part) (es : List Moved) (p : Place)
    → AllByRecursion (λ e. HasKey s (live rows ps) e.place e.key) es → stands_in (found_late index begun es) p ≡ true → names ps p.segment ≡ true
late_in s rows ps index begun [] p has found = nothing found
late_in s rows ps index begun (e ∷ es) p has found = go (is_in begun (index e.key)) found (late_in s rows ps index begun es p has.1)
  where
    go : (b : Bool) → stands_in (cond b (found_late index begun es) (e.place ∷ found_late index begun es)) p ≡ true → (stands_in (found_late index begun es) p ≡ true → names ps p.segment ≡ true) → names ps p.segment ≡ true
    go true found more = more found
    go false found more =
        elim (or_cases (same_place p e.place) (stands_in (found_late index begun es) p) found) [
          | inl f ↦ subst (λ (q : Place). names ps q.segment ≡ true) (same_place-exact p e.place f) (live-named rows ps e.place has.0.0 has.0.1)
          | inr f ↦ more f
        ]

compacted_is : (most_ edit version replaced : ℕ) (vs : Versions) (files : List NewFile) (changed : List DeadRows) (levels : Option LevelList) → most_ ≤ bound
    → compact_fits most_ vs edit version replaced files changed levels ≡ true → AreGood vs.next_file (files_of vs.current.rowsets)
    → ((p : Place) → stands_in (places_of_changes changed) p ≡ true → names (map all_live (numbers_of files)) p.segment ≡ true) → Apart (parts_of (rowsets_of vs.current)) (map all_live (numbers_of files))
    → rowsets_of (compacted replaced files changed levels vs).current ≡ ending.compacted (places_of_changes changed) (map all_live (numbers_of files)) replaced (rowsets_of vs.current)
compacted_is most_ edit version replaced vs files changed levels le fits good out apart =
    let a = and_parts (version == current_number vs) _ fits in
    let b = and_parts (nat_lt version bound) _ a.1 in
    let c = and_parts (nat_le replaced (length vs.current.rowsets)) _ b.1 in
    let d = and_parts (files_fit vs.next_file most_ files) _ c.1 in
    let e = and_parts (changes_fit 0 (files_of (compacted_rowsets replaced files vs.current.rowsets)) changed) (levels_fit edit levels) d.1 in
    let g = compacted_good vs.next_file most_ replaced files vs.current.rowsets le d.0 good in
    marked_rowsets (files_of (compacted_rowsets replaced files vs.current.rowsets)) changed e.0 (compacted_rowsets replaced files vs.current.rowsets) g.fit
    ∙ ap (map (marks.marked (places_of_changes changed)))
    (map-append parts (new_rowset files) (drop replaced vs.current.rowsets)
    ∙ ap (λ (r : Rowsets). r ++ map parts (drop replaced vs.current.rowsets)) (one_new files)
    ∙ ap (λ (r : Rowsets). one_rowset (map all_live (numbers_of files)) ++ r) (drop_parts replaced vs.current.rowsets))
    ∙ only_merged_marked (places_of_changes changed) (map all_live (numbers_of files)) replaced (rowsets_of vs.current) out apart

pub compaction_is_held : CompactionIsHeld
compaction_is_held s stored m t index begun b p number first files changed levels keeps at_book le st merged =
    let r : Record = Compact number (length begun) (told_files first files) changed levels in
    let g = gives_compact (m.edit + 1) number (length begun) (told_files first files) changed levels m t (steps m t r st).1 in
    let vs : Versions = m.versions in
    let now : Files = with_files first files stored in
    let fresh_parts : List Part = map all_live (numbered first files) in
    let more = new s stored m index (Some begun) b keeps first files le in
    let moved : List Moved = moved_rows s first files in
    let at_now : moved_to s now (numbered first files) ≡ moved = moved_fresh s first files stored in
    let next : Index = moved_index (kept_moves index (parts_of begun) moved) index in
    let still = holds_still s stored m index (Some begun) b keeps first files le in
    let merge : IsMerge s now begun p (numbered first files) =
    written_is_merge s now begun p (numbered first files) (planned s (λ v. now) (version b) (rowsets_of vs.current) begun b.plan p at_book still.plan) (numbered_are_written first files stored ∙ merged.rows)
    (λ e. ap (numbered first) (merged.none e)) in
    let End : List Moved → Type 0 = λ es. HoldsBook s (λ v. now) (record (held vs index (Some begun)) { current = ending.compacted (places_of_changes changed) fresh_parts (length begun) (rowsets_of vs.current); index = moved_index (kept_moves index (parts_of begun) es) index; plan = None }) (change_end b (Some p)) × (length (found_late index (parts_of begun) es) ≡ late p) in
    let end : End moved = subst End at_now (merge_is_held s (λ v. now) (held vs index (Some begun)) b begun p (numbered first files) (places_of_changes changed)
    still refl at_book merge more.0 more.1 (λ q. merged.dead q ∙ ap (λ (es : List Moved). stands_in (found_late index (parts_of begun) es) q) (sym at_now))) in
    let out : (q : Place) → stands_in (places_of_changes changed) q ≡ true → names fresh_parts q.segment ≡ true =
    λ q e. late_in s now fresh_parts index (parts_of begun) moved q (subst (λ (es : List Moved). AllByRecursion (λ e. HasKey s (live now fresh_parts) e.place e.key) es) at_now (written_are_moved s now (numbered first files)).0.each) (sym (merged.dead q) ∙ e) in
    let at : (ns : List ℕ) → numbers_of (told_files first files) ≡ ns → ((q : Place) → stands_in (places_of_changes changed) q ≡ true → names (map all_live ns) q.segment ≡ true) → Apart (parts_of (rowsets_of vs.current)) (map all_live ns)
    → rowsets_of (compacted (length begun) (told_files first files) changed levels vs).current ≡ ending.compacted (places_of_changes changed) (map all_live ns) (length begun) (rowsets_of vs.current) =
    λ ns e o a. compacted_is (most_file m) (m.edit + 1) number (length begun) vs (told_files first files) changed levels (most m) g.fits (good_of m keeps.told).current
    (λ q f. subst (λ (xs : List ℕ). names (map all_live xs) q.segment ≡ true) (sym e) (o q f)) (subst (λ (xs : List ℕ). Apart (parts_of (rowsets_of vs.current)) (map all_live xs)) (sym e) a)
    ∙ ap (λ (xs : List ℕ). ending.compacted (places_of_changes changed) (map all_live xs) (length begun) (rowsets_of vs.current)) e in
    let is : rowsets_of (compacted (length begun) (told_files first files) changed levels vs).current ≡ ending.compacted (places_of_changes changed) fresh_parts (length begun) (rowsets_of vs.current) =
    at (numbered first files) (numbers_told first files) out more.0 in
    let same : ◌≡◌ {A = Held} (record { older = map rowsets_of vs.older; current = ending.compacted (places_of_changes changed) fresh_parts (length begun) (rowsets_of vs.current); index = next; plan = None }) (held (compacted (length begun) (told_files first files) changed levels vs) next None) =
    λ i. record { older = map rowsets_of vs.older; current = sym is i; index = next; plan = None } in (
      subst (λ (x : Standing). IsTold x → Holds s now x next None (change_end b (Some p))) g.is
          (λ told. record {
            told = told;
            schemas = all-append (λ (v : Version). v.schema ≡ s) vs.older ((compacted (length begun) (told_files first files) changed levels vs).current ∷ []) (schemas_older s stored m index (Some begun) b keeps) (schemas_current s stored m index (Some begun) b keeps, tt);
            floor = keeps.floor;
            holds = subst (λ (h : Held). HoldsBook s (λ v. now) h (change_end b (Some p))) same end.0;
          })
          (told_more m t r keeps.told st),
      end.1,
    )

-- ---- a floor

pub floor_is_held : FloorIsHeld
floor_is_held s stored m t index plan b floor keeps st =
    let r : Record = Floor floor in
    let vs : Versions = m.versions in
    let p = then_some (floor_fits floor vs) (record m { edit = m.edit + 1; versions = raised floor vs; kept = entries_above floor m.kept }) t (steps m t r st).1 in
    let a = and_parts (nat_lt vs.floor floor) _ p.0 in
    let c = and_parts (nat_le floor (current_number vs)) (nat_lt floor bound) a.1 in
    let above_ : vs.floor < floor = ltb-true vs.floor floor a.0 in
    let within : floor ≤ current_number vs = leb-true floor (current_number vs) c.0 in
    let many : length vs.older ≡ length b.older = sym (length-map vs.older rowsets_of) ∙ as_many_versions s (λ v. stored) (held vs index plan) b keeps.holds in
    let at : vs.floor ≡ b.floor = keeps.floor in
    let le : floor ≤ version b = omega arith in
    let not_above : nat_lt (version b) floor ≡ false = below (version b) floor le in
    let older : map rowsets_of (drop (floor - vs.floor) vs.older) ≡ drop (floor - b.floor) (map rowsets_of vs.older) = drop_versions (floor - vs.floor) vs.older ∙ ap (λ (n : ℕ). drop (floor - n) (map rowsets_of vs.older)) at in
    let greater : floor ≡ max b.floor floor = omega arith in
    let same : record (held vs index plan) { older = drop (floor - b.floor) (map rowsets_of vs.older) } ≡ held (raised floor vs) index plan =
    λ i. record { older = sym older i; current = rowsets_of vs.current; index = index; plan = plan } in
    subst (λ (x : Standing). IsTold x → Holds s stored x index plan (change_expire b floor)) p.1
    (λ told. record {
      told = told;
      schemas = all-append (λ (v : Version). v.schema ≡ s) (drop (floor - vs.floor) vs.older) (vs.current ∷ []) (all-drop (λ (v : Version). v.schema ≡ s) (floor - vs.floor) vs.older (schemas_older s stored m index plan b keeps)) (schemas_current s stored m index plan b keeps, tt);
      floor = greater ∙ ap (λ (f : Bool). let x : Book = if f then b else record b { floor = max b.floor floor; older = drop (floor - b.floor) b.older } in x.floor) (sym not_above);
      holds = subst (λ (h : Held). HoldsBook s (λ v. stored) h (change_expire b floor)) same (expiry_is_held s (λ v. stored) (held vs index plan) b floor keeps.holds le);
    })
    (told_more m t r keeps.told st)
  where
    below : (n f : ℕ) → f ≤ n → nat_lt n f ≡ false
    below n f le = go (nat_lt n f) refl
      where
        go : (x : Bool) → nat_lt n f ≡ x → x ≡ false
        go false e = refl
        go true e = let lt = ltb-true n f e in absurd (omega arith)

-- ---- index files

pub levels_are_held : LevelsAreHeld
levels_are_held s stored m t index plan b levels keeps st =
    let vs : Versions = m.versions in
    let p = then_some (levels_fit (m.edit + 1) levels) (record m { edit = m.edit + 1; versions = record vs { next_file = above vs.next_file (level_numbers levels) }; levels = in_force levels m.levels }) t (steps m t (Levels levels) st).1 in
    subst (λ (x : Standing). IsTold x → Holds s stored x index plan b) p.1 (λ told. record { told = told; schemas = keeps.schemas; floor = keeps.floor; holds = keeps.holds }) (told_more m t (Levels levels) keeps.told st)
