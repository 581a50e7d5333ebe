-- What images stand for while a load is published, and which book the state has then.
use Rattle.std.proofs.Common.{◌≡◌, inl, inr, ⊎_elim, refl, ap, sym, subst, ◌∙◌, ℕ, ◌+◌, ◌≤◌, List, [], ◌∷◌, ◌++◌, ◌<◌, arith, Option, Some, None, IfSome}
use Rattle.std.specs.Ordering.{nat_cmp}
use Rattle.std.specs.FinMap.{FinMap, get}
use Rattle.pk_values.specs.Schemas.{Layout}
use Rattle.pk_values.specs.declared.cells.Value.{Value}
use Rattle.dev_traits.specs.Image.{Image, area_of, file, Same}
use Rattle.dev_traits.specs.View.{View, EachImage, Leaves, LeavesOnly}
use Rattle.dev_traits.proofs.Moments.{each_still, leaves_only_here, leaves_only_then}
use Rattle.gated_log.specs.Log.{IsLog, IsSettled}
use Rattle.gated_log.proofs.Bytes.{ends_is_log}
use Rattle.pk_model.specs.declared.books.Book.{Book}
use Rattle.pk_model.specs.declared.calls.Call.{Call}
use Rattle.pk_model.specs.Books.{change}
use Rattle.rowsets.specs.Live.{Files}
use Rattle.rowsets.specs.Merging.{with_files}
use Rattle.journal_form.specs.declared.records.NewFile.{NewFile}
use Rattle.journal_form.specs.Meaning.{Entry, Standing, step}
use Rattle.journal_form.proofs.StepFacts.{steps_count}
use Rattle.journal_bytes.specs.Records.{record_bytes}
use Rattle.version_journal.specs.Areas.{area_of_epoch}
use Rattle.version_journal.specs.Images.{IsSaid}
use Rattle.version_journal.specs.Commits.{IsDue}
use Rattle.version_journal.proofs.Saying.{says_more, says_still}
use Rattle.pk_model.specs.Durable.{durable}
use Rattle.tablet_state.specs.Stands.{AreSegments, IsSegment, Stands, all_versions, files_in}
use Rattle.tablet_state.specs.Holding.{Holds, IsTold}
use Rattle.tablet_state.specs.Turns.{AreNew, StandsEither}
use Rattle.tablet_state.specs.Adopting.{AllJoined, Commits, HasFiles}
use Rattle.tablet_state.specs.Contents.{Contents, begun_of, index_of, standing_of, versions_of}
use Rattle.tablet_state.specs.State.{AreReadAs, Has, HasBook, HasStore, IsReadAs, SegmentView, Shown, named_files}
use Rattle.tablet_state.specs.Readies.{AreSealed, IsDeed, NewSegment, bytes_of}
use Rattle.rowsets.proofs.WrittenFacts.{lower_files_stay}
use Rattle.std.specs.List.{AllByRecursion}
use Rattle.tablet_state.proofs.Chain.{settled_still}
use Rattle.tablet_state.proofs.FileFacts.{files_grow}
use Rattle.tablet_state.proofs.SegmentFacts.{Below, joined_read, read_still}
use Rattle.tablet_state.proofs.StandFacts.{held_stands, named_files_below, new_segments, old_segments}

-- the moments since now are now
abbrev pub OnlyNow : View → Type 0
OnlyNow u = (i : Image) → u.might_since u.moment i → u.may_leave i

segments_elsewhere : (s : Layout) (stored : Files) (fs : List NewFile) (d i : Image) → i.files ≡ d.files → AreSegments s stored fs d → AreSegments s stored fs i
segments_elsewhere s stored [] d i same h = tt
segments_elsewhere s stored (f ∷ fs) d i same h = (
  record { lawful = h.0.lawful; spelled = ap (λ (m : FinMap nat_cmp (List ℕ)). get m f.file) same ∙ h.0.spelled; counted = h.0.counted },
  segments_elsewhere s stored fs d i same h.1,
)

files_new : (s : Layout) (first : ℕ) (files : List (List (List Value))) (made : List NewSegment) (i : Image) → AreSealed s files made → HasFiles first (bytes_of made) i → AreNew s first files i
files_new s first [] [] i are has = tt
files_new s first [] (m ∷ made) i are has = absurd are
files_new s first (rows ∷ files) [] i are has = absurd are
files_new s first (rows ∷ files) (m ∷ made) i are has = (
  record { lawful = are.0; spelled = subst (λ (o : Option (List ℕ)). IfSome o (λ bytes. file i first ≡ Some bytes)) are.1 has.0; counted = refl },
  files_new s (first + 1) files made i are.3 has.1,
)

-- files with lower numbers are stored as they were
lower_in : (first : ℕ) (stored : Files) (files : List (List (List Value))) (next : ℕ) (fs : List NewFile) → next ≤ first → AllByRecursion (λ (f : NewFile). f.file < next) fs → AllByRecursion (λ (f : NewFile). stored f.file ≡ with_files first files stored f.file) fs
lower_in first stored files next [] le below = tt
lower_in first stored files next (f ∷ fs) le below = let lt : f.file < next = below.0 in (sym (lower_files_stay first f.file files stored (omega arith)), lower_in first stored files next fs le below.1)

lower : (first : ℕ) (stored : Files) (files : List (List (List Value))) (m : Standing) → IsTold m → m.versions.next_file ≤ first → AllByRecursion (λ (f : NewFile). stored f.file ≡ with_files first files stored f.file) (files_in (all_versions m.versions))
lower first stored files m told le = lower_in first stored files m.versions.next_file (files_in (all_versions m.versions)) le (named_files_below m told)

-- calls that write nothing keep the book
pub has_still : (u v : View) (area end : ℕ) (c : Contents) (b : Book) → v.is_honest ≡ u.is_honest → Leaves Same u v → HasStore u area end c b → HasStore v area end c b
has_still u v area end c b honest call has = record {
  kept = has.kept;
  stored = has.stored;
  journal = record {
    each = each_still (λ i. IsSaid i (standing_of c has.kept)) u v call has.journal.each;
    in_force = has.journal.in_force;
    bodies = has.journal.bodies;
    settled = settled_still area has.journal.bodies end u v honest call has.journal.settled;
  };
  files = each_still (λ i. AreSegments c.schema has.stored (files_in (all_versions (versions_of c))) i) u v call has.files;
  holds = has.holds;
  begun = has.begun;
}

-- each image stands for the book
pub each_stands : (u : View) (area end : ℕ) (c : Contents) (b : Book) → HasStore u area end c b → EachImage u (Stands c.schema (durable b))
each_stands u area end c b has i left = held_stands c.schema has.stored (standing_of c has.kept) (index_of c) (begun_of c) b i has.holds (has.journal.each i left) (has.files i left)

-- up to the calls that write
pub only_still : (u v : View) (area end : ℕ) (c : Contents) (b : Book) (seq : ℕ) (turn : Call) → OnlyNow u → Leaves Same u v → HasStore u area end c b → LeavesOnly (StandsEither c.schema b seq turn) u v
only_still u v area end c b seq turn only call has =
    leaves_only_then Same (StandsEither c.schema b seq turn) u u v (leaves_only_here (StandsEither c.schema b seq turn) u only (λ i left. inl (each_stands u area end c b has i left))) call
    (λ d i left same. inl (subst (Stands c.schema (durable b)) (sym same) (each_stands u area end c b has d left)))

module _ (u : View) (area end : ℕ) (c : Contents) (b : Book) (seq : ℕ) (turn : Call) (first : ℕ) (made : List NewSegment) (body : List ℕ) (nxt : Contents) (left_book : Book)
    (has : HasStore u area end c b) (le : c.next_file ≤ first) (r : IsDeed c b first made body nxt left_book) (is_change : left_book ≡ change c.schema b seq turn) where
  abbrev m : Standing
  m = standing_of c has.kept

  abbrev entries : List Entry
  entries = (r.steps has.kept).0

  abbrev t : Standing
  t = standing_of nxt entries

  steps_to : step m r.told ≡ Some t
  steps_to = (r.steps has.kept).1

  due : IsDue (record_bytes (m.edit + 1) r.told) (Some m) t
  due = record { told = r.told; fits = r.fits; spelled = refl; built = r.built; joins = steps_to }

  abbrev now : Files
  now = with_files first r.files has.stored

  abbrev Here : Image → Image → Type 0
  Here d i = Commits (area_of_epoch m.epoch) has.journal.bodies (record_bytes (m.edit + 1) r.told) first (bytes_of made) d i

  as_told : (d i : Image) → Commits area has.journal.bodies body first (bytes_of made) d i → Here d i
  as_told d i step =
      subst (λ (x : List ℕ). Commits (area_of_epoch m.epoch) has.journal.bodies x first (bytes_of made) d i) r.spelled
      (subst (λ (a : ℕ). Commits a has.journal.bodies body first (bytes_of made) d i) has.journal.in_force step)

  log : (d : Image) → u.may_leave d → IsLog has.journal.bodies (area_of d (area_of_epoch m.epoch))
  log d left = subst (λ (a : ℕ). IsLog has.journal.bodies (area_of d a)) has.journal.in_force (ends_is_log has.journal.bodies end (area_of d area) (has.journal.settled.each d left))

  old_files : (d i : Image) → u.may_leave d → i.files ≡ d.files → AreSegments c.schema has.stored (files_in (all_versions (versions_of c))) i
  old_files d i left same = segments_elsewhere c.schema has.stored (files_in (all_versions (versions_of c))) d i same (has.files d left)

  -- the files of what is held next
  files_then : (d i : Image) → u.may_leave d → i.files ≡ d.files → HasFiles first (bytes_of made) i → AreSegments nxt.schema now (files_in (all_versions (versions_of nxt))) i
  files_then d i left same there =
      subst (λ (s : Layout). AreSegments s now (files_in (all_versions (versions_of nxt))) i) (sym r.schema)
      (files_grow (λ (f : NewFile). IsSegment c.schema (now f.file) f i) m t (old_segments c.schema has.stored m first r.files i has.holds.told le (old_files d i left same)) r.told steps_to
      (subst (λ (fs : List NewFile). AreSegments c.schema now fs i) (sym r.files_told) (new_segments c.schema has.stored first r.files i (files_new c.schema first r.files made i r.sealed there))))

  pub holds_after : Holds nxt.schema now t (index_of nxt) (begun_of nxt) left_book
  holds_after = r.holds has.stored has.kept has.holds

  pub at_each_moment : (d i : Image) → u.may_leave d → Commits area has.journal.bodies body first (bytes_of made) d i → StandsEither c.schema b seq turn i
  at_each_moment d i left commits = go (as_told d i commits)
    where
      go : Here d i → StandsEither c.schema b seq turn i
      go step = ⊎_elim
          (λ was. inl (held_stands c.schema has.stored m (index_of c) (begun_of c) b i has.holds (says_still d i has.journal.bodies (Some m) (has.journal.each d left) (log d left) step.elsewhere was) (old_files d i left step.elsewhere.files)))
          (λ is. inr (subst (λ (x : Book). Stands c.schema (durable x) i) is_change (subst (λ (s : Layout). Stands s (durable left_book) i) r.schema
          (held_stands nxt.schema now t (index_of nxt) (begun_of nxt) left_book i holds_after
          (says_more d i has.journal.bodies (record_bytes (m.edit + 1) r.told) (Some m) t (has.journal.each d left) (log d left) due step.elsewhere is.0)
          (files_then d i left step.elsewhere.files is.1)))))
          step.log

  epoch : m.epoch ≡ t.epoch
  epoch = sym (steps_count m t r.told steps_to).epoch

  -- the segments read the files of what is held next
  reads_then : (segs segs' : List SegmentView) → AreReadAs c.schema has.stored segs (named_files c) → Below first segs → AllJoined first made segs segs' → AreReadAs nxt.schema now segs' (named_files nxt)
  reads_then segs segs' read below all =
      subst (λ (s : Layout). AreReadAs s now segs' (named_files nxt)) (sym r.schema)
      (subst (λ (gs : List SegmentView). AreReadAs c.schema now gs (named_files nxt)) (sym all.joined)
      (files_grow (IsReadAs c.schema now (segs ++ all.more)) m t
      (read_still c.schema has.stored now segs all.more (named_files c) (lower first has.stored r.files m has.holds.told le) read)
      r.told steps_to
      (subst (λ (fs : List NewFile). AreReadAs c.schema now (segs ++ all.more) fs) (sym r.files_told) (joined_read c.schema has.stored first r.files made segs all.more r.sealed below all.adopted))))

  pub book_after : (v : View) (area' end' : ℕ) (segs segs' : List SegmentView) → AreReadAs c.schema has.stored segs (named_files c) → Below first segs → AllJoined first made segs segs'
      → area' ≡ area → Leaves (Commits area has.journal.bodies body first (bytes_of made)) u v → IsSettled area' (has.journal.bodies ++ body ∷ []) end' v → EachImage v (HasFiles first (bytes_of made))
      → HasBook v area' end' nxt segs' left_book
  book_after v area' end' segs segs' read below all same leaves settled there = record {
    images = record {
      kept = entries;
      stored = now;
      journal = record {
        each = λ i left.
            let from = leaves.now i left in
            let step = as_told from.0 i from.2 in
            let is : IsLog (has.journal.bodies ++ body ∷ []) (area_of i area') = ends_is_log (has.journal.bodies ++ body ∷ []) end' (area_of i area') (settled.each i left) in
            let is' : IsLog (has.journal.bodies ++ record_bytes (m.edit + 1) r.told ∷ []) (area_of i (area_of_epoch m.epoch)) =
            subst (λ (a : ℕ). IsLog (has.journal.bodies ++ record_bytes (m.edit + 1) r.told ∷ []) (area_of i a)) (same ∙ has.journal.in_force) (subst (λ (x : List ℕ). IsLog (has.journal.bodies ++ x ∷ []) (area_of i area')) r.spelled is) in
            says_more from.0 i has.journal.bodies (record_bytes (m.edit + 1) r.told) (Some m) t (has.journal.each from.0 from.1) (log from.0 from.1) due step.elsewhere is';
        in_force = same ∙ has.journal.in_force ∙ ap area_of_epoch epoch;
        bodies = has.journal.bodies ++ body ∷ [];
        settled = settled;
      };
      files = λ i left. let from = leaves.now i left in files_then from.0 i from.1 from.2.elsewhere.files (there i left);
      holds = holds_after;
      begun = r.begun has.begun;
    };
    read = reads_then segs segs' read below all;
  }

-- ---- the state

none_some : (n : ℕ) → None ≡ Some n → ⊥
none_some n e = cc

pub has_open : {S : Type 0} (view : S → View) (st : Shown S) (b : Book) → st.closed ≡ None → b.closed ≡ None → HasBook (view st.store) st.area st.end st.contents st.segments b → Has view st b
has_open view st b open_ none has = record { same = open_ ∙ sym none; opened = λ e. has; faulted = λ place is. absurd (none_some place (sym open_ ∙ is)) }

some_place : (a b : ℕ) → Some a ≡ Some b → a ≡ b
some_place a b e = cc

pub has_closed : {S : Type 0} (view : S → View) (st : Shown S) (b : Book) (seq : ℕ) (turn : Call) → st.closed ≡ Some seq → b.closed ≡ None → EachImage (view st.store) (StandsEither st.contents.schema b seq turn) → Has view st (record b { closed = Some seq })
has_closed view st b seq turn closed none each = record {
  same = closed;
  opened = λ e. absurd (none_some seq (sym e ∙ closed));
  faulted = λ place is. (
    turn,
    λ i left.
        let at : seq ≡ place = some_place seq place (sym closed ∙ is) in
        let open_ : b ≡ record b { closed = None } = λ j. record b { closed = none j } in
        subst (λ (n : ℕ). StandsEither st.contents.schema (record b { closed = None }) n turn i) at (subst (λ (x : Book). StandsEither st.contents.schema x seq turn i) open_ (each i left)),
  );
}

pub has_same : {S : Type 0} (view : S → View) (st : Shown S) (b d : Book) → b ≡ d → Has view st d → Has view st b
has_same view st b d same has = subst (λ (y : Book). Has view st y) (sym same) has
