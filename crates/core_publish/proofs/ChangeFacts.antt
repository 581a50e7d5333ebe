-- A prepared load is the change of its load over a book.
use Rattle.std.proofs.Common.{◌≡◌, refl, ap, sym, subst, ◌∙◌, inr, ℕ, ◌+◌, ◌/◌, ◌≤◌, List, [], ◌∷◌, map, length, Option, Some, None, Bool as Truth, true, false, arith, is_some, append-nil}
use Rattle.std.specs.Prelude.{IsTrue}
use Rattle.std.specs.List.{AllByRecursion, list_all}
use Rattle.std.specs.FinMap.{empty, values}
use Rattle.column_page.specs.Footers.{is_footer}
use Rattle.column_page.specs.declared.footers.Footer.{Footer}
use Rattle.dev_traits.specs.Image.{Image}
use Rattle.dev_traits.specs.View.{View}
use Rattle.index_level0.specs.declared.place.Place.{Place}
use Rattle.pk_values.specs.Schemas.{Layout, schema_fault}
use Rattle.pk_values.specs.declared.cells.Value.{Value}
use Rattle.segment_form.specs.Segments.{AreSegmentRows, footer_of, segment_file}
use Rattle.segment_form.proofs.Blocks.{segment_footer_is}
use Rattle.segment_read.specs.Footers.{HasFooter}
use Rattle.segment_read.proofs.Intact.{has_its_footer}
use Rattle.pk_model.specs.Tables.{after}
use Rattle.pk_model.specs.declared.books.Book.{Book}
use Rattle.pk_model.specs.declared.calls.Load.{Load}
use Rattle.rowsets.specs.Live.{Index, Part, live}
use Rattle.rowsets.specs.Loads.{AreRows}
use Rattle.rowsets.specs.Marks.{stands_in}
use Rattle.rowsets.specs.Merging.{all_live, numbered}
use Rattle.rowsets.specs.Indexing.{CodeMove, places_of}
use Rattle.rowsets.specs.Steps.{HaveSame, IsReady}
use Rattle.journal_form.specs.declared.records.NewFile.{NewFile}
use Rattle.journal_form.specs.declared.records.Record.TheVariants.{Publish}
use Rattle.journal_form.specs.Versions.{Rowset as ListedRowset, published_rowsets}
use Rattle.kept_versions.specs.Files.{can_die}
use Rattle.tablet_state.specs.Contents.{Contents, begun_of, index_of, standing_of}
use Rattle.tablet_state.specs.Readies.{AreSealed, IsChangeOf, IsLed, IsMadeOf, Leads, NewSegment, new_files, next_contents}
use Rattle.tablet_state.specs.State.{Has, HasStore, Shown}
use Rattle.tablet_state.proofs.RowFacts.{held_rows_fit}
use Rattle.core_publish.specs.Prepared.{AreSealedOf, IsPrepared, fresh, moves_to}
use Rattle.core_publish.specs.Publication.{entry_from, written_files}
use Rattle.core_publish.specs.Publishing.{IsHeldNext, IsTaken, IsWrongIndex, StandsTwice, stored_places}
use Rattle.core_publish.proofs.EntryFacts.{entries-are-moves, length-files, prepared-is-ready}
use Rattle.core_publish.proofs.OldPlaces.{not_twice}
use Rattle.core_publish.proofs.KeyFacts.{as-many, comes, dies-still, found-places, keys-fit, marked-none, moves-fit, nothing, one-dead}

-- ---- its files

pub sealed-told : (s : Layout) (files : List (List (List Value))) (made : List NewSegment) → AreSealedOf s files made → AllByRecursion (λ m. is_some m.0 ≡ true) made → AreSealed s files made
sealed-told s [] [] are told = tt
sealed-told s [] (m ∷ made) are told = absurd are
sealed-told s (rows ∷ files) [] are told = absurd are
sealed-told s (rows ∷ files) (m ∷ made) are told = (are.0, told_is m.0 told.0 are.1, are.2, sealed-told s files made are.3 told.1)
  where
    told_is : (o : Option (List ℕ)) → is_some o ≡ true → ((bytes : List ℕ) → o ≡ Some bytes → bytes ≡ segment_file s rows) → o ≡ Some (segment_file s rows)
    told_is None e h = nothing e
    told_is (Some bytes) e h = ap Some (h bytes refl)

made-of : (s : Layout) (rows : List (List Value)) (m : NewSegment) → schema_fault s.columns s.keys ≡ None → AreSegmentRows s rows → ((bytes : List ℕ) → m.0 ≡ Some bytes → bytes ≡ segment_file s rows) → m.1 ≡ footer_of s rows
    → IsMadeOf s m
made-of s rows m lawful are bytes footer =
    let is = segment_footer_is s rows lawful are in
    record {
      is = subst (λ (f : Footer). IsTrue (is_footer f)) (sym footer) is.is;
      known = λ file told. subst (λ (f : Footer). HasFooter s f file) (sym footer) (subst (HasFooter s (footer_of s rows)) (sym (bytes file told)) (has_its_footer s rows is));
    }

pub known-all : (s : Layout) (files : List (List (List Value))) (made : List NewSegment) → schema_fault s.columns s.keys ≡ None → AreSealedOf s files made → AllByRecursion (IsMadeOf s) made
known-all s [] [] lawful are = tt
known-all s [] (m ∷ made) lawful are = absurd are
known-all s (rows ∷ files) [] lawful are = absurd are
known-all s (rows ∷ files) (m ∷ made) lawful are = (made-of s rows m lawful are.0 are.1 are.2, known-all s files made lawful are.3)

pub known : (s : Layout) (load : Load) (files : List NewSegment) (entries : List CodeMove) → schema_fault s.columns s.keys ≡ None → IsPrepared s load files entries → AllByRecursion (IsMadeOf s) files
known s load files entries lawful p = known-all s (written_files s load) files lawful p.sealed

pub four-files : (s : Layout) (load : Load) (files : List NewSegment) (entries : List CodeMove) → IsPrepared s load files entries → length files ≤ 4
four-files s load files entries p =
    let rows = values (after s load empty) in
    omega (arith, as-many s (written_files s load) files p.sealed, length-files ((length rows + 65535) / 65536) rows, p.few)

-- ---- the change

none-stands : (X : Type 0) (p : Place) → stands_in [] p ≡ true → X
none-stands X p e = nothing e

pub load-change : (s : Layout) (load : Load) (files : List NewSegment) (entries : List CodeMove) (p : IsPrepared s load files entries) (index : Index) (b : Book) (first : ℕ) (dead : List Place) (moved : List CodeMove)
    → AllByRecursion (λ m. is_some m.0 ≡ true) files → AreRows s b.current → moved ≡ map (entry_from first) entries → HaveSame dead (places_of index p.moves.keys)
    → IsChangeOf s index b load first files dead moved
load-change s load files entries p index b first dead moved told are same found =
    let rows = written_files s load in
    let keys = p.moves.keys in
    let parts = map all_live (numbered first rows) in
    record {
      files = rows;
      sealed = sealed-told s rows files p.sealed told;
      moves = moves_to s first rows keys;
      fit = moves-fit s first rows keys (keys-fit s load files entries p);
      entries_are = same ∙ entries-are-moves s load files entries p first;
      publication = record {
        lawful = p.lawful;
        looked_up = keys;
        stale = [];
        ready = subst (λ (ps : List Part). IsReady s load b.current index (live (fresh first rows) ps) keys (moves_to s first rows keys)) (sym (marked-none parts))
            (prepared-is-ready s load files entries p first b.current index are);
        of_new = λ q e. none-stands _ q e;
        of_rows = λ q e. none-stands _ q e;
        found = λ q. found q ∙ ap (λ (ps : List Place). stands_in ps q) (sym (append-nil (places_of index keys)));
        come = comes s first rows files p.sealed;
      };
    }

-- the rows of a book that a store has fit
pub rows-of-book : (u : View) (area end : ℕ) (c : Contents) (b : Book) → (IsTrue u.is_honest → (image : Image) × (u.seen ≡ Some image) × u.may_leave image) → HasStore u area end c b → AreRows c.schema b.current
rows-of-book u area end c b reads has =
    let image = reads has.journal.settled.honest in
    held_rows_fit c.schema has.stored (standing_of c has.kept) (index_of c) (begun_of c) b image.0 has.holds (has.files image.0 image.2)

-- ---- rows that aren't live

-- a refusal of the places that an index has tells a row that isn't live
pub wrong-row : (c : Contents) (entries : List CodeMove) (files : List NewFile) (dead : List Place) → HaveSame dead (stored_places c.codes entries)
    → list_all (can_die (published_rowsets files c.current)) dead ≡ false → IsWrongIndex c entries
wrong-row c entries files dead same h =
    let one = one-dead (can_die (published_rowsets files c.current)) dead h in
    inr (one.0, sym (same one.0) ∙ one.1, gone one.0 one.2 (can_die c.current one.0) refl)
  where
    gone : (p : Place) → can_die (published_rowsets files c.current) p ≡ false → (t : Truth) → can_die c.current p ≡ t → can_die c.current p ≡ false
    gone p e false f = f
    gone p e true f = absurd (cc (sym (dies-still files c.current p f) ∙ e))

-- ---- over a state that has a book

abbrev pub Reads : View → Type 0
Reads u = IsTrue u.is_honest → (image : Image) × (u.seen ≡ Some image) × u.may_leave image

module _ {S : Type 0} (view : S → View) (st : Shown S) (b : Book) (h : Has view st b) (open_ : st.closed ≡ None)
    (load : Load) (files : List NewSegment) (entries : List CodeMove) (p : IsPrepared st.contents.schema load files entries) where
  abbrev held : Contents
  held = st.contents

  book : HasStore (view st.store) st.area st.end held b
  book = (h.opened open_).images

  -- no two of its keys stand at one row
  pub no_twice : StandsTwice (stored_places held.codes entries) → ⊥
  no_twice two =
      not_twice held.schema _ (index_of held) p.moves.keys book.holds.holds.exact p.moves.rise
      (subst StandsTwice (found-places held.schema load files entries held.codes p) two)

  pub change_of : Reads (view st.store) → (is_some (view st.store).seen ≡ true → AllByRecursion (λ m. is_some m.0 ≡ true) files) → (dead : List Place) (moved : List CodeMove) → moved ≡ map (entry_from held.next_file) entries
      → HaveSame dead (stored_places held.codes entries) → IsChangeOf held.schema (index_of held) b load held.next_file files dead moved
  change_of reads tells dead moved same found =
      let image = reads book.journal.settled.honest in
      load-change held.schema load files entries p (index_of held) b held.next_file dead moved (tells (ap is_some image.1))
      (rows-of-book (view st.store) st.area st.end held b reads book) same
      (λ q. found q ∙ ap (λ (ps : List Place). stands_in ps q) (found-places held.schema load files entries held.codes p))

all-tell : {M : Type 0} (see : M → NewSegment) (ms : List M) → ((m : M) → is_some (see m).0 ≡ true) → AllByRecursion (λ f. is_some f.0 ≡ true) (map see ms)
all-tell see [] tell = tt
all-tell see (m ∷ ms) tell = (tell m, all-tell see ms tell)

-- what was taken out of a prepared load is its change, where a store that tells has files that tell
pub taken_change : {S M : Type 0} (view : S → View) (see : M → NewSegment) (st : Shown S) (b : Book) → Has view st b → st.closed ≡ None → Reads (view st.store)
    → (is_some (view st.store).seen ≡ true → (m : M) → is_some (see m).0 ≡ true) → (load : Load) (files : List NewSegment) (entries : List CodeMove) → IsPrepared st.contents.schema load files entries
    → (ms : List M) → map see ms ≡ files → (first : ℕ) → first ≡ st.contents.next_file → (dead : List Place) → HaveSame dead (stored_places st.contents.codes entries) → (moved : List CodeMove) → moved ≡ map (entry_from first) entries
    → IsChangeOf st.contents.schema (index_of st.contents) b load st.contents.next_file (map see ms) dead moved
taken_change view see st b h open_ reads tell load files entries p ms are first at dead found moved same =
    subst (λ (fs : List NewSegment). IsChangeOf st.contents.schema (index_of st.contents) b load st.contents.next_file fs dead moved) (sym are)
    (change_of view st b h open_ load files entries p reads (λ seen. subst (AllByRecursion (λ f. is_some f.0 ≡ true)) are (all-tell see ms (tell seen))) dead moved
    (same ∙ ap (λ (n : ℕ). map (entry_from n) entries) at) found)

-- ---- what is held next

pub held_next : (c : Contents) (files made : List NewSegment) (entries moved : List CodeMove) (dead : List Place) (body : List ℕ) (current : List ListedRowset) (count : ℕ) (next : Contents)
    → IsTaken c files entries made dead moved → IsLed c (new_files c.next_file made) dead body (next_contents (length made) current moved c) → count ≡ length made → next ≡ next_contents count current moved c
    → IsHeldNext c files entries next
held_next c files made entries moved dead body current count next t led many is =
    let made_next : next_contents (length made) current moved c ≡ next = ap (λ (n : ℕ). next_contents n current moved c) (sym many) ∙ sym is in
    let as_files : count ≡ length files = many ∙ ap length t.files_are in
    record {
      current = current;
      body = body;
      next_is = is ∙ (λ i. next_contents (as_files i) current (t.moved_are i) c);
      led = record {
        version = led.version;
        changed = led.changed;
        leads = subst (λ (fs : List NewSegment). Leads c next body (Publish led.version (new_files c.next_file fs) led.changed)) t.files_are
            (subst (λ (n : Contents). Leads c n body (Publish led.version (new_files c.next_file made) led.changed)) made_next led.leads);
        same = λ p. led.same p ∙ t.found p;
      };
    }
