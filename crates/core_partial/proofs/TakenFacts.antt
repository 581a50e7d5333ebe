-- What is taken out of a prepared load, with what was made again of it.
use Rattle.std.proofs.Common.{◌≡◌, ◌⊎◌, inl, inr, refl, ap, sym, subst, ◌∙◌, ℕ, ◌+◌, ◌^◌, ◌<◌, ◌≤◌, List, [], ◌∷◌, ◌++◌, map, take, length, Option, Some, None, Bool as Truth, true, false, is_some, arith}
use Rattle.std.specs.List.{AllByRecursion, list_all}
use Rattle.dev_traits.specs.View.{View}
use Rattle.index_level0.specs.declared.place.Place.{Place}
use Rattle.pk_values.specs.Schemas.{Layout, schema_fault}
use Rattle.pk_model.specs.declared.books.Book.{Book}
use Rattle.journal_form.specs.Versions.{published_rowsets}
use Rattle.kept_versions.specs.Files.{can_die}
use Rattle.rowsets.specs.Indexing.{CodeMove}
use Rattle.rowsets.specs.Marks.{stands_in}
use Rattle.rowsets.specs.Steps.{HaveSame}
use Rattle.tablet_state.specs.Contents.{Contents, index_of}
use Rattle.tablet_state.specs.Readies.{IsChangeOf, IsMadeOf, NewSegment, new_files}
use Rattle.tablet_state.specs.State.{Has, HasBook, SegmentView, Shown}
use Rattle.core_publish.specs.Prepared.{files_of}
use Rattle.core_publish.specs.Publishing.{StandsTwice}
use Rattle.core_publish.proofs.ChangeFacts.{Reads, known-all}
use Rattle.core_publish.proofs.KeyFacts.{one-dead}
use Rattle.core_partial.specs.Moving.{IsAgain, IsOver, IsRemade, is_moved_key, moved_keys}
use Rattle.core_partial.specs.Prepared.{AgainView, IsPreparedPartial, PreparedPartialView, made_move}
use Rattle.core_partial.specs.Publishing.{IsBelow, IsTakenOf, IsWrongFor, dead_places, moves_after}
use Rattle.core_partial.specs.declared.keys.PreparedKey.{PreparedKey}
use Rattle.core_partial.proofs.ChangeFacts.{sealed-both}
use Rattle.core_partial.proofs.FewFacts.{few-made, few-moves, few-places, few-some}
use Rattle.core_partial.proofs.OverFacts.{change_over, not_twice_dead}
use Rattle.core_partial.proofs.SubFacts.{keys_in}

-- the first of two lists
pub take_first : {X : Type 0} (xs ys : List X) → take (length xs) (xs ++ ys) ≡ xs
take_first [] ys = refl
take_first (x ∷ xs) ys = ap (λ zs. x ∷ zs) (take_first xs ys)

-- ---- places in few files

pub keys_few : (p : PreparedPartialView) (n : ℕ) → IsPreparedPartial p → length p.files ≤ n → AllByRecursion (λ k. IsBelow n k.made) p.keys
keys_few p n is le = few-made n p.keys (few-moves p.schema n (keys_in p.keys) p.rows p.files (map made_move p.keys) is.files le)

pub stale_few : (c : Contents) (p : PreparedPartialView) (again : AgainView) (n : ℕ) → IsPreparedPartial p → IsAgain p.schema (moved_keys c p.version p.keys) again → length p.files ≤ n
    → AllByRecursion (λ (q : Place). q.segment < n) again.stale
stale_few c p again n is is_again le =
    subst (AllByRecursion (λ (q : Place). q.segment < n)) (sym is_again.stale_are)
    (few-places n (moved_keys c p.version p.keys) (few-some n (is_moved_key c p.version) p.keys (keys_few p n is le)))

pub again_few : (s : Layout) (ks : List PreparedKey) (again : AgainView) (n : ℕ) → IsAgain s ks again → length again.files ≤ n → AllByRecursion (λ e. IsBelow n e.1) again.moves
again_few s ks again n is le = few-moves s n (keys_in ks) again.rows again.files again.moves is.files le

-- ---- its files

pub all_known : (s : Layout) (c : Contents) (p : PreparedPartialView) (again : AgainView) → p.schema ≡ s → schema_fault s.columns s.keys ≡ None → IsPreparedPartial p → IsAgain p.schema (moved_keys c p.version p.keys) again
    → AllByRecursion (IsMadeOf s) (p.files ++ again.files)
all_known s c p again same clean is is_again =
    subst (λ (x : Layout). AllByRecursion (IsMadeOf x) (p.files ++ again.files)) same
    (known-all p.schema (files_of p.rows ++ files_of again.rows) (p.files ++ again.files) (subst (λ (x : Layout). schema_fault x.columns x.keys ≡ None) (sym same) clean)
    (sealed-both p.schema (files_of p.rows) (files_of again.rows) p.files again.files is.files.sealed is_again.files.sealed))

-- ---- rows that can't die

pub wrong_row : (c : Contents) (segs : List SegmentView) (p : PreparedPartialView) (again : AgainView) (made : List NewSegment) (dead : List Place) → IsRemade c segs p again → made ≡ p.files ++ again.files
    → HaveSame dead (dead_places c p again) → list_all (can_die (published_rowsets (new_files c.next_file made) c.current)) dead ≡ false → IsWrongFor c segs p
wrong_row c segs p again made dead is are same h =
    let one = one-dead (can_die (published_rowsets (new_files c.next_file made) c.current)) dead h in
    record {
      again = again;
      is = is;
      wrong = inr (one.0, sym (same one.0) ∙ one.1, ap (λ (fs : List NewSegment). can_die (published_rowsets (new_files c.next_file fs) c.current) one.0) (sym are) ∙ one.2);
    }

-- ---- over a state that has a book

all-tell : {M : Type 0} (see : M → NewSegment) (ms : List M) → ((m : M) → is_some (see m).0 ≡ true) → AllByRecursion (λ f. is_some f.0 ≡ true) (map see ms)
all-tell see [] tell = tt
all-tell see (m ∷ ms) tell = (tell m, all-tell see ms tell)

-- it is the load's change, where a store that tells has files that tell
pub change_taken : {S M : Type 0} (view : S → View) (see : M → NewSegment) (st : Shown S) (b : Book) → Has view st b → st.closed ≡ None → Reads (view st.store)
    → (is_some (view st.store).seen ≡ true → (m : M) → is_some (see m).0 ≡ true) → (p : PreparedPartialView) (again : AgainView) → p.schema ≡ st.contents.schema → IsPreparedPartial p
    → IsAgain p.schema (moved_keys st.contents p.version p.keys) again → IsOver st.contents b p again → (ms : List M) (dead : List Place) (moved : List CodeMove)
    → IsTakenOf st.contents p again (map see ms) dead moved → IsChangeOf st.contents.schema (index_of st.contents) b p.load st.contents.next_file (map see ms) dead moved
change_taken view see st b h open_ reads tell p again same is is_again over ms dead moved t =
    let c : Contents = st.contents in
    let book : HasBook (view st.store) st.area st.end c st.segments b = h.opened open_ in
    let image = reads book.images.journal.settled.honest in
    let told : AllByRecursion (λ m. is_some m.0 ≡ true) (p.files ++ again.files) = subst (AllByRecursion (λ f. is_some f.0 ≡ true)) t.files_are (all-tell see ms (tell (ap is_some image.1))) in
    subst (λ (fs : List NewSegment). IsChangeOf c.schema (index_of c) b p.load c.next_file fs dead moved) (sym t.files_are)
    (subst (λ (es : List CodeMove). IsChangeOf c.schema (index_of c) b p.load c.next_file (p.files ++ again.files) dead es) (sym t.moved_are)
    (change_over view st b h open_ p again same is is_again over.remade over.located told dead t.found))

-- no row dies twice
pub never_twice : {S : Type 0} (view : S → View) (st : Shown S) (b : Book) → Has view st b → st.closed ≡ None → (p : PreparedPartialView) (again : AgainView) → p.schema ≡ st.contents.schema → IsPreparedPartial p
    → IsAgain p.schema (moved_keys st.contents p.version p.keys) again → IsOver st.contents b p again → StandsTwice (dead_places st.contents p again) → ⊥
never_twice view st b h open_ p again same is is_again over two = not_twice_dead view st b h open_ p again same is is_again over.remade over.located two
