-- A publishing by its calls.
use Rattle.std.proofs.Common.{◌≡◌, inl, refl, ap, sym, subst, ◌∙◌, ℕ, ◌+◌, ◌<◌, List, [], ◌∷◌, ◌++◌, length, Option, Some, None, Bool, true, false, arith}
use Rattle.std.proofs.lemmas.Bool.{eqb-true}
use Rattle.std.proofs.lemmas.List.{length-map}
use Rattle.pk_values.specs.Schemas.{Layout, schema_fault}
use Rattle.dev_traits.specs.View.{View, EachImage, Leaves, LeavesOnly}
use Rattle.dev_traits.proofs.Moments.{leaves_none, leaves_only_then}
use Rattle.gated_log.specs.Log.{IsSettled}
use Rattle.pk_model.specs.declared.books.Book.{Book}
use Rattle.pk_model.specs.declared.calls.Load.{Load}
use Rattle.pk_model.specs.declared.calls.Call.TheVariants as call
use Rattle.pk_model.specs.declared.calls.Reply.TheVariants as reply
use Rattle.pk_model.specs.Books.{MayReply, change, is_full, publish, version}
use Rattle.rowsets.specs.Indexing.{CodeMove}
use Rattle.index_level0.specs.declared.place.Place.{Place}
use Rattle.journal_form.specs.Versions.{Rowset as ListedRowset}
use Rattle.tablet_state.specs.Turns.{StandsEither}
use Rattle.tablet_state.specs.Adopting.{AllJoined, Commits, HasFiles}
use Rattle.tablet_state.specs.Contents.{Contents, begun_of, current_number, index_of, standing_of, version_of}
use Rattle.tablet_state.specs.State.{Has, HasBook, HasStore, SegmentView, Shown}
use Rattle.tablet_state.specs.Readies.{IsChangeOf, IsDeed, IsLed, NewSegment, bytes_of, new_files, next_contents}
use Rattle.tablet_state.proofs.Deeds.{load_deed}
use Rattle.tablet_state.proofs.ReplyFacts.{fault_is_a_step}
use Rattle.tablet_state.proofs.SegmentFacts.{Below}
use Rattle.tablet_state.proofs.StandFacts.{load_answer, load_change, many}
use Rattle.tablet_state.proofs.Turning.{OnlyNow, at_each_moment, book_after, has_closed, has_open, only_still}

-- how many versions are kept
pub older_is : (u : View) (area end : ℕ) (c : Contents) (b : Book) → HasStore u area end c b → length c.older ≡ length b.older
older_is u area end c b has = sym (length-map c.older (version_of c.schema)) ∙ many c.schema has.stored (standing_of c has.kept) (standing_of c has.kept) (index_of c) (begun_of c) b has.holds

pub not_full_by : (u : View) (area end : ℕ) (c : Contents) (b : Book) → HasStore u area end c b → length c.older + 1 < 1000 → is_full b ≡ false
not_full_by u area end c b has few = go (is_full b) refl
  where
    at : length c.older ≡ length b.older
    at = older_is u area end c b has

    go : (t : Bool) → is_full b ≡ t → t ≡ false
    go false e = refl
    go true e = absurd (let f : length b.older + 1 ≡ 1000 = eqb-true (length b.older + 1) 1000 e in omega (arith, f, at, few))

pub version_is : (u : View) (area end : ℕ) (c : Contents) (b : Book) → HasStore u area end c b → current_number c ≡ version b
version_is u area end c b has = let more = older_is u area end c b has in let floor : c.floor ≡ b.floor = has.holds.floor in omega (arith, more, floor)

-- what a commit promises
abbrev pub AnyMoment : ℕ → ℕ → List ℕ → ℕ → List (Option (List ℕ)) → View → View → Type 0
AnyMoment area end body first sealed v w = (bodies : List (List ℕ)) → IsSettled area bodies end v → Leaves (Commits area bodies body first sealed) v w

module _ (u w : View) (area end : ℕ) (c : Contents) (segs : List SegmentView) (b : Book) (seq : ℕ) (load : Load) (made : List NewSegment) (dead : List Place) (entries : List CodeMove) (body : List ℕ) (current : List ListedRowset)
    (only : OnlyNow u) (book : HasBook u area end c segs b) (none : b.closed ≡ None)
    (is : IsChangeOf c.schema (index_of c) b load c.next_file made dead entries)
    (led : IsLed c (new_files c.next_file made) dead body (next_contents (length made) current entries c)) (few : length c.older + 1 < 1000)
    (lawful : schema_fault c.schema.columns c.schema.keys ≡ None)
    (moments : AnyMoment area end body c.next_file (bytes_of made) u w) where
  abbrev nxt : Contents
  nxt = next_contents (length made) current entries c

  full : is_full b ≡ false
  full = not_full_by u area end c b book.images few

  left : publish c.schema b load ≡ change c.schema b seq (call.Load load)
  left = sym (load_change c.schema b seq load false none full)

  deed : IsDeed c b c.next_file made body nxt (publish c.schema b load)
  deed = load_deed c b load made dead entries body current lawful is led

  leaves : Leaves (Commits area book.images.journal.bodies body c.next_file (bytes_of made)) u w
  leaves = moments book.images.journal.bodies book.images.journal.settled

  pub only_commit : LeavesOnly (StandsEither c.schema b seq (call.Load load)) u w
  only_commit =
      leaves_only_then (Commits area book.images.journal.bodies body c.next_file (bytes_of made)) (StandsEither c.schema b seq (call.Load load)) u u w
      (only_still u u area end c b seq (call.Load load) only (leaves_none u) book.images) leaves
      (at_each_moment u area end c b seq (call.Load load) c.next_file made body nxt (publish c.schema b load) book.images (omega arith) deed left)

  pub book_then : (area' end' : ℕ) (segs' : List SegmentView) → Below c.next_file segs → AllJoined c.next_file made segs segs' → area' ≡ area
      → ((bodies : List (List ℕ)) → IsSettled area bodies end u → IsSettled area' (bodies ++ body ∷ []) end' w) → ((bodies : List (List ℕ)) → IsSettled area bodies end u → EachImage w (HasFiles c.next_file (bytes_of made)))
      → HasBook w area' end' nxt segs' (publish c.schema b load)
  book_then area' end' segs' below all same settled there =
      book_after u area end c b seq (call.Load load) c.next_file made body nxt (publish c.schema b load) book.images (omega arith) deed left w area' end' segs segs' book.read below all same leaves
      (settled book.images.journal.bodies book.images.journal.settled) (there book.images.journal.bodies book.images.journal.settled)

  -- it is published
  pub published_step : {S : Type 0} (view : S → View) (st : Shown S) (v : ℕ) → st.closed ≡ None → st.contents.schema ≡ c.schema → v ≡ current_number c + 1 → HasBook (view st.store) st.area st.end st.contents st.segments (publish c.schema b load)
      → MayReply b (call.Load load) (reply.Published v) × Has view st (change st.contents.schema b seq (call.Load load))
  published_step view st v open_ same is_v has =
      let at : current_number c ≡ version b = version_is u area end c b book.images in (
        inl (ap reply.Published (is_v ∙ ap (λ (n : ℕ). n + 1) at) ∙ sym (load_answer b load false none full)),
        subst (λ (x : Book). Has view st x) (left ∙ ap (λ (s : Layout). change s b seq (call.Load load)) (sym same)) (has_open view st (publish c.schema b load) open_ none has),
      )

  -- it met a fault
  pub fault_step : {S : Type 0} (view : S → View) (st : Shown S) (n : ℕ) → st.closed ≡ Some seq → st.contents.schema ≡ c.schema → view st.store ≡ w
      → MayReply b (call.Load load) (reply.StoreFault n) × Has view st (record b { closed = Some seq })
  fault_step view st n closed same at = (
    (fault_is_a_step c.schema b seq n load none full).0,
    has_closed view st b seq (call.Load load) closed none (subst (λ (v : View). EachImage v (StandsEither st.contents.schema b seq (call.Load load))) (sym at) (subst (λ (s : Layout). EachImage w (StandsEither s b seq (call.Load load))) (sym same) only_commit.now)),
  )
