-- A state that lent readers has no book that it hadn't before.
use Rattle.std.proofs.Common.{◌≡◌, refl, ap, sym, subst, ◌∙◌, ℕ, List, Option, Some, None, IsSomeAnd, IsTrue}
use Rattle.std.specs.Prelude.{⊤}
use Rattle.dev_traits.specs.Image.{Image}
use Rattle.dev_traits.specs.View.{Calm, View, EachImage}
use Rattle.pk_model.specs.declared.books.Book.{Book}
use Rattle.pk_model.specs.declared.calls.Call.TheVariants as call
use Rattle.pk_model.specs.declared.calls.Want.TheVariants.{Latest}
use Rattle.pk_model.specs.declared.calls.Reply.TheVariants as reply
use Rattle.pk_model.specs.Books.{answer, answer_unless, rows_at, version}
use Rattle.pk_model.specs.Tables.{Rows}
use Rattle.reports.proofs.PlainSteps.{opened-kept}
use Rattle.tablet_state.specs.Contents.{Contents, current_number}
use Rattle.tablet_state.specs.Snapshots.{Lends, SameButReads}
use Rattle.tablet_state.specs.State.{Has, HasBook, SegmentView, Shown, named_files}
use Rattle.tablet_state.specs.Turns.{StandsEither}
use Rattle.tablet_state.proofs.Lending.{lent_read}
use Rattle.tablet_state.proofs.Publishing.{version_is}

-- the book of a view whose images are those of another
book-back : (u v : View) (area end : ℕ) (c : Contents) (old new : List SegmentView) (b : Book) → Calm u v → SameButReads old new → HasBook v area end c new b → HasBook u area end c old b
book-back u v area end c old new b calm same h = record {
  images = record {
    kept = h.images.kept;
    stored = h.images.stored;
    journal = record {
      each = λ image may. h.images.journal.each image ((calm.now image).1 may);
      in_force = h.images.journal.in_force;
      bodies = h.images.journal.bodies;
      settled = record {
        honest = subst (λ t. IsTrue t) calm.honest h.images.journal.settled.honest;
        each = λ image may. h.images.journal.settled.each image ((calm.now image).1 may);
      };
    };
    files = λ image may. h.images.files image ((calm.now image).1 may);
    holds = h.images.holds;
    begun = h.images.begun;
  };
  read = lent_read new old (sym same) c.schema h.images.stored (named_files c) h.read;
}

pub lent-back : {S : Type 0} (view : S → View) (old new : Shown S) (b : Book) → Lends view old new → Has view new b → Has view old b
lent-back view old new b lends h = record {
  same = sym lends.closed ∙ h.same;
  opened = λ open_.
      let was = h.opened (lends.closed ∙ open_) in
      let of_contents = subst (λ (c : Contents). HasBook (view new.store) new.area new.end c new.segments b) lends.contents was in
      let of_area = subst (λ (a : ℕ). HasBook (view new.store) a new.end old.contents new.segments b) lends.area of_contents in
      let of_end = subst (λ (e : ℕ). HasBook (view new.store) old.area e old.contents new.segments b) lends.end of_area in
      book-back (view old.store) (view new.store) old.area old.end old.contents old.segments new.segments b lends.calm lends.segments of_end;
  faulted = λ place is.
      let was = h.faulted place (lends.closed ∙ is) in (
        was.0,
        λ image may. subst (λ (c : Contents). StandsEither c.schema (record b { closed = None }) place was.0 image) lends.contents (was.1 image ((lends.calm.now image).1 may)),
      );
}

-- the current version of an open state is one that its book keeps
pub current-kept : {S : Type 0} (view : S → View) (st : Shown S) (b : Book) (v : ℕ) → Has view st b → st.closed ≡ None → v ≡ current_number st.contents → IsSomeAnd (rows_at b v) (λ m. ⊤)
current-kept view st b v h open_ at =
    let is : version b ≡ v = sym (at ∙ version_is (view st.store) st.area st.end st.contents b (h.opened open_).images) in
    opened-kept b Latest v (ap (λ (o : Option ℕ). answer_unless o (reply.Opened (version b))) (sym h.same ∙ open_) ∙ ap reply.Opened is)

on-rows : (o : Option Rows) (P : Rows → Type 0) → IsSomeAnd o (λ m. ⊤) → ((m : Rows) → o ≡ Some m → P m) → IsSomeAnd o P
on-rows None P some h = absurd some
on-rows (Some m) P some h = h m refl

-- what was found of the rows of the current version is so of every book that the state has then
pub found-stands : {S : Type 0} (view : S → View) (old new : Shown S) (v : ℕ) (P : Rows → Type 0) → Lends view old new
    → ((b : Book) → Has view old b → (m : Rows) → rows_at b v ≡ Some m → P m) → v ≡ current_number old.contents → old.closed ≡ None
    → (b : Book) → Has view new b → IsSomeAnd (rows_at b v) P
found-stands view old new v P lends stands at open_ b has =
    let was = lent-back view old new b lends has in
    on-rows (rows_at b v) P (current-kept view old b v was open_ at) (stands b was)
