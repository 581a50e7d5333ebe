-- How a store is opened, or refused and kept.
use Rattle.std.proofs.Common.{◌≡◌, ◌≢◌, refl, ap, sym, subst, ◌∙◌, ◌⊎◌, inl, inr, ℕ, ◌+◌, ◌≤◌, arith, Option, Some, None, IsTrue, Bool as Truth, true, false}
use Rattle.dev_traits.specs.Causes.{RoseBy}
use Rattle.dev_traits.specs.Image.{Image}
use Rattle.dev_traits.specs.View.{View, Told, EachImage, LeavesOnly}
use Rattle.pk_values.specs.Schemas.{Layout}
use Rattle.pk_model.specs.declared.books.Book.{Book}
use Rattle.pk_model.specs.Books.{new_book}
use Rattle.pk_model.specs.Durable.{durable}
use Rattle.version_journal.specs.Images.{HasNoRecord}
use Rattle.core_recover.specs.Opening.{IsWant}
use Rattle.core_recover.specs.declared.faults.OpenFault.{OpenFault}
use Rattle.core_recover.specs.declared.faults.OpenFault.TheVariants as open_fault
use Rattle.tablet_state.specs.Stands.{Stands}
use Rattle.tablet_state.specs.State.{Has, Shown, faults_of}
use Rattle.tablet_run.specs.Stores.{HasOpened, IsCreated, IsFound, IsKept, IsNew, IsOfTable, IsUncreated, Opens, ReadsAs, Refuses, StandsForNone}
use Rattle.tablet_run.specs.declared.causes.Cause.{Cause}
use Rattle.tablet_run.specs.declared.causes.Cause.TheVariants as cause

-- at each moment an honest store that stands for a book stood for it
abbrev pub Keeping : View → View → Type 0
Keeping old new = IsTrue old.is_honest → Told old (λ image. (t : Layout) (b : Book) → Stands t b image
    → LeavesOnly (λ left. old.may_leave left ⊎ Stands t (durable b) left) old new)

-- and an empty one was empty
abbrev pub Emptying : View → View → Type 0
Emptying old new = IsTrue old.is_honest → Told old (λ image. HasNoRecord image → EachImage new (λ left. old.may_leave left ⊎ HasNoRecord left))

module _ (s : Layout) (old new : View) where
  pub recover-kept : new.is_honest ≡ old.is_honest → Keeping old new → Emptying old new → IsKept s old new
  recover-kept honest keeps empties = record {
    honest = honest;
    book = λ image t b reads stands. (keeps reads.honest image reads.seen t b stands).now;
    none = λ image reads none left h. elim (empties reads.honest image reads.seen none left h) [
      | inl a ↦ inl a
      | inr b ↦ inr (inl b)
    ];
  }

  -- what is damaged stands for no book and isn't empty
  pub damaged-none : (fault : OpenFault) → (IsWant fault → ⊥) → (fault ≡ open_fault.Empty → ⊥)
      → (IsTrue old.is_honest → Told old (λ image. (t : Layout) (b : Book) → Stands t b image → IsWant fault))
      → (IsTrue old.is_honest → Told old (λ image. HasNoRecord image → (fault ≡ open_fault.Empty) ⊎ IsWant fault))
      → StandsForNone old
  damaged-none fault want empty intact only = (
    λ image reads none. elim (only reads.honest image reads.seen none) [
      | inl e ↦ empty e
      | inr w ↦ want w
    ],
    λ image t b reads stands. want (intact reads.honest image reads.seen t b stands),
  )

-- a store that was empty, and is made a tablet, or not
pub made-new : (s t : Layout) (old new : View) → t ≡ s → new.is_honest ≡ old.is_honest
    → (IsTrue old.is_honest → LeavesOnly (λ left. HasNoRecord left ⊎ Stands t new_book left) old new) → IsNew s old new
made-new s t old new same honest leaves = record {
  honest = honest;
  each = λ h. subst (λ u. EachImage new (λ left. HasNoRecord left ⊎ Stands u new_book left)) same (leaves h).now;
}

later : (before mid now : ℕ) (least : ℕ) → RoseBy 0 before mid → RoseBy least mid now → RoseBy least before now
later before mid now least h k = omega (arith, h, k)

-- a store that was found empty, and made a tablet, or not
module _ (s : Layout) (old mid new : View)
    (empty : IsTrue old.is_honest → Told old (λ image. (t : Layout) (b : Book) → Stands t b image → IsWant open_fault.Empty))
    (honest : mid.is_honest ≡ old.is_honest) (counts : RoseBy 0 old.faults mid.faults) where
  uncreated-kept : IsNew s mid new → IsKept s old new
  uncreated-kept is = record {
    honest = is.honest ∙ honest;
    book = λ image t b reads stands. absurd (empty reads.honest image reads.seen t b stands);
    none = λ image reads none left h. inr (is.each (subst IsTrue (sym honest) reads.honest) left h);
  }

  pub uncreated-refuses : (c : Cause) → IsUncreated s mid new c → Refuses s old new c
  uncreated-refuses cause.Store h = (uncreated-kept h.0, later old.faults mid.faults new.faults 1 counts h.1)
  uncreated-refuses cause.Memory h = uncreated-kept h
  uncreated-refuses cause.None h = absurd h
  uncreated-refuses cause.Words h = absurd h
  uncreated-refuses (cause.Missing n) h = absurd h
  uncreated-refuses (cause.InputFault n) h = absurd h
  uncreated-refuses (cause.TooLarge n b) h = absurd h
  uncreated-refuses (cause.Table f) h = absurd h
  uncreated-refuses (cause.Script f) h = absurd h
  uncreated-refuses (cause.Unbuilt n) h = absurd h
  uncreated-refuses (cause.OtherSchema t) h = absurd h
  uncreated-refuses (cause.Damaged d) h = absurd h
  uncreated-refuses cause.Sink h = absurd h
  uncreated-refuses cause.Refused h = absurd h

pub created-found : {S : Type 0} (view : S → View) (s : Layout) (store mid : S) (st : Shown S)
    → (IsTrue (view store).is_honest → Told (view store) (λ image. (t : Layout) (b : Book) → Stands t b image → IsWant open_fault.Empty))
    → (view mid).is_honest ≡ (view store).is_honest → RoseBy 0 (view store).faults (view mid).faults
    → IsCreated view s mid st → IsFound view s store st
created-found view s store mid st empty honest counts made = record {
  opened = made.opened;
  counts = later (view store).faults (view mid).faults (faults_of view st) 0 counts made.counts;
  honest = made.honest ∙ honest;
  stood = λ image t b reads stands. absurd (empty reads.honest image reads.seen t b stands);
  fresh = λ image reads none. (made.book (subst IsTrue (sym honest) reads.honest), made.schema);
}

pub found-opened : {S : Type 0} (view : S → View) (s : Layout) (store : S) (st : Shown S) → IsFound view s store st → st.contents.schema ≡ s → HasOpened view s store st
found-opened view s store st found schema = record {
  schema = schema;
  opened = found.opened;
  counts = found.counts;
  honest = found.honest;
  books = λ b opens. elim opens.2 [
    | inl empty ↦ subst (Has view st) (sym empty.1) (found.fresh opens.0 opens.1 empty.0).0
    | inr stands ↦ subst (Has view st) (sym stands.2) (found.stood opens.0 s stands.0 opens.1 stands.1).0
  ];
  kept = λ image t b reads stands. (found.stood image t b reads stands).0;
  table = λ image t b reads stands. sym (found.stood image t b reads stands).1 ∙ schema;
}

-- a tablet of another table is given up
module _ {S : Type 0} (view : S → View) (s : Layout) (store : S) (st : Shown S) (found : IsFound view s store st) (left : View) where
  pub found-kept : left.is_honest ≡ (view st.store).is_honest → (st.contents.schema ≡ s → ⊥) → ((b : Book) → Has view st b → st.closed ≡ None → EachImage left (Stands st.contents.schema (durable b))) → IsKept s (view store) left
  found-kept honest other stands = record {
    honest = honest ∙ found.honest;
    book = λ image t b reads is. let stood = found.stood image t b reads is in
        λ i h. inr (subst (λ u. Stands u (durable b) i) stood.1 (stands (durable b) stood.0 found.opened i h));
    none = λ image reads none. absurd (other (found.fresh image reads none).1);
  }

  pub found-fresh : (st.contents.schema ≡ s → ⊥) → (image : Image) → ReadsAs (view store) image → HasNoRecord image → ⊥
  found-fresh other image reads none = other (found.fresh image reads none).1

  pub found-table : IsOfTable (view store) st.contents.schema
  found-table image t b reads is = sym (found.stood image t b reads is).1

-- a tablet that was opened and not used is kept
pub opened-kept : {S : Type 0} (view : S → View) (s : Layout) (store : S) (st : Shown S) (left : View) → HasOpened view s store st
    → left.is_honest ≡ (view st.store).is_honest → ((b : Book) → Has view st b → EachImage left (Stands st.contents.schema (durable b))) → IsKept s (view store) left
opened-kept view s store st left opened honest stands = record {
  honest = honest ∙ opened.honest;
  book = λ image t b reads is. λ i h. inr (subst (λ u. Stands u (durable b) i) (opened.schema ∙ sym (opened.table image t b reads is)) (stands (durable b) (opened.kept image t b reads is) i h));
  none = λ image reads none. λ i h. inr (inr (subst (λ u. Stands u (durable new_book) i) opened.schema (stands new_book (opened.books new_book (image, reads, inl (none, refl))) i h)));
}

-- two tables that were found to differ
pub differs : (t u s : Layout) (same : Truth) → u ≡ t → (u ≡ s → IsTrue same) → same ≡ false → t ≡ s → ⊥
differs t u s same is tells unlike e = absurd (other (sym (tells (is ∙ e)) ∙ unlike))
  where
    other : true ≡ false → ⊥
    other e = cc
