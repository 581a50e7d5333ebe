-- Numbers that have come to their end.
use Rattle.std.proofs.Common.{◌≡◌, refl, ap, sym, subst, ◌∙◌, ◌⊎◌, inl, inr, ℕ, ◌+◌, ◌^◌, ◌≤◌, ◌<◌, arith, List, [], ◌∷◌, length, Option, Some, None, Bool as Truth, true, false, IsTrue, nat_le, if◌then◌else◌}
use Rattle.std.specs.Prelude.{⊤}
use Rattle.std.specs.List.{AllByRecursion, find}
use Rattle.std.proofs.lemmas.Bool.{leb-true}
use Rattle.std.proofs.lemmas.List.{length-map}
use Rattle.dev_traits.specs.Image.{Image}
use Rattle.dev_traits.specs.View.{Calm, View, EachImage}
use Rattle.pk_model.specs.declared.books.Book.{Book}
use Rattle.pk_model.specs.declared.calls.Reply.{Reply}
use Rattle.pk_model.specs.declared.calls.Reply.TheVariants as reply
use Rattle.script_text.specs.declared.outcomes.Outcome.{Outcome}
use Rattle.script_text.specs.declared.outcomes.Outcome.TheVariants as outcome
use Rattle.reports.specs.Courses.{AreRowsOf}
use Rattle.reports.specs.Shutting.{TellsShut}
use Rattle.core_publish.specs.Replies.{IsOpening, IsStat}
use Rattle.journal_form.specs.Meaning.{Entry}
use Rattle.tablet_state.specs.Contents.{Contents, current_number, is_worn, standing_of, version_of, worn_of}
use Rattle.tablet_state.specs.State.{Has, HasStore, Shown}
use Rattle.tablet_state.proofs.Owning.{unworn}
use Rattle.tablet_run.specs.Worn.{BearsOut, GivesNumber, IsWornOut, OnWorn, Reaches, RecordsReach}

-- ---- the first number that has come to its end

found : (n x : ℕ) (xs : List ℕ) → find is_worn (x ∷ xs) ≡ Some n → ((x ≡ n) × (2 ^ 62 ≤ n)) ⊎ (find is_worn xs ≡ Some n)
found n x xs is = go (nat_le (2 ^ 62) x) refl is
  where
    same : Some x ≡ Some n → x ≡ n
    same e = cc

    go : (t : Truth) → nat_le (2 ^ 62) x ≡ t → (if t then Some x else find is_worn xs) ≡ Some n → ((x ≡ n) × (2 ^ 62 ≤ n)) ⊎ (find is_worn xs ≡ Some n)
    go true e f = inl (same f, subst (λ k. 2 ^ 62 ≤ k) (same f) (leb-true (2 ^ 62) x e))
    go false e f = inr f

up-to : (x n : ℕ) → x ≡ n → n ≤ x
up-to x n e = omega (arith, e)

none-found : (n : ℕ) → find is_worn [] ≡ Some n → ⊥
none-found n e = cc e

-- it is one of the numbers that are used up
pub worn-reaches : (c : Contents) (n : ℕ) → worn_of c ≡ Some n → (2 ^ 62 ≤ n) × Reaches n c
worn-reaches c n is = elim (found n c.next_file (c.edit ∷ current_number c ∷ []) is) [
  | inl file ↦ (file.1, inl (up-to c.next_file n file.0))
  | inr later ↦ elim (found n c.edit (current_number c ∷ []) later) [
    | inl edit ↦ (edit.1, inr (inl (up-to c.edit n edit.0)))
    | inr last ↦ elim (found n (current_number c) [] last) [
      | inl version ↦ (version.1, inr (inr (up-to (current_number c) n version.0)))
      | inr none ↦ absurd (none-found n none)
    ]
  ]
]

-- and where one has come to its end there is one
pub reaches-worn : (c : Contents) (n : ℕ) → 2 ^ 62 ≤ n → Reaches n c → (m : ℕ) × (worn_of c ≡ Some m)
reaches-worn c n ended reaches = go (worn_of c) refl
  where
    go : (o : Option ℕ) → worn_of c ≡ o → (m : ℕ) × (worn_of c ≡ Some m)
    go (Some m) e = (m, e)
    go None e =
        let below = unworn c e in
        let file : c.next_file < 2 ^ 62 = below.0 in
        let edit : c.edit < 2 ^ 62 = below.1 in
        let version : current_number c < 2 ^ 62 = below.2 in
        absurd (elim reaches [
          | inl at ↦ omega (arith, ended, at, file)
          | inr other ↦ elim other [
            | inl at ↦ omega (arith, ended, at, edit)
            | inr at ↦ omega (arith, ended, at, version)
          ]
        ])

-- ---- outcomes

module _ (Holds : ℕ → Type 0) where
  pub opening-worn : (r : Reply) → IsOpening r → OnWorn (outcome.Turn r) Holds
  opening-worn (reply.Published v) h = tt
  opening-worn (reply.Opened v) h = tt
  opening-worn (reply.Begun v) h = tt
  opening-worn (reply.Compacted before after rows late) h = tt
  opening-worn (reply.Floor f) h = tt
  opening-worn (reply.Stat floor version rows rowsets) h = tt
  opening-worn reply.GaveUp h = tt
  opening-worn (reply.Expired f) h = tt
  opening-worn (reply.NotYet v) h = tt
  opening-worn (reply.Busy v) h = tt
  opening-worn reply.ManyVersions h = tt
  opening-worn (reply.Closed at) h = tt
  opening-worn (reply.StoreFault n) h = tt
  opening-worn (reply.Damaged d) h = tt
  opening-worn reply.Memory h = tt
  opening-worn reply.NoPlan h = tt
  opening-worn (reply.Worn n) h = absurd h

  pub stat-worn : (r : Reply) → IsStat r → OnWorn (outcome.Turn r) Holds
  stat-worn (reply.Published v) h = tt
  stat-worn (reply.Opened v) h = tt
  stat-worn (reply.Begun v) h = tt
  stat-worn (reply.Compacted before after rows late) h = tt
  stat-worn (reply.Floor f) h = tt
  stat-worn (reply.Stat floor version rows rowsets) h = tt
  stat-worn reply.GaveUp h = tt
  stat-worn (reply.Expired f) h = tt
  stat-worn (reply.NotYet v) h = tt
  stat-worn (reply.Busy v) h = tt
  stat-worn reply.ManyVersions h = tt
  stat-worn (reply.Closed at) h = tt
  stat-worn (reply.StoreFault n) h = tt
  stat-worn (reply.Damaged d) h = tt
  stat-worn reply.Memory h = tt
  stat-worn reply.NoPlan h = tt
  stat-worn (reply.Worn n) h = absurd h

  pub rows-worn : (v : ℕ) (o : Outcome) → AreRowsOf v o → OnWorn o Holds
  rows-worn v (outcome.Turn r) h = absurd h
  rows-worn v (outcome.Rows n c t) h = tt
  rows-worn v (outcome.Load f) h = absurd h
  rows-worn v (outcome.Outside f) h = tt
  rows-worn v outcome.NotRun h = absurd h

  turn-worn : (r : Reply) → ((n : ℕ) → r ≡ reply.Worn n → Holds n) → OnWorn (outcome.Turn r) Holds
  turn-worn (reply.Published v) h = tt
  turn-worn (reply.Opened v) h = tt
  turn-worn (reply.Begun v) h = tt
  turn-worn (reply.Compacted before after rows late) h = tt
  turn-worn (reply.Floor f) h = tt
  turn-worn (reply.Stat floor version rows rowsets) h = tt
  turn-worn reply.GaveUp h = tt
  turn-worn (reply.Expired f) h = tt
  turn-worn (reply.NotYet v) h = tt
  turn-worn (reply.Busy v) h = tt
  turn-worn reply.ManyVersions h = tt
  turn-worn (reply.Closed at) h = tt
  turn-worn (reply.StoreFault n) h = tt
  turn-worn (reply.Damaged d) h = tt
  turn-worn reply.Memory h = tt
  turn-worn reply.NoPlan h = tt
  turn-worn (reply.Worn n) h = h n refl

pub worn-goes : (P Q : ℕ → Type 0) → ((n : ℕ) → P n → Q n) → (o : Outcome) → OnWorn o P → OnWorn o Q
worn-goes P Q f (outcome.Turn (reply.Published v)) h = tt
worn-goes P Q f (outcome.Turn (reply.Opened v)) h = tt
worn-goes P Q f (outcome.Turn (reply.Begun v)) h = tt
worn-goes P Q f (outcome.Turn (reply.Compacted before after rows late)) h = tt
worn-goes P Q f (outcome.Turn (reply.Floor g)) h = tt
worn-goes P Q f (outcome.Turn (reply.Stat floor version rows rowsets)) h = tt
worn-goes P Q f (outcome.Turn reply.GaveUp) h = tt
worn-goes P Q f (outcome.Turn (reply.Expired g)) h = tt
worn-goes P Q f (outcome.Turn (reply.NotYet v)) h = tt
worn-goes P Q f (outcome.Turn (reply.Busy v)) h = tt
worn-goes P Q f (outcome.Turn reply.ManyVersions) h = tt
worn-goes P Q f (outcome.Turn (reply.Closed at)) h = tt
worn-goes P Q f (outcome.Turn (reply.StoreFault n)) h = tt
worn-goes P Q f (outcome.Turn (reply.Damaged d)) h = tt
worn-goes P Q f (outcome.Turn reply.Memory) h = tt
worn-goes P Q f (outcome.Turn reply.NoPlan) h = tt
worn-goes P Q f (outcome.Turn (reply.Worn n)) h = f n h
worn-goes P Q f (outcome.Rows v c t) h = tt
worn-goes P Q f (outcome.Load g) h = tt
worn-goes P Q f (outcome.Outside g) h = tt
worn-goes P Q f outcome.NotRun h = tt

pub all-worn-go : (P Q : ℕ → Type 0) → ((n : ℕ) → P n → Q n) → (os : List Outcome) → AllByRecursion (λ o. OnWorn o P) os → AllByRecursion (λ o. OnWorn o Q) os
all-worn-go P Q f [] h = tt
all-worn-go P Q f (o ∷ os) h = (worn-goes P Q f o h.0, all-worn-go P Q f os h.1)

-- ---- a call on a tablet

-- a tablet whose numbers are as they were, and that is open or closed as it was
pub same-worn : {S : Type 0} (old new : Shown S) → new.contents ≡ old.contents → new.closed ≡ old.closed → (n : ℕ) → IsWornOut old n → IsWornOut new n
same-worn old new contents closed n h = record { opened = closed ∙ h.opened; ended = h.ended; reaches = subst (Reaches n) (sym contents) h.reaches }

module _ {S : Type 0} (old new : Shown S) (r : Reply) where
  unlike : (n p : ℕ) → reply.Worn n ≡ reply.Closed p → ⊥
  unlike n p e = cc e

  open-at-end : (n : ℕ) → TellsShut old.closed (reply.Worn n) → old.closed ≡ None
  open-at-end n h = go old.closed refl h
    where
      go : (o : Option ℕ) → old.closed ≡ o → TellsShut o (reply.Worn n) → old.closed ≡ None
      go None e h = e
      go (Some p) e h = absurd (unlike n p h)

  -- a number at its end that a load is told is the tablet's, which stays as it was
  pub load-worn : TellsShut old.closed r → ((n : ℕ) → r ≡ reply.Worn n → (worn_of old.contents ≡ Some n) × (new ≡ old)) → OnWorn (outcome.Turn r) (IsWornOut new)
  load-worn tells worn = turn-worn (IsWornOut new) r (λ n e.
      let is = worn n e in let reaches = worn-reaches old.contents n is.0 in
      subst (λ (st : Shown S). IsWornOut st n) (sym is.1)
      (record { opened = open-at-end n (subst (TellsShut old.closed) e tells); ended = reaches.0; reaches = reaches.1 }))

  -- and where the tablet has one, it stays as it was
  pub load-stays : ((n : ℕ) → r ≡ reply.Worn n → (worn_of old.contents ≡ Some n) × (new ≡ old))
      → ((n : ℕ) → old.closed ≡ None → worn_of old.contents ≡ Some n → r ≡ reply.Worn n)
      → (n : ℕ) → IsWornOut old n → IsWornOut new n
  load-stays worn stays n h =
      let is = reaches-worn old.contents n h.ended h.reaches in
      subst (λ (st : Shown S). IsWornOut st n) (sym (worn is.0 (stays is.0 h.opened is.1)).1) h

-- ---- the store that is left

-- the number is one of those that the records of its images give
pub number-borne : {S : Type 0} (view : S → View) (st : Shown S) (b : Book) (left : View) (n : ℕ) → Has view st b → IsWornOut st n
    → Calm (view st.store) left
    → (IsTrue left.is_honest → (image : Image) × (left.seen ≡ Some image) × left.may_leave image)
    → BearsOut left n
number-borne view st b left n has worn calm reads = record {
  ended = worn.ended;
  reads = let read = reads (subst (λ t. IsTrue t) (sym calm.honest) images.journal.settled.honest) in (read.0, read.1, each read.0 read.2);
  each = each;
}
  where
    versions : (kept : List Entry) → RecordsReach n (standing_of st.contents kept)
    versions kept =
        let count = length-map st.contents.older (version_of st.contents.schema) in
        elim worn.reaches [
          | inl file ↦ inl file
          | inr other ↦ elim other [
            | inl edit ↦ inr (inl edit)
            | inr version ↦ inr (inr (omega (arith, version, count)))
          ]
        ]

    images : HasStore (view st.store) st.area st.end st.contents b
    images = (has.opened worn.opened).images

    each : EachImage left (GivesNumber n)
    each = λ image may. (standing_of st.contents images.kept, images.journal.each image ((calm.now image).0 may), versions images.kept)
