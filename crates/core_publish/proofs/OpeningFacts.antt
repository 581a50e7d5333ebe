-- That opening a version and counting are steps of the book.
use Rattle.std.proofs.Common.{◌≡◌, refl, ap, sym, subst, ◌∙◌, inl, inr, ℕ, length, Option, Some, None, Bool, true, false, nat_lt, if◌then◌else◌}
use Rattle.std.specs.FinMap.{len}
use Rattle.std.proofs.lemmas.List.{length-map}
use Rattle.dev_traits.specs.View.{View}
use Rattle.pk_values.specs.Schemas.{Layout}
use Rattle.pk_model.specs.declared.books.Book.{Book}
use Rattle.pk_model.specs.declared.calls.Want.{Want}
use Rattle.pk_model.specs.declared.calls.Want.TheVariants.{Latest, At}
use Rattle.pk_model.specs.declared.calls.Call.TheVariants as call
use Rattle.pk_model.specs.declared.calls.Reply.{Reply}
use Rattle.pk_model.specs.declared.calls.Reply.TheVariants as reply
use Rattle.pk_model.specs.Books.{GivesWay, IsOfReading, MayReply, answer, answer_open, answer_stat, answer_unless, change_unless, next, version}
use Rattle.journal_form.specs.Versions.{files_of}
use Rattle.kept_versions.specs.Files.{alive}
use Rattle.tablet_state.specs.Contents.{Contents, current_number}
use Rattle.tablet_state.specs.State.{Has, Shown, Steps}
use Rattle.tablet_state.proofs.Publishing.{version_is}
use Rattle.tablet_state.proofs.VersionFacts.{parts}
use Rattle.core_publish.specs.Opening.{IsOpened, IsOpeningOf, opening_of, stat_of}
use Rattle.core_publish.specs.Replies.{IsOpening, TellsShut}

-- ---- which replies there are

pub none_is : (o : Option ℕ) → ((p : ℕ) → o ≡ Some p → ⊥) → o ≡ None
none_is None h = refl
none_is (Some p) h = absurd (h p refl)

abbrev kept_or : ℕ → ℕ → ℕ → Reply
kept_or v floor current = if nat_lt v floor then reply.Expired floor else if nat_lt current v then reply.NotYet current else reply.Opened v

pub opening_only : (closed : Option ℕ) (c : Contents) (want : Want) → IsOpening (opening_of closed c want)
opening_only (Some place) c want = tt
opening_only None c Latest = tt
opening_only None c (At v) = go (nat_lt v c.floor) (nat_lt (current_number c) v)
  where
    go : (a b : Bool) → IsOpening (if a then reply.Expired c.floor else if b then reply.NotYet (current_number c) else reply.Opened v)
    go true b = tt
    go false true = tt
    go false false = tt

pub opening_tells : (closed : Option ℕ) (c : Contents) (want : Want) → TellsShut closed (opening_of closed c want)
opening_tells (Some place) c want = refl
opening_tells None c Latest = tt
opening_tells None c (At v) = go (nat_lt v c.floor) (nat_lt (current_number c) v)
  where
    go : (a b : Bool) → TellsShut None (if a then reply.Expired c.floor else if b then reply.NotYet (current_number c) else reply.Opened v)
    go true b = tt
    go false true = tt
    go false false = tt

pub only_opening : (closed : Option ℕ) (c : Contents) (want : Want) (r : Reply) → IsOpeningOf closed c want r → IsOpening r
only_opening closed c want r is = elim is [
  | inl e ↦ subst IsOpening (sym e) (opening_only closed c want)
  | inr h ↦ subst IsOpening (sym h.0) tt
]

pub tells_opening : (closed : Option ℕ) (c : Contents) (want : Want) (r : Reply) → IsOpeningOf closed c want r → TellsShut closed r
tells_opening closed c want r is = elim is [
  | inl e ↦ subst (TellsShut closed) (sym e) (opening_tells closed c want)
  | inr h ↦ subst (TellsShut closed) (sym h.0) (open_ closed h.1)
]
  where
    open_ : (o : Option ℕ) → IsOpened (opening_of o c want) → TellsShut o reply.Memory
    open_ (Some place) h = absurd h
    open_ None h = tt

-- ---- steps

unchanged : (o : Option ℕ) (b : Book) → change_unless o b b ≡ b
unchanged None b = refl
unchanged (Some place) b = refl

next_opening : (s : Layout) (b : Book) (seq : ℕ) (want : Want) (r : Reply) → IsOpening r → next s b seq (call.Open want) r ≡ b
next_opening s b seq want (reply.Opened v) is = unchanged b.closed b
next_opening s b seq want (reply.Expired v) is = unchanged b.closed b
next_opening s b seq want (reply.NotYet v) is = unchanged b.closed b
next_opening s b seq want (reply.Closed v) is = unchanged b.closed b
next_opening s b seq want reply.Memory is = refl
next_opening s b seq want r is = absurd is

gives_way : (a : Reply) → IsOpened a → GivesWay a reply.Memory
gives_way (reply.Opened v) is = tt
gives_way a is = absurd is

module _ {S : Type 0} (view : S → View) (st : Shown S) (b : Book) (h : Has view st b) where
  opening_is : (want : Want) → opening_of st.closed st.contents want ≡ answer b (call.Open want)
  opening_is want = go st.closed refl
    where
      open_is : st.closed ≡ None → (w : Want) → opening_of None st.contents w ≡ answer_open b w
      open_is e Latest = ap reply.Opened (version_is (view st.store) st.area st.end st.contents b (h.opened e).images)
      open_is e (At v) =
          let floor : st.contents.floor ≡ b.floor = (h.opened e).images.holds.floor in
          let current : current_number st.contents ≡ version b = version_is (view st.store) st.area st.end st.contents b (h.opened e).images in
          ap (λ (f : ℕ). kept_or v f (current_number st.contents)) floor ∙ ap (kept_or v b.floor) current

      go : (o : Option ℕ) → st.closed ≡ o → opening_of o st.contents want ≡ answer b (call.Open want)
      go (Some place) e = sym (ap (λ (o : Option ℕ). answer_unless o (answer_open b want)) (sym h.same ∙ e))
      go None e = open_is e want ∙ sym (ap (λ (o : Option ℕ). answer_unless o (answer_open b want)) (sym h.same ∙ e))

  pub opening_steps : (new : Shown S) (seq : ℕ) (want : Want) (r : Reply) → Has view new b → IsOpeningOf st.closed st.contents want r → Steps view new b seq (call.Open want) r
  opening_steps new seq want r has is = (
    may is,
    subst (Has view new) (sym (next_opening new.contents.schema b seq want r (only_opening st.closed st.contents want r is))) has,
  )
    where
      may : IsOpeningOf st.closed st.contents want r → MayReply b (call.Open want) r
      may is = elim is [
        | inl e ↦ inl (e ∙ opening_is want)
        | inr m ↦ inr (subst IsOfReading (sym m.0) tt, subst (GivesWay (answer b (call.Open want))) (sym m.0) (gives_way (answer b (call.Open want)) (subst IsOpened (opening_is want) m.1)))
      ]

  pub stat_is : (st.closed ≡ None → alive (files_of st.contents.current) ≡ len b.current) → stat_of st.closed st.contents ≡ answer b call.Stat
  stat_is rows = go st.closed refl
    where
      open_is : st.closed ≡ None → stat_of None st.contents ≡ answer_stat b
      open_is e =
          let images = (h.opened e).images in
          let floor : st.contents.floor ≡ b.floor = images.holds.floor in
          let current : current_number st.contents ≡ version b = version_is (view st.store) st.area st.end st.contents b images in
          let count : length st.contents.current ≡ b.rowsets = sym (length-map st.contents.current parts) ∙ images.holds.holds.rowsets in
          λ i. reply.Stat (floor i) (current i) (rows e i) (count i)

      go : (o : Option ℕ) → st.closed ≡ o → stat_of o st.contents ≡ answer b call.Stat
      go (Some place) e = sym (ap (λ (o : Option ℕ). answer_unless o (answer_stat b)) (sym h.same ∙ e))
      go None e = open_is e ∙ sym (ap (λ (o : Option ℕ). answer_unless o (answer_stat b)) (sym h.same ∙ e))
