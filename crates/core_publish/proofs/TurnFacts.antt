-- Publishing is a step of the book that a state has.
use Rattle.std.proofs.Common.{◌≡◌, refl, ap, sym, subst, ◌∙◌, ℕ, ◌+◌, length, Option, Some, None, Bool as Truth, true, false, ◌==◌}
use Rattle.dev_traits.specs.View.{Calm, View}
use Rattle.dev_traits.proofs.Moments.{calm_leaves, leaves_only_join}
use Rattle.pk_model.specs.declared.books.Book.{Book}
use Rattle.pk_model.specs.declared.calls.Call.{Call}
use Rattle.pk_model.specs.declared.calls.Call.TheVariants as call
use Rattle.pk_model.specs.declared.calls.Load.{Load}
use Rattle.pk_model.specs.declared.calls.Reply.TheVariants as reply
use Rattle.pk_model.specs.Books.{is_full}
use Rattle.tablet_state.specs.Contents.{Contents, worn_of}
use Rattle.tablet_state.specs.Turns.{StandsEither}
use Rattle.tablet_state.specs.State.{Has, Shown, StandsThroughout, Steps, refusal, refusal_of}
use Rattle.tablet_state.proofs.Publishing.{older_is}
use Rattle.tablet_state.proofs.ReplyFacts.{memory_is_a_step}
use Rattle.tablet_state.proofs.Turning.{OnlyNow, only_still}

some_none : {X Y : Type 0} {x : X} → Some x ≡ None → Y
some_none e = absurd (cc e)

goes : (closed worn : Option ℕ) (full : Truth) → refusal closed worn full ≡ None → (closed ≡ None) × (worn ≡ None) × (full ≡ false)
goes (Some place) worn full e = some_none e
goes None (Some n) full e = some_none e
goes None None true e = some_none e
goes None None false e = (refl, refl, refl)

-- a state that refuses no load is open, and none of its numbers has come to its end
pub goes_on : {S : Type 0} (st : Shown S) → refusal_of st ≡ None → (st.closed ≡ None) × (worn_of st.contents ≡ None) × ((length st.contents.older + 1 == 1000) ≡ false)
goes_on st e = goes st.closed (worn_of st.contents) (length st.contents.older + 1 == 1000) e

pub takes : {S : Type 0} (view : S → View) (st : Shown S) (b : Book) → Has view st b → refusal_of st ≡ None → (b.closed ≡ None) × (is_full b ≡ false)
takes view st b h e =
    let on = goes_on st e in
    let as_many : length st.contents.older ≡ length b.older = older_is (view st.store) st.area st.end st.contents b (h.opened on.0).images in
    (sym h.same ∙ on.0, ap (λ (n : ℕ). n + 1 == 1000) (sym as_many) ∙ on.2)

-- for want of memory the book stays
pub memory_step : {S : Type 0} (view : S → View) (old new : Shown S) (b : Book) (seq : ℕ) (load : Load) → Has view old b → refusal_of old ≡ None → Has view new b → Steps view new b seq (call.Load load) reply.Memory
memory_step view old new b seq load h e kept =
    let on = takes view old b h e in
    let is = memory_is_a_step new.contents.schema b seq load on.0 on.1 in
    (is.0, subst (λ (x : Book). Has view new x) (sym is.1) kept)

-- calls that write nothing
pub moments_still : {S : Type 0} (view : S → View) (old new : Shown S) (b : Book) (seq : ℕ) (turn : Call) → OnlyNow (view old.store) → Has view old b → old.closed ≡ None → Calm (view old.store) (view new.store)
    → StandsThroughout old.contents.schema b seq turn (view old.store) (view new.store)
moments_still view old new b seq turn only h open_ calm =
    only_still (view old.store) (view new.store) old.area old.end old.contents b seq turn only (calm_leaves (view old.store) (view new.store) calm) (h.opened open_).images

-- and others behind them
pub moments_then : {S : Type 0} (view : S → View) (old mid : Shown S) (w : View) (b : Book) (seq : ℕ) (turn : Call) → OnlyNow (view old.store) → Has view old b → old.closed ≡ None → Calm (view old.store) (view mid.store)
    → mid.contents ≡ old.contents → StandsThroughout mid.contents.schema b seq turn (view mid.store) w → StandsThroughout old.contents.schema b seq turn (view old.store) w
moments_then view old mid w b seq turn only h open_ calm same second =
    leaves_only_join (StandsEither old.contents.schema b seq turn) (view old.store) (view mid.store) w (moments_still view old mid b seq turn only h open_ calm)
    (subst (λ (c : Contents). StandsThroughout c.schema b seq turn (view mid.store) w) same second)
