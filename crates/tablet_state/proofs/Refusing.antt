-- That a refusal is a step of the book.
use Rattle.std.proofs.Common.{◌≡◌, ap, sym, subst, ◌∙◌, ℕ, ◌+◌, ◌≤◌, ◌^◌, length, Some, None, true}
use Rattle.std.proofs.lemmas.Bool.{eq-eqb}
use Rattle.dev_traits.specs.View.{View}
use Rattle.pk_model.specs.declared.books.Book.{Book}
use Rattle.pk_model.specs.declared.calls.Load.{Load}
use Rattle.pk_model.specs.declared.calls.Call.TheVariants as call
use Rattle.pk_model.specs.declared.calls.Reply.{Reply}
use Rattle.pk_model.specs.declared.calls.Reply.TheVariants as reply
use Rattle.pk_model.specs.Books.{is_full}
use Rattle.tablet_state.specs.Turns.{IsStep}
use Rattle.tablet_state.specs.State.{Has, Shown, Steps}
use Rattle.tablet_state.proofs.Publishing.{older_is}
use Rattle.tablet_state.proofs.ReplyFacts.{worn_is_a_step}
use Rattle.tablet_state.proofs.StandFacts.{closed_is_a_step, many_versions_is_a_step}

module _ {S : Type 0} (view : S → View) (st : Shown S) (b : Book) (seq : ℕ) (load : Load) (h : Has view st b) where
  stays : (r : Reply) → IsStep st.contents.schema b seq (call.Load load) r b → Steps view st b seq (call.Load load) r
  stays r is = (is.0, subst (λ (x : Book). Has view st x) (sym is.1) h)

  pub closed_refuses : (place : ℕ) → st.closed ≡ Some place → Steps view st b seq (call.Load load) (reply.Closed place)
  closed_refuses place is = stays (reply.Closed place) (closed_is_a_step st.contents.schema b seq place (call.Load load) (sym h.same ∙ is))

  pub worn_refuses : (n : ℕ) → st.closed ≡ None → 2 ^ 62 ≤ n → Steps view st b seq (call.Load load) (reply.Worn n)
  worn_refuses n open_ le = stays (reply.Worn n) (worn_is_a_step st.contents.schema b seq n load (sym h.same ∙ open_) le)

  pub full_refuses : st.closed ≡ None → length st.contents.older + 1 ≡ 1000 → Steps view st b seq (call.Load load) reply.ManyVersions
  full_refuses open_ most =
      let as_many : length st.contents.older ≡ length b.older = older_is (view st.store) st.area st.end st.contents b (h.opened open_).images in
      let full : is_full b ≡ true = eq-eqb (length b.older + 1) 1000 (sym (ap (λ (n : ℕ). n + 1) as_many) ∙ most) in
      stays reply.ManyVersions (many_versions_is_a_step st.contents.schema b seq load (sym h.same ∙ open_) full)
