-- What a state's book tells of a key that the index has at a place, or at none.
use Rattle.std.proofs.Common.{◌≡◌, ◌↔◌, refl, ap, sym, subst, ◌∙◌, ℕ, List, Option, Some, None, Bool as Truth, true, false, cond}
use Rattle.std.specs.Prelude.{IsTrue}
use Rattle.std.specs.FinMap.{get}
use Rattle.dev_traits.specs.View.{View}
use Rattle.dev_traits.specs.declared.faults.Damaged.{Damaged}
use Rattle.dev_traits.specs.declared.faults.ReadFault.{ReadFault}
use Rattle.dev_traits.specs.declared.faults.ReadFault.TheVariants as read
use Rattle.index_level0.specs.declared.place.Place.{Place}
use Rattle.key_code.specs.KeyCode.{key_code}
use Rattle.pk_values.specs.Schemas.{Layout, key_of}
use Rattle.pk_values.specs.declared.cells.Value.{Value}
use Rattle.pk_model.specs.declared.books.Book.{Book}
use Rattle.segment_read.specs.Reads.{OnDamage}
use Rattle.tablet_state.specs.Contents.{Contents, current_number, index_of}
use Rattle.tablet_state.specs.Moving.{PlacesAreLive, keeps_live}
use Rattle.tablet_state.specs.State.{Has, Shown}
use Rattle.partial_loads.specs.Folded.{HasCode}
use Rattle.core_publish.specs.Publishing.{index_damage}
use Rattle.core_partial.specs.Prepared.{folded_of}
use Rattle.core_partial.specs.declared.keys.PreparedKey.{PreparedKey}
use Rattle.core_partial.proofs.OverFacts.{now_first, told_keys}

never : false ≡ true → ⊥
never e = cc

-- the index has the key where its code is stored
pub index-at : (s : Layout) (c : Contents) (k : PreparedKey) (o : Option Place) → s ≡ c.schema → HasCode s (folded_of k) → get c.codes k.code ≡ o → index_of c k.key ≡ o
index-at s c k o same coded at =
    let here : HasCode c.schema (folded_of k) = subst (λ (x : Layout). HasCode x (folded_of k)) same coded in
    ap (λ (t : Truth). cond t (get c.codes (key_code c.schema k.key)) None) here.key.fits ∙ ap (get c.codes) (sym here.code) ∙ at

pub astray-damage : (e : ReadFault) (P : Damaged → Type 0) → e ≡ read.Damaged index_damage → P index_damage → OnDamage e P
astray-damage e P is h = subst (λ (x : ReadFault). OnDamage x P) (sym is) h

-- the index of a book has live places alone
pub not-stray : {S : Type 0} (view : S → View) (st : Shown S) (key : List Value) (p : Place) (v : ℕ) (t : Truth) → PlacesAreLive view st → v ≡ current_number st.contents → t ≡ keeps_live st.contents v p → t ≡ false
    → index_of st.contents key ≡ Some p → (b : Book) → Has view st b → st.closed ≡ None → ⊥
not-stray view st key p v t live current is dead at b h open_ =
    never (sym dead ∙ is ∙ ap (λ (n : ℕ). keeps_live st.contents n p) current ∙ live b h open_ key p at)

-- the row of a key has the key
pub not-other : {S : Type 0} (view : S → View) (st : Shown S) (s : Layout) (key row : List Value) (t : Truth) → s ≡ st.contents.schema → (IsTrue t ↔ (key_of s row ≡ key)) → t ≡ false
    → (b : Book) → Has view st b → st.closed ≡ None → get b.current key ≡ Some row → ⊥
not-other view st s key row t same is other b h open_ got =
    never (sym other ∙ is.1 (subst (λ (x : Layout). key_of x row ≡ key) (sym same) (now_first view st b h open_ key row got)))

-- a key that the index doesn't have has no row
pub no-row : {S : Type 0} (view : S → View) (st : Shown S) (key : List Value) → index_of st.contents key ≡ None → (b : Book) → Has view st b → st.closed ≡ None → None ≡ get b.current key
no-row view st key at b h open_ = sym ((told_keys view st b h open_ key).absent at)
