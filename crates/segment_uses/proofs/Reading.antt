-- What a reader of a segment's file finds.
use Rattle.std.proofs.Common.{◌≡◌, ◌⊎◌, inl, inr, ℕ, List, refl, sym, ap, ◌∙◌, subst, Some, None, Err, IfErr, IsSome, Option, Result}
use Rattle.std.proofs.lemmas.Bool.{false≢true}
use Rattle.pk_values.specs.Schemas.{Layout}
use Rattle.column_page.specs.declared.footers.Footer.{Footer}
use Rattle.dev_traits.specs.Reader.{ReaderView}
use Rattle.dev_traits.specs.declared.faults.Damaged.{Damaged}
use Rattle.dev_traits.specs.declared.faults.Part.TheVariants as part
use Rattle.dev_traits.specs.declared.faults.ReadFault.{ReadFault}
use Rattle.dev_traits.specs.declared.faults.Shown.{Shown}
use Rattle.dev_traits.specs.declared.faults.ReadFault.TheVariants as read
use Rattle.segment_read.specs.Reads.{IsDamage, OnDamage}
use Rattle.segment_read.specs.Rows.{IsRowsDamage}

-- the damage of a result that is one
pub damage_told : {T : Type 0} (result : Result T ReadFault) (damaged : Damaged) (P : Damaged → Type 0) → IfErr result (λ e. OnDamage e P) → result ≡ Err (read.Damaged damaged) → P damaged
damage_told result damaged P h e = subst (λ (r : Result _ ReadFault). IfErr r (λ e. OnDamage e P)) e h

-- damage is told of the file that was read, at its footer or at one of its blocks
abbrev pub IsToldOf : ℕ → Damaged → Type 0
IsToldOf number damaged = (damaged.file ≡ number) × ((damaged.part ≡ part.Footer) ⊎ ((b : ℕ) × (damaged.part ≡ part.Block b)))

pub rows_place : {T : Type 0} (result : Result T ReadFault) (damaged : Damaged) (s : Layout) (number segment : ℕ) (now : ReaderView) (footer : Footer) → segment ≡ number
    → IfErr result (λ e. OnDamage e (IsRowsDamage s footer segment now)) → result ≡ Err (read.Damaged damaged) → IsToldOf number damaged
rows_place result damaged s number segment now footer same shown failed =
    let damage = damage_told result damaged (IsRowsDamage s footer segment now) shown failed in
    (damage.file_is ∙ same, inr (damage.block, damage.part_is))

pub footer_place : {T : Type 0} (result : Result T ReadFault) (damaged : Damaged) (number : ℕ) (Shows : Shown → Type 0)
    → IfErr result (λ e. OnDamage e (IsDamage number part.Footer Shows)) → result ≡ Err (read.Damaged damaged) → IsToldOf number damaged
footer_place result damaged number Shows shown failed =
    let damage = damage_told result damaged (IsDamage number part.Footer Shows) shown failed in
    (damage.file_is, inl damage.part_is)

-- the bytes that a sealed file tells
pub sealed_is : (bytes : Option (List ℕ)) (file : List ℕ) → ((found : List ℕ) → bytes ≡ Some found → found ≡ file) → IsSome bytes → bytes ≡ Some file
sealed_is (Some found) file is some = ap Some (is found refl)
sealed_is None file is some = absurd (false≢true some)

pub some_told : {A : Type 0} (found : Option A) (x : A) → found ≡ Some x → IsSome found
some_told found x e = subst IsSome (sym e) refl
