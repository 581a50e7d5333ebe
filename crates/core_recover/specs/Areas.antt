-- What syncs leave of a store's areas, and how a journal's areas that are empty come to be blank.
use Rattle.std.specs.Prelude.{◌≡◌, ◌⊎◌, ℕ, ◌<◌, List, [], ◌∷◌, Result, Some}
use Rattle.dev_traits.specs.Causes.{HasCauseOf}
use Rattle.dev_traits.specs.Image.{Image, area_of, file}
use Rattle.dev_traits.specs.View.{View, Told, EachImage}
use Rattle.core_recover.specs.declared.faults.OpenFault.{OpenFault}
use Rattle.core_recover.specs.declared.faults.OpenFault.TheVariants as fault

-- where the store tells, the area reads as empty, or a crash leaves of it what is read
abbrev pub IsSyncedOrEmpty : ℕ → View → Type 0
IsSyncedOrEmpty a view = Told view (λ image. (area_of image a ≡ []) ⊎ EachImage view (λ left. area_of left a ≡ area_of image a))

-- the files are as they were, and so is each area, or it is the one byte 0 where the image that is read has it empty
pub record BlanksIn (read old new : Image) : Type 0 where
  pub files : new.files ≡ old.files
  pub areas : (a : ℕ) → (area_of new a ≡ area_of old a) ⊎ ((area_of read a ≡ []) × (area_of new a ≡ 0 ∷ []))

-- the areas are those of the image that is read, or the one byte 0 for an empty one, and the files of that image are there
pub record IsLike (read left : Image) : Type 0 where
  pub areas : (a : ℕ) → a < 3 → (area_of left a ≡ area_of read a) ⊎ ((area_of read a ≡ []) × (area_of left a ≡ 0 ∷ []))
  pub files : (number : ℕ) (bytes : List ℕ) → file read number ≡ Some bytes → file left number ≡ Some bytes

-- of an image as it is read, those areas alone were blanked that were empty
pub record BlanksEmpty (old new : Image) : Type 0 where
  pub files : new.files ≡ old.files
  pub areas : (a : ℕ) → (area_of new a ≡ area_of old a) ⊎ ((area_of old a ≡ []) × (area_of new a ≡ 0 ∷ []))

-- the files are as they were
abbrev pub SameFiles : Image → Image → Type 0
SameFiles before after = after.files ≡ before.files

-- the area has no byte, or the one byte 0
abbrev pub IsEmptyOrBlank : ℕ → Image → Type 0
IsEmptyOrBlank a image = (area_of image a ≡ []) ⊎ (area_of image a ≡ 0 ∷ [])

abbrev pub HasOpenCause : {T : Type 0} → ℕ → ℕ → Result T OpenFault → Type 0
HasOpenCause before now result = HasCauseOf fault.StoreFault before now result
