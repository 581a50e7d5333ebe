-- What calls that read files leave of them, and whose damage is told.
use Rattle.std.specs.Prelude.{◌⊎◌, ◌↔◌, ℕ, List, [], ◌∷◌, Option, ⊤}
use Rattle.dev_traits.specs.declared.faults.Damaged.{Damaged}
use Rattle.pk_index.specs.declared.faults.IndexFault.{IndexFault}
use Rattle.pk_index.specs.declared.faults.IndexFault.TheVariants as index
use Rattle.index_level0.specs.Levels.{Entry, Level}

-- A file after a call has the levels that it had, and at each key and as a whole it is read as it was, or as damaged as it was.
pub record IsSame {F : Type 0} (has_level : F → Level → Type 0) (has_entry : F → List ℕ → Option Entry → Type 0) (reads_as : F → Level → Type 0)
    (damaged_at : F → List ℕ → Damaged → Type 0) (damaged : F → Damaged → Type 0) (old new : F) : Type 0 where
  pub levels : (level : Level) → has_level old level ↔ has_level new level
  pub entries : (key : List ℕ) (entry : Option Entry) → has_entry old key entry ↔ has_entry new key entry
  pub reading : (level : Level) → reads_as old level ↔ reads_as new level
  pub damage_at : (key : List ℕ) (shown : Damaged) → damaged_at old key shown ↔ damaged_at new key shown
  pub damage : (shown : Damaged) → damaged old shown ↔ damaged new shown

-- the same files in the same order
abbrev pub Stay : {F : Type 0} → (F → F → Type 0) → List F → List F → Type 0
Stay same [] [] = ⊤
Stay same [] (y ∷ ys) = ⊥
Stay same (x ∷ xs) [] = ⊥
Stay same (x ∷ xs) (y ∷ ys) = same x y × Stay same xs ys

-- one of the files is damaged so, and those before it have nothing
abbrev pub FirstDamaged : {F : Type 0} → (F → Type 0) → (F → Type 0) → List F → Type 0
FirstDamaged none damaged [] = ⊥
FirstDamaged none damaged (f ∷ fs) = damaged f ⊎ (none f × FirstDamaged none damaged fs)

-- one of the files is damaged so
abbrev pub OneDamaged : {F : Type 0} → (F → Type 0) → List F → Type 0
OneDamaged damaged [] = ⊥
OneDamaged damaged (f ∷ fs) = damaged f ⊎ OneDamaged damaged fs

-- of what a fault tells as damage
abbrev pub OnIndexDamage : IndexFault → (Damaged → Type 0) → Type 0
OnIndexDamage (index.Damaged shown) P = P shown
OnIndexDamage index.StoreFault P = ⊤
OnIndexDamage index.Memory P = ⊤
