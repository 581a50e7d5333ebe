-- What contracts see of an index.
use Rattle.std.specs.Prelude.{◌≡◌, ◌⊎◌, ℕ, ◌+◌, ◌≤◌, List, [], ◌∷◌, refl, true, is_some, Option, Some, None, MatchOption, Result, IsErrOf}
use Rattle.std.specs.FinMap.{get}
use Rattle.std.specs.Coded.{Coded, code_by, coded×, coded_list}
use Rattle.dev_traits.specs.Causes.{Counts}
use Rattle.dev_traits.specs.declared.faults.ReadFault.{ReadFault}
use Rattle.dev_traits.specs.declared.faults.ReadFault.TheVariants as read
use Rattle.dev_traits.specs.declared.faults.MakeFault.{MakeFault}
use Rattle.dev_traits.specs.declared.faults.MakeFault.TheVariants as make
use Rattle.pk_index.specs.declared.faults.IndexFault.{IndexFault}
use Rattle.pk_index.specs.declared.faults.IndexFault.TheVariants as index
use Rattle.index_level0.specs.Levels.{Entry, Level, LevelWithRoom, coded_level_with_room}
use Rattle.index_levels.specs.Levels.{Index}

-- level 0 with its room, the files, of which the newest is the first, and those that are set aside
pub record Shown (F : Type 0) : Type 0 where
  pub level0 : LevelWithRoom
  pub files : List F
  pub aside : List F

abbrev pub coded_shown : {F : Type 0} → Coded F → Coded (Shown F)
coded_shown {F} f =
    code_by (LevelWithRoom × (List F × List F)) (coded× coded_level_with_room (coded× (coded_list f) (coded_list f)))
    (λ s. (s.level0, (s.files, s.aside))) (λ p. record { level0 = p.0; files = p.1.0; aside = p.1.1 }) (λ _. refl)

-- each file has the level in its place
abbrev pub HaveLevels : {F : Type 0} → (F → Level → Type 0) → List F → List Level → Type 0
HaveLevels has [] [] = Unit {0}
HaveLevels has [] (l ∷ ls) = ⊥
HaveLevels has (f ∷ fs) [] = ⊥
HaveLevels has (f ∷ fs) (l ∷ ls) = has f l × HaveLevels has fs ls

-- the first of these files that has something has this, and the ones before it have nothing; or it is nothing, and none has anything
abbrev pub FirstHas : {F : Type 0} → (F → Option Entry → Type 0) → List F → Option Entry → Type 0
FirstHas has [] entry = entry ≡ None
FirstHas has (f ∷ fs) entry = (has f entry × (is_some entry ≡ true)) ⊎ (has f None × FirstHas has fs entry)

-- the newest entry of a key: that of level 0, or else of the first file that has the key
abbrev pub NewestHas : {F : Type 0} → (F → List ℕ → Option Entry → Type 0) → Level → List F → List ℕ → Option Entry → Type 0
NewestHas has level0 files key entry = MatchOption (get level0 key) (FirstHas (λ f. has f key) files entry) (λ e. entry ≡ Some e)

-- each number is at most one more than it was
abbrev pub AtMostOneMore : List ℕ → List ℕ → Type 0
AtMostOneMore [] [] = Unit {0}
AtMostOneMore [] (y ∷ ys) = ⊥
AtMostOneMore (x ∷ xs) [] = ⊥
AtMostOneMore (x ∷ xs) (y ∷ ys) = (y ≤ x + 1) × AtMostOneMore xs ys

-- level 0 over these levels
abbrev pub index_of : LevelWithRoom → List Level → Index
index_of level0 files = record { level0 = level0.level; files = files }

-- one of the counts rose by one, and no other changed
abbrev pub OneCounts : List ℕ → List ℕ → Type 0
OneCounts [] ys = ⊥
OneCounts (x ∷ xs) [] = ⊥
OneCounts (x ∷ xs) (y ∷ ys) = (Counts 1 x y × (ys ≡ xs)) ⊎ ((y ≡ x) × OneCounts xs ys)

-- The device's fault was counted once by one file. Whatever else is answered counts none.
pub record HaveCause {A : Type 0} (before now : List ℕ) (result : Result A ReadFault) : Type 0 where
  pub well : ¬ IsErrOf result read.StoreFault → now ≡ before
  pub failed : IsErrOf result read.StoreFault → OneCounts before now

-- The device's fault was counted once, by one file or by the maker. Whatever else is answered counts none.
pub record HaveFlushCause {A : Type 0} (before now : List ℕ) (made making : ℕ) (result : Result A IndexFault) : Type 0 where
  pub well : ¬ IsErrOf result index.StoreFault → (now ≡ before) × (making ≡ made)
  pub failed : IsErrOf result index.StoreFault → (OneCounts before now × (making ≡ made)) ⊎ ((now ≡ before) × Counts 1 made making)

-- the fault of a reader, and of a maker, as one of the index
abbrev pub index_of_read : ReadFault → IndexFault
index_of_read (read.Damaged damaged) = index.Damaged damaged
index_of_read read.StoreFault = index.StoreFault
index_of_read read.Memory = index.Memory

abbrev pub index_of_make : MakeFault → IndexFault
index_of_make make.StoreFault = index.StoreFault
index_of_make make.Memory = index.Memory

-- damage was told
abbrev pub TellsIndexDamage : IndexFault → Type 0
TellsIndexDamage (index.Damaged damaged) = Unit {0}
TellsIndexDamage index.StoreFault = ⊥
TellsIndexDamage index.Memory = ⊥
