-- The cells of a key, seen as flags, numbers of w bytes and texts.
use Rattle.std.specs.Prelude.{◌≡◌, ℕ, ◌≤◌, ℤ, Bool, true, false, if◌then◌else◌, List, [], ◌∷◌, ◌++◌, ⊤}
use Rattle.std.specs.Cmp.Lexicographic.{slice_cmp}
use Rattle.std.specs.Ordering.{int_cmp, nat_cmp, ordering_then}
use Rattle.std.specs.declared.cmp.Ordering.{Ordering}
use Rattle.std.specs.declared.cmp.Ordering.TheVariants.{Equal}
use Rattle.fixed_code.specs.NumberCode.{FitsBytes, number_code}
use Rattle.key_code.specs.Escapes.{escaped}

-- a cell of a key: a number of w bytes (BOOLEAN is 0 or 1, and as a byte of its own), or a text
pub data Part : Type 0 where
  flag : ℕ → Part
  number : ℕ → ℤ → Part
  text : List ℕ → Part

abbrev pub part_code : Bool → Part → List ℕ
part_code last (flag b) = b ∷ []
part_code last (number w z) = number_code w z
part_code last (text bs) = if last then bs else escaped bs

abbrev pub is_nil : List Part → Bool
is_nil [] = true
is_nil (p ∷ ps) = false

-- the code of a key: the codes of its cells, one after the other, where the last text stands as it is
abbrev pub key_code : List Part → List ℕ
key_code [] = []
key_code (p ∷ ps) = part_code (is_nil ps) p ++ key_code ps

abbrev pub cmp_part : Part → Part → Ordering
cmp_part (flag a) (flag b) = nat_cmp a b
cmp_part (number w a) (number v b) = int_cmp a b
cmp_part (text a) (text b) = slice_cmp nat_cmp a b
cmp_part _ _ = Equal

-- the key order: the first cell that differs decides
abbrev pub cmp_key : List Part → List Part → Ordering
cmp_key [] _ = Equal
cmp_key (p ∷ ps) [] = Equal
cmp_key (p ∷ ps) (q ∷ qs) = ordering_then (cmp_part p q) (cmp_key ps qs)

-- both cells fit one column
abbrev pub FitOne : Part → Part → Type 0
FitOne (flag a) (flag b) = ⊤
FitOne (number w a) (number v b) = (w ≡ v) × (1 ≤ w) × (w ≤ 16) × FitsBytes w a × FitsBytes w b
FitOne (text a) (text b) = ⊤
FitOne _ _ = ⊥

abbrev pub FitOneSchema : List Part → List Part → Type 0
FitOneSchema [] [] = ⊤
FitOneSchema [] (q ∷ qs) = ⊥
FitOneSchema (p ∷ ps) [] = ⊥
FitOneSchema (p ∷ ps) (q ∷ qs) = FitOne p q × FitOneSchema ps qs
