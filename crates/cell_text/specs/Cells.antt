-- What the bytes of a cell read as.
use Rattle.std.specs.Prelude.{ℕ, ◌+◌, ◌-◌, ◌*◌, ℤ, pos, neg_ℤ, List, [], ◌∷◌, map, codes, Option, Some, None, option_map, option_and_then, Bool as Truth, true, false, ◌==◌, ◌||◌, nat_eq, if◌then◌else◌}
use Rattle.std.specs.Char.{to_ascii_lowercase}
use Rattle.std.specs.Cmp.Lexicographic.{pointwise}
use Rattle.pk_values.specs.declared.cells.Kind.{Kind}
use Rattle.pk_values.specs.declared.cells.Kind.TheVariants.{Boolean, TinyInt, SmallInt, Int, BigInt, LargeInt, Date, Varchar}
use Rattle.pk_values.specs.declared.cells.Value.{Value}
use Rattle.pk_values.specs.declared.cells.Value.TheVariants.{Null, Bool, Num, Day, Text}
use Rattle.pk_values.specs.Fits.{fits_kind, null_mark}
use Rattle.cell_text.specs.Days.{day_of, is_digit}

-- the bytes are this word
abbrev pub is_word : List ℕ → List ℕ → Truth
is_word bytes word = pointwise nat_eq bytes word

-- the truth that a word in small letters names
abbrev pub truth_named : List ℕ → Option Truth
truth_named word =
    if is_word word (codes "0") || is_word word (codes "false") then Some false
    else if is_word word (codes "1") || is_word word (codes "true") then Some true
    else None

-- `0` and `false`, `1` and `true`, in any ASCII case
abbrev pub truth_of : List ℕ → Option Truth
truth_of bytes = truth_named (map to_ascii_lowercase bytes)

-- the number that decimal digits spell after the digits of n
abbrev pub digits_after : ℕ → List ℕ → Option ℕ
digits_after n [] = Some n
digits_after n (b ∷ bs) = if is_digit b then digits_after (n * 10 + (b - 48)) bs else None

-- the number that one or more decimal digits spell
abbrev pub digits_of : List ℕ → Option ℕ
digits_of [] = None
digits_of (b ∷ bs) = digits_after 0 (b ∷ bs)

abbrev pub minus : ℕ → ℤ
minus n = neg_ℤ (pos n)

-- the number that an optional sign and one or more decimal digits spell
abbrev pub number_of : List ℕ → Option ℤ
number_of [] = None
number_of (b ∷ bs) =
    if b == 45 then option_map minus (digits_of bs)
    else if b == 43 then option_map pos (digits_of bs)
    else option_map pos (digits_of (b ∷ bs))

-- the value that bytes spell in a kind, in its range or not
abbrev pub spelled : Kind → List ℕ → Option Value
spelled Boolean bytes = option_map Bool (truth_of bytes)
spelled TinyInt bytes = option_map Num (number_of bytes)
spelled SmallInt bytes = option_map Num (number_of bytes)
spelled Int bytes = option_map Num (number_of bytes)
spelled BigInt bytes = option_map Num (number_of bytes)
spelled LargeInt bytes = option_map Num (number_of bytes)
spelled Date bytes = option_map Day (day_of bytes)
spelled (Varchar n) bytes = Some (Text bytes)

abbrev pub if_of_kind : Kind → Value → Option Value
if_of_kind kind value = if fits_kind kind value then Some value else None

-- the cell that bytes read as: NULL where they are its mark, and else the value that they spell, if the kind holds it
abbrev pub cell_of : Kind → List ℕ → Option Value
cell_of kind bytes = if is_word bytes null_mark then Some Null else option_and_then (if_of_kind kind) (spelled kind bytes)
