-- A number that is written reads back.
use Rattle.std.proofs.Common.{◌≡◌, refl, sym, ap, subst, ◌∙◌, ℕ, suc, ◌^◌, ◌<◌, List, Some, None, Bool, true, false, cond, arith}
use Rattle.std.specs.Prelude.{ℤ, pos, negsuc, option_map, option_and_then, FitsSigned}
use Rattle.std.specs.Int.{w128}
use Rattle.std.specs.Fmt.{signed_decimal}
use Rattle.std.proofs.lemmas.Int.{ints}
use Rattle.pk_values.specs.declared.cells.Kind.{Kind}
use Rattle.pk_values.specs.declared.cells.Kind.TheVariants.{Boolean, TinyInt, SmallInt, Int, BigInt, LargeInt, Date, Varchar}
use Rattle.pk_values.specs.declared.cells.Value.{Value}
use Rattle.pk_values.specs.declared.cells.Value.TheVariants.{Num}
use Rattle.pk_values.specs.Fits.{fits_kind, null_mark}
use Rattle.cell_text.specs.Cells.{cell_of, if_of_kind, is_word, number_of, spelled}
use Rattle.cell_text.specs.Texts.{ReadsBack}
use Rattle.cell_text.proofs.NumberTexts.{minus_no_mark, minus_reads, number_no_mark, number_reads}
use Rattle.cell_text.proofs.ReadLemmas.{not_null}

record IsSpelling (z : ℤ) (bytes : List ℕ) : Type 0 where
  no_mark : is_word bytes null_mark ≡ false
  reads : number_of bytes ≡ Some z

by_kind : (kind : Kind) (z : ℤ) (bytes : List ℕ) → IsSpelling z bytes → spelled kind bytes ≡ option_map Num (number_of bytes) → fits_kind kind (Num z) ≡ true → cell_of kind bytes ≡ Some (Num z)
by_kind kind z bytes is spells fits =
    not_null kind bytes is.no_mark ∙ ap (option_and_then (if_of_kind kind)) (spells ∙ ap (option_map Num) is.reads) ∙ ap (λ (t : Bool). cond t (Some (Num z)) None) fits

back : (kind : Kind) (z : ℤ) (bytes : List ℕ) → IsSpelling z bytes → fits_kind kind (Num z) ≡ true → cell_of kind bytes ≡ Some (Num z)
back Boolean z bytes is fits = cc
back TinyInt z bytes is fits = by_kind TinyInt z bytes is refl fits
back SmallInt z bytes is fits = by_kind SmallInt z bytes is refl fits
back Int z bytes is fits = by_kind Int z bytes is refl fits
back BigInt z bytes is fits = by_kind BigInt z bytes is refl fits
back LargeInt z bytes is fits = by_kind LargeInt z bytes is refl fits
back Date z bytes is fits = cc
back (Varchar n) z bytes is fits = cc

spelling : (z : ℤ) → FitsSigned w128 z → IsSpelling z (signed_decimal z)
spelling (pos n) fits =
    let small : n < 10 ^ 64 = omega (arith, ints) in
    record { no_mark = number_no_mark (pos n) n refl small; reads = number_reads (pos n) n refl small }
spelling (negsuc n) fits =
    let small : suc n < 10 ^ 64 = omega (arith, ints) in
    record { no_mark = minus_no_mark (negsuc n) n refl; reads = minus_reads (negsuc n) n refl small }

-- what a report shows of a number reads back in each kind that holds it
pub number_back : (value : Value) (z : ℤ) → value ≡ Num z → FitsSigned w128 z → ReadsBack value
number_back value z e fits = subst (λ (v : Value). ReadsBack v) (sym e) (λ column held plain. back column.kind z (signed_decimal z) (spelling z fits) held)
