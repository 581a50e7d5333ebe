-- Values that fit a table can be written.
use Rattle.std.proofs.Common.{◌≡◌, true, arith}
use Rattle.std.specs.Prelude.{pos, ℤ, ◌≤ℤ◌}
use Rattle.std.proofs.lemmas.Int.{ints}
use Rattle.pk_values.specs.Fits.{fits, fits_kind}
use Rattle.pk_values.specs.declared.cells.Column.{Column}
use Rattle.pk_values.specs.declared.cells.Kind.{Kind}
use Rattle.pk_values.specs.declared.cells.Kind.TheVariants.{Boolean, TinyInt, SmallInt, Int, BigInt, LargeInt, Date, Varchar}
use Rattle.pk_values.specs.declared.cells.Value.{Value}
use Rattle.pk_values.specs.declared.cells.Value.TheVariants as value
use Rattle.cell_text.specs.Texts.{IsWritable}

day_fits : (d : ℤ) (kind : Kind) → fits_kind kind (value.Day d) ≡ true → (pos 0 ≤ℤ d) × (d ≤ℤ pos 3652424)
day_fits d Boolean h = cc
day_fits d TinyInt h = cc
day_fits d SmallInt h = cc
day_fits d Int h = cc
day_fits d BigInt h = cc
day_fits d LargeInt h = cc
day_fits d Date h = grind (arith, ints)
day_fits d (Varchar n) h = cc

pub value_writable : (c : Column) (v : Value) → fits c v ≡ true → IsWritable v
value_writable c value.Null h = tt
value_writable c (value.Bool b) h = tt
value_writable c (value.Num n) h = tt
value_writable c (value.Day d) h = day_fits d c.kind h
value_writable c (value.Text t) h = tt
