use Rattle.std.proofs.Common.{◌≡◌, ℕ, ◌≤◌, List, IsTrue, arith, ap, ◌∙◌, sym, length, take}
use Rattle.std.proofs.lemmas.List.{length-take-le}
use Rattle.pk_values.specs.Schemas.{fits_row, Layout}
use Rattle.pk_values.specs.SchemaFacts.{length-fits_all}
use Rattle.pk_values.specs.declared.cells.Value.{Value}
use Rattle.old_rows.proofs.rows_of_blocks.has_key.Goals as goal

-- a row that fits has all cells of its key
all_there : (s : Layout) (keys : ℕ) (row cells : List Value) → IsTrue (fits_row s row) → cells ≡ row → keys ≤ length s.columns → keys ≡ length (take keys cells)
all_there s keys row cells fit is le = sym (length-take-le keys cells (omega (arith, ap length is, length-fits_all s.columns row fit)))

pub slice_bounds-there-end : goal.slice_bounds-there-end
slice_bounds-there-end c = all_there c.args.schema.now c.keys-keys.result c.args.row.now c.deref.result.now c.requires (c.deref.ensures.value ∙ c.row.view_is) c.keys-keys.ensures.within
