use Rattle.std.proofs.Common.{◌≡◌, ℕ, ◌≤◌, List, IsTrue, arith, ap, ◌∙◌, sym, length, take}
use Rattle.std.proofs.lemmas.List.{length-take-le}
use Rattle.pk_values.specs.Schemas.{fits_row, Layout}
use Rattle.pk_values.specs.SchemaFacts.{length-fits_all}
use Rattle.pk_values.specs.declared.cells.Value.{Value}
use Rattle.segment_form.proofs.keys.is_below.Goals as goal

-- a row that fits has all cells of its key
has_key : (s : Layout) (keys : ℕ) (row cells : List Value) → IsTrue (fits_row s row) → cells ≡ row → keys ≤ length s.columns → keys ≡ length (take keys cells)
has_key s keys row cells fit is le = sym (length-take-le keys cells (omega (arith, ap length is, length-fits_all s.columns row fit)))

pub slice_bounds-least-end : goal.slice_bounds-least-end
slice_bounds-least-end c = has_key c.args.schema.now c.keys-keys.result c.args.first.now c.deref.result.now c.requires.first_fits (c.deref.ensures.value ∙ c.first.view_is) c.keys-keys.ensures.within

pub slice_bounds-greatest-end : goal.slice_bounds-greatest-end
slice_bounds-greatest-end c = has_key c.args.schema.now c.keys-keys.result c.args.second.now c.deref-2.result.now c.requires.second_fits (c.deref-2.ensures.value ∙ c.second.view_is) c.keys-keys.ensures.within
