use Rattle.std.proofs.Common.{◌≡◌, ◌+◌, drop}
use Rattle.serde_json.specs.View.{items_view}
use Rattle.schema_json.specs.Tables.{columns_of}
use Rattle.schema_json.proofs.TableLemmas.{behind}
use Rattle.schema_json.proofs.tables.columns_of.Given as goal

-- the columns so far stand before those of the items that are left
abbrev pub invariant-loop-i : goal.invariant-loop-i
invariant-loop-i l = columns_of 1 (items_view l.items) ≡ behind l.columns.items (columns_of (l.i + 1) (items_view (drop l.i l.items)))
