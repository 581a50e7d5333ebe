use Rattle.std.proofs.Common.{◌≤◌, Bool, List, ℕ, length, map}
use Rattle.std.specs.List.{AllPass}
use Rattle.pk_values.specs.declared.cells.Value.{Value}
use Rattle.column_page.specs.Page.{Cell}
use Rattle.column_page.specs.Reading.{HavePlaced, PlacesOf}
use Rattle.column_page.proofs.decode.read_places.Given as goal

abbrev pub invariant-loop-i : goal.invariant-loop-i
invariant-loop-i l = record {
  within : l.at ≤ length l.bytes;
  pass : (p : Value → Bool) → AllPass p l.words → AllPass p l.values.items;
  so_far : (code : Value → List ℕ) (cells : List Cell) → PlacesOf (map code l.words) l.count l.bytes cells → HavePlaced (map code l.words) (map code l.values.items) l.i l.at l.bytes cells;
}
