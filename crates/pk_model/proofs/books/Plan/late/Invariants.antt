use Rattle.std.proofs.Common.{◌≡◌, take, count_by}
use Rattle.pk_model.specs.Books.{is_touched}
use Rattle.pk_model.proofs.books.Plan.late.Given as goal

abbrev pub invariant-loop-key : goal.invariant-loop-key
invariant-loop-key l = l.late ≡ count_by (is_touched l.self) (take l.key-index l.key-items)
