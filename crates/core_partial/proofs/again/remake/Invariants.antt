use Rattle.std.proofs.Common.{◌≡◌, ◌+◌, ◌≤◌, None, length, map, take}
use Rattle.pk_model.specs.declared.books.Book.{Book}
use Rattle.tablet_state.specs.Moving.{total_reads}
use Rattle.tablet_state.specs.Snapshots.{Lends}
use Rattle.tablet_state.specs.State.{Has, faults_of}
use Rattle.partial_loads.specs.Making.{made_rows}
use Rattle.core_partial.specs.Again.{AreRemade}
use Rattle.core_partial.specs.Moving.{moved_keys}
use Rattle.core_partial.specs.Prepared.{folded_of}
use Rattle.core_partial.proofs.again.remake.Given as goal

abbrev pub invariant-loop-key : goal.invariant-loop-key
invariant-loop-key g l =
    let c = l.fn.state.contents in
    let done = moved_keys c l.version (take l.key-index l.keys) in
    record {
      lends : Lends g.S.Store.view l.fn.state l.state;
      made : AreRemade c l.fn.state.segments l.given done l.remade;
      over : (b : Book) → Has g.S.Store.view l.fn.state b → l.fn.state.closed ≡ None → l.remade.results.rows.items ≡ made_rows l.schema l.given b.current (map folded_of done);
      reads : total_reads l.state.segments ≤ total_reads l.fn.state.segments + length done;
      unfailed : faults_of g.S.Store.view l.state ≡ faults_of g.S.Store.view l.fn.state;
    }
