-- What is held after a partial load.
use Rattle.std.proofs.Common.{◌≡◌, ap, sym, subst, ◌∙◌, ℕ, List, ◌++◌, length}
use Rattle.index_level0.specs.declared.place.Place.{Place}
use Rattle.journal_form.specs.declared.records.Record.TheVariants.{Publish}
use Rattle.journal_form.specs.Versions.{Rowset as ListedRowset}
use Rattle.rowsets.specs.Indexing.{CodeMove}
use Rattle.tablet_state.specs.Contents.{Contents}
use Rattle.tablet_state.specs.State.{SegmentView}
use Rattle.tablet_state.specs.Readies.{IsLed, Leads, NewSegment, new_files, next_contents}
use Rattle.core_partial.specs.Moving.{IsRemade}
use Rattle.core_partial.specs.Prepared.{AgainView, PreparedPartialView}
use Rattle.core_partial.specs.Publishing.{IsHeldWith, IsTakenOf}

pub held_with : (c : Contents) (segs : List SegmentView) (p : PreparedPartialView) (again : AgainView) (made : List NewSegment) (moved : List CodeMove) (dead : List Place) (body : List ℕ) (current : List ListedRowset) (count : ℕ) (next : Contents)
    → IsRemade c segs p again → IsTakenOf c p again made dead moved → IsLed c (new_files c.next_file made) dead body (next_contents (length made) current moved c) → count ≡ length made
    → next ≡ next_contents count current moved c → IsHeldWith c segs p next
held_with c segs p again made moved dead body current count next is t led many at =
    let made_next : next_contents (length made) current moved c ≡ next = ap (λ (n : ℕ). next_contents n current moved c) (sym many) ∙ sym at in
    let as_files : count ≡ length (p.files ++ again.files) = many ∙ ap length t.files_are in
    record {
      again = again;
      is = is;
      current = current;
      body = body;
      next_is = at ∙ (λ i. next_contents (as_files i) current (t.moved_are i) c);
      led = record {
        version = led.version;
        changed = led.changed;
        leads = subst (λ (fs : List NewSegment). Leads c next body (Publish led.version (new_files c.next_file fs) led.changed)) t.files_are
            (subst (λ (n : Contents). Leads c n body (Publish led.version (new_files c.next_file made) led.changed)) made_next led.leads);
        same = λ q. led.same q ∙ t.found q;
      };
    }
