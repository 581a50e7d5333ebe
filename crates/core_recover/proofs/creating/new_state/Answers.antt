use Rattle.std.proofs.Common.{◌≡◌, ◌∙◌, ap, refl, sym, subst, min, arith}
use Rattle.pk_model.specs.Books.{new_book}
use Rattle.tablet_state.specs.Contents.{contents_of}
use Rattle.tablet_state.specs.Opening.{IsRead}
use Rattle.tablet_state.specs.Seen.{segments_of}
use Rattle.tablet_state.specs.State.{HasOwn, IsOpen, reader_faults}
use Rattle.core_recover.specs.Creating.{new_contents}
use Rattle.core_recover.proofs.NewFacts.{at_empty, new_open, new_own, new_read, none_seen}
use Rattle.core_recover.proofs.creating.new_state.Goals as goal

pub of-requires-clause-own : goal.of-requires-clause-own
of-requires-clause-own g c =
    at_empty (λ older current codes segs. HasOwn (contents_of c.args.begun.schema 1 0 0 1 0 older current codes) segs) _ _ _ _ c.new-older.ensures.items c.empty-current.ensures c.new-index.ensures (none_seen g.S.Reader.SealedReader.view _ c.new-segments.ensures.items)
    (new_own c.args.begun.schema c.requires.good)

pub of-requires-clause-open : goal.of-requires-clause-open
of-requires-clause-open g c =
    at_empty (λ older current codes segs. IsOpen (g.S.Store.view c.args.store) c.args.begun.journal.log.area c.args.begun.journal.log.end (contents_of c.args.begun.schema 1 0 0 1 0 older current codes) segs) _ _ _ _ c.new-older.ensures.items c.empty-current.ensures
    c.new-index.ensures (none_seen g.S.Reader.SealedReader.view _ c.new-segments.ensures.items) (new_open c.args.begun.schema c.args.begun.journal (g.S.Store.view c.args.store) c.requires.reads c.requires.none c.requires.begun)

pub returns-clause-book : goal.returns-clause-book
returns-clause-book g c = λ honest.
    let image = g.met.S.Store.honest_reads c.args.store honest in
    c.of.ensures.book new_book image.0
    (at_empty (λ older current codes segs. IsRead (g.S.Store.view c.args.store) c.args.begun.journal.log.area c.args.begun.journal.log.end (contents_of c.args.begun.schema 1 0 0 1 0 older current codes) segs new_book image.0) _ _ _ _ c.new-older.ensures.items
    c.empty-current.ensures c.new-index.ensures (none_seen g.S.Reader.SealedReader.view _ c.new-segments.ensures.items)
    (new_read c.args.begun.schema c.args.begun.journal (g.S.Store.view c.args.store) image.0 honest image.1 image.2 (c.requires.begun honest)))

pub returns-clause-contents : goal.returns-clause-contents
returns-clause-contents g c =
    c.of.ensures.contents ∙ at_empty (λ older current codes segs. contents_of c.args.begun.schema 1 0 0 1 0 older current codes ≡ new_contents c.args.begun.schema) _ _ _ _ c.new-older.ensures.items c.empty-current.ensures c.new-index.ensures (none_seen g.S.Reader.SealedReader.view _ c.new-segments.ensures.items) refl

pub returns-clause-uncounted : goal.returns-clause-uncounted
returns-clause-uncounted g c = λ none.
    (c.of.ensures.maker ∙ none, ap reader_faults (c.of.ensures.segments ∙ none_seen g.S.Reader.SealedReader.view _ c.new-segments.ensures.items))
