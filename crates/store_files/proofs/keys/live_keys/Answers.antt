use Rattle.std.proofs.Common.{◌∙◌, refl, sym, subst, arith}
use Rattle.std.proofs.lemmas.Result.{err_from_is_err_and}
use Rattle.column_page.specs.declared.footers.Footer.{Footer}
use Rattle.segment_read.specs.Footers.{HasFooter}
use Rattle.segment_read.proofs.Scanning.{known_still}
use Rattle.store_files.proofs.FileFacts.{well_ok}
use Rattle.store_files.proofs.KeyFacts.{codes_all, codes_step, keys_damage, keys_intact, whole_all, whole_step}
use Rattle.store_files.proofs.keys.live_keys.Goals as goal

pub add_block-requires-clause-footer : goal.add_block-requires-clause-footer
add_block-requires-clause-footer g c = λ file told.
    subst (λ (f : Footer). HasFooter c.args.schema.now f file) (sym c.loop-b.invariant.kept) (c.requires file (sym c.loop-b.invariant.same.bytes ∙ told))

pub loop-b-init : goal.loop-b-init
loop-b-init g c = record {
  number = refl;
  kept = refl;
  same = record { bytes = refl; size = refl };
  reads = omega arith;
  unfailed = refl;
  whole = λ file told i lt live. absurd (omega arith);
  read = λ file told rows is. c.new-keys.ensures.items;
}

pub loop-b-preserved : goal.loop-b-preserved
loop-b-preserved g c =
    let inv = c.loop-b.invariant in
    let made = c.in_ok-add_block.ensures in
    let more = made.reads in
    let most = inv.reads in
    record {
      number = made.number ∙ inv.number;
      kept = made.kept ∙ inv.kept;
      same = record { bytes = made.same.bytes ∙ inv.same.bytes; size = made.same.size ∙ inv.same.size };
      reads = omega arith;
      unfailed = well_ok _ _ _ made.cause ∙ inv.unfailed;
      whole = whole_step c.args.schema.now c.args.segment.now.footer c.loop-b.segment.footer (g.R.SealedReader.view c.args.segment.now.reader)
          (g.R.SealedReader.view c.loop-b.segment.reader) c.args.dead.now c.loop-b.b inv.kept inv.same.bytes inv.whole made.whole;
      read = codes_step c.args.schema.now c.args.segment.now.footer c.loop-b.segment.footer c.args.segment.now.number c.loop-b.segment.number
          (g.R.SealedReader.view c.args.segment.now.reader) (g.R.SealedReader.view c.loop-b.segment.reader) c.args.dead.now c.loop-b.b c.loop-b.keys.items c.add_block.new.keys.items
          inv.kept inv.number inv.same.bytes (omega arith) inv.read made.added;
    }

pub returns-in_err-add_block-clause-damaged : goal.returns-in_err-add_block-clause-damaged
returns-in_err-add_block-clause-damaged g c =
    let p = err_from_is_err_and c.from_residual.result c.from_residual.ensures.1 in
    let inv = c.loop-b.invariant in
    rw (p.1, p.2) (keys_damage c.args.schema.now c.args.segment.now.footer c.loop-b.segment.footer c.args.segment.now.number c.loop-b.segment.number
    (g.R.SealedReader.view c.args.segment.now.reader) (g.R.SealedReader.view c.loop-b.segment.reader) c.args.dead.now c.loop-b.b _ inv.kept inv.number inv.same.bytes c.in_err-add_block.ensures.damaged)

pub returns-in_err-add_block-clause-intact : goal.returns-in_err-add_block-clause-intact
returns-in_err-add_block-clause-intact g c =
    let p = err_from_is_err_and c.from_residual.result c.from_residual.ensures.1 in
    let inv = c.loop-b.invariant in
    rw (p.1, p.2) (keys_intact c.args.schema.now c.args.segment.now.footer c.loop-b.segment.footer
    (g.R.SealedReader.view c.args.segment.now.reader) (g.R.SealedReader.view c.loop-b.segment.reader) c.args.dead.now _ inv.kept inv.same.bytes c.in_err-add_block.ensures.intact)

pub returns-clause-keys : goal.returns-clause-keys
returns-clause-keys g c = λ file told rows is.
    let count = c.blocks-b-end.ensures.count in
    codes_all c.args.schema.now c.args.segment.now.footer file c.args.segment.now.number c.args.dead.now c.loop-b.b rows c.loop-b.keys.items is (omega arith) (c.loop-b.invariant.read file told rows is)

pub returns-clause-whole : goal.returns-clause-whole
returns-clause-whole g c = λ file told.
    let count = c.blocks-b-end.ensures.count in
    whole_all c.args.schema.now c.args.segment.now.footer file c.args.dead.now c.loop-b.b (omega arith) (c.loop-b.invariant.whole file told)

pub returns-clause-known : goal.returns-clause-known
returns-clause-known g c = known_still c.args.schema.now (g.R.SealedReader.view c.args.segment.now.reader) (g.R.SealedReader.view c.loop-b.segment.reader) c.args.segment.now.footer c.loop-b.segment.footer
    c.requires c.loop-b.invariant.same.bytes c.loop-b.invariant.kept
