use Rattle.std.proofs.Common.{◌≡◌, ◌++◌, ◌∷◌, [], ◌∙◌, ap, sym, subst, refl, arith, length, List, ℕ}
use Rattle.index_file.specs.Buckets.{Pair}
use Rattle.index_file.specs.Entries.{IsTheBucket, sums_fit}
use Rattle.index_file.specs.Reads.{bucket_in, OfBucket}
use Rattle.index_file.proofs.EntriesFacts.{as_many, based, belong_sums, Gathered, gathered_more, joined_on, level_of_all, none_gathered}
use Rattle.index_file.proofs.ListingFacts.{based_on, entries_on, one_more}
use Rattle.index_file.proofs.ReaderFacts.{bucket_damage, fails_later, knows_still, looked_all, looked_none, looked_on, some_mark, wants_later}
use Rattle.index_file.proofs.listing.gather.Goals as goal

pub loop-b-init : goal.loop-b-init
loop-b-init g c = record {
  read = looked_none (g.R.SealedReader.view c.args.reader.now);
  gathered = subst (λ (xs : List Pair). Gathered (length c.args.footer.now.buckets) 0 xs) (sym c.new-all.ensures.items) (none_gathered (length c.args.footer.now.buckets));
  level = λ file told level h. c.new-all.ensures.items;
  listed = λ file told. ([], refl, tt, c.new-all.ensures.items);
}

pub read_entries_of-requires-clause-known : goal.read_entries_of-requires-clause-known
read_entries_of-requires-clause-known g c =
    knows_still (g.R.SealedReader.view c.args.reader.now) (g.R.SealedReader.view c.loop-b.reader) c.args.footer.now c.loop-b.invariant.read.same c.requires.known

pub returns-in-Err-clause-damaged : goal.returns-in-Err-clause-damaged
returns-in-Err-clause-damaged g c =
    bucket_damage c.in-Err.fault c.args.base c.args.number c.loop-b.b c.args.footer.now (g.R.SealedReader.view c.loop-b.reader) (g.R.SealedReader.view c.args.reader.now)
    (omega (arith, c.loop-b-test.true, c.len-b-end.ensures)) c.loop-b.invariant.read.same.bytes c.in-Err.ensures.damaged

pub returns-in-Err-clause-reading : goal.returns-in-Err-clause-reading
returns-in-Err-clause-reading g c =
    fails_later c.loop-b.b (length c.args.footer.now.buckets) _ _ _ c.in-Err.fault (omega (arith, c.loop-b-test.true, c.len-b-end.ensures)) c.loop-b.invariant.read c.in-Err.ensures.reading

pub returns-in-Err-push_based-clause-reading : goal.returns-in-Err-push_based-clause-reading
returns-in-Err-push_based-clause-reading g c =
    wants_later c.loop-b.b (length c.args.footer.now.buckets) _ _ _ (omega (arith, c.loop-b-test.true, c.len-b-end.ensures)) c.loop-b.invariant.read c.in-Ok.ensures.reading

pub push_based-requires : goal.push_based-requires
push_based-requires g c =
    ap (sums_fit c.args.base) c.deref.ensures.value ∙ belong_sums (length c.args.footer.now.buckets) c.loop-b.b c.args.base c.in-Ok.more.items c.in-Ok.ensures.belong

pub loop-b-preserved : goal.loop-b-preserved
loop-b-preserved g c =
    let f = c.args.footer.now in
    let base = c.args.base in
    let b = c.loop-b.b in
    let es = c.in-Ok.more.items in
    let all = c.loop-b.all.items in
    let new = c.push_based.new.out.items in
    let inv = c.loop-b.invariant in
    let put : new ≡ all ++ based base es = c.in-Ok-push_based.ensures ∙ ap (λ (xs : List Pair). all ++ based base xs) c.deref.ensures.value in
    let mark = some_mark f b (omega (arith, c.loop-b-test.true, c.len-b-end.ensures)) in
    record {
      read = looked_on b (g.R.SealedReader.view c.args.reader.now) (g.R.SealedReader.view c.loop-b.reader) (g.R.SealedReader.view c.read_entries_of.new.reader) inv.read c.in-Ok.ensures.reading;
      gathered = gathered_more (length f.buckets) b base all es new inv.gathered c.in-Ok.ensures.rise c.in-Ok.ensures.belong put;
      listed = λ file told.
          let before = inv.listed file told in (
            before.0 ++ es ∷ [],
            one_more before.0 es b before.1,
            entries_on base f file 0 before.0 es before.2
                (subst (λ (k : ℕ). OfBucket f k (λ m. IsTheBucket (length f.buckets) k base (bucket_in file m) es)) (omega (arith, before.1)) (c.in-Ok.ensures.entries file (inv.read.same.bytes ∙ told))),
            based_on base before.0 es all new before.3 put,
          );
      level = λ file told level h. joined_on base f file level h b mark.0 all es new mark.1 (c.in-Ok.ensures.entries file (inv.read.same.bytes ∙ told) mark.0 mark.1) (inv.level file told level h) put;
    }

pub returns-clause-level : goal.returns-clause-level
returns-clause-level g c level h =
    let f = c.args.footer.now in
    let inv = c.loop-b.invariant in
    let so_far = inv.level h.file h.told level h.is in (
      level_of_all c.args.base f h.file level h.is c.loop-b.b c.loop-b.all.items (omega (arith, c.loop-b-test.false, c.len-b-end.ensures)) so_far,
      as_many c.args.base f h.file level h.is c.loop-b.b c.loop-b.all.items (omega (arith, c.loop-b-test.false, c.len-b-end.ensures)) so_far inv.gathered.distinct,
    )

pub returns-clause-listed : goal.returns-clause-listed
returns-clause-listed g c file told =
    let so_far = c.loop-b.invariant.listed file told in
    (so_far.0, omega (arith, so_far.1, c.loop-b-test.false, c.loop-b.auto.b-end, c.len-b-end.ensures), so_far.2, so_far.3)

pub returns-clause-reading : goal.returns-clause-reading
returns-clause-reading g c =
    looked_all c.loop-b.b (length c.args.footer.now.buckets) _ _ c.requires.some (omega (arith, c.loop-b-test.false, c.loop-b.auto.b-end, c.len-b-end.ensures)) c.loop-b.invariant.read
