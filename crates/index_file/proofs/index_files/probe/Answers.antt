use Rattle.std.proofs.Common.{◌<◌, ◌∙◌, ap, sym, subst, arith, length, ℕ}
use Rattle.std.proofs.Math.Logic.{∥∥₁_elim}
use Rattle.std.specs.Option.{option_map}
use Rattle.std.specs.FinMap.{find}
use Rattle.std.specs.Cmp.Lexicographic.{slice_cmp}
use Rattle.std.specs.Ordering.{nat_cmp}
use Rattle.dev_traits.specs.declared.faults.Part.TheVariants as part
use Rattle.index_file.specs.Buckets.{bucket_of}
use Rattle.index_file.specs.Entries.{BucketShown, sums_fit, with_base}
use Rattle.index_file.specs.Reads.{bucket_in, IsDamage, OfBucket, OnDamage, OnFile}
use Rattle.index_file.specs.Listing.{HasEntryIn}
use Rattle.index_file.proofs.EntriesFacts.{belong_sums}
use Rattle.index_file.proofs.IntactFacts.{intact_not_shown, probed}
use Rattle.index_file.proofs.ReaderFacts.{knows_still, same_read, some_mark, told_damage}
use Rattle.index_file.proofs.WholeFacts.{more_whole, one_whole, still_whole}
use Rattle.index_file.proofs.index_files.probe.Goals as goal

pub look_up-requires-clause-whole : goal.look_up-requires-clause-whole
look_up-requires-clause-whole g c =
    one_whole c.args.file.now.base c.args.file.now.footer (g.R.SealedReader.view c.args.file.now.reader) c.args.file.now.notes c.bucket_of-b.result (sym c.has.ensures ∙ c.if-has.true) c.args.file.now.whole

pub invariant_of-file : goal.invariant_of-file
invariant_of-file g c =
    let view = g.R.SealedReader.view in
    let file = c.args.file.now in
    let same = same_read 1 (view file.reader) (view c.look_up.new.reader) c.look_up.result c.look_up.ensures.reading in
    record {
      known = knows_still (view file.reader) (view c.look_up.new.reader) file.footer same file.known;
      numbered = file.numbered;
      whole = still_whole file.base file.footer (view file.reader) (view c.look_up.new.reader) file.notes same file.whole;
    }

pub invariant_of-file-in-Err-read_entries_of : goal.invariant_of-file-in-Err-read_entries_of
invariant_of-file-in-Err-read_entries_of g c =
    let view = g.R.SealedReader.view in
    let file = c.args.file.now in
    let same = same_read 1 (view file.reader) (view c.read_entries_of.new.reader) c.read_entries_of.result c.read_entries_of.ensures.reading in
    record {
      known = knows_still (view file.reader) (view c.read_entries_of.new.reader) file.footer same file.known;
      numbered = file.numbered;
      whole = still_whole file.base file.footer (view file.reader) (view c.read_entries_of.new.reader) file.notes same file.whole;
    }

pub invariant_of-file-in-Ok-read_entries_of : goal.invariant_of-file-in-Ok-read_entries_of
invariant_of-file-in-Ok-read_entries_of g c =
    let view = g.R.SealedReader.view in
    let file = c.args.file.now in
    let same = same_read 1 (view file.reader) (view c.read_entries_of.new.reader) c.read_entries_of.result c.read_entries_of.ensures.reading in
    record {
      known = knows_still (view file.reader) (view c.read_entries_of.new.reader) file.footer same file.known;
      numbered = file.numbered;
      whole = more_whole file.base file.footer (view file.reader) (view c.read_entries_of.new.reader) file.notes c.add.new.self c.bucket_of-b.result same
          (λ bytes told mark got. (c.in-Ok-read_entries_of.entries.items, c.in-Ok-read_entries_of.ensures.entries bytes told mark got)) c.add.ensures file.whole;
    }

pub find_place-requires : goal.find_place-requires
find_place-requires g c =
    ap (sums_fit c.args.file.now.base) c.deref.ensures.value ∙ belong_sums (length c.args.file.now.footer.buckets) c.bucket_of-b.result c.args.file.now.base c.in-Ok-read_entries_of.entries.items c.in-Ok-read_entries_of.ensures.belong

pub returns-in-Ok-clause-entry : goal.returns-in-Ok-clause-entry
returns-in-Ok-clause-entry g c =
    subst (λ (k : ℕ). HasEntryIn c.args.file.now.base c.args.file.now.footer (g.R.SealedReader.view c.args.file.now.reader) k c.args.key.now c.in-Ok.entry)
    (c.bucket_of-b.ensures.of_key ∙ ap (λ (k : ℕ). bucket_of k c.args.key.now) c.len.ensures) c.in-Ok.ensures.entry

pub returns-in-Ok-clause-level : goal.returns-in-Ok-clause-level
returns-in-Ok-clause-level g c level h =
    let f = c.args.file.now.footer in
    let base = c.args.file.now.base in
    let b = c.bucket_of-b.result in
    let less : b < length f.buckets = omega (arith, c.bucket_of-b.ensures.there, c.len.ensures) in
    let mark = some_mark f b less in
    let has = c.in-Ok.ensures.entry h.file h.told mark.0 mark.1 in
    probed base f h.file level h.is c.args.key.now b mark.0 has.0 c.in-Ok.entry (c.bucket_of-b.ensures.of_key ∙ ap (λ (k : ℕ). bucket_of k c.args.key.now) c.len.ensures) mark.1 has.1 has.2

pub returns-in-Ok-read_entries_of-clause-level : goal.returns-in-Ok-read_entries_of-clause-level
returns-in-Ok-read_entries_of-clause-level g c level h =
    let f = c.args.file.now.footer in
    let base = c.args.file.now.base in
    let b = c.bucket_of-b.result in
    let less : b < length f.buckets = omega (arith, c.bucket_of-b.ensures.there, c.len.ensures) in
    let mark = some_mark f b less in
    probed base f h.file level h.is c.args.key.now b mark.0 c.in-Ok-read_entries_of.entries.items c.find_place.result
    (c.bucket_of-b.ensures.of_key ∙ ap (λ (k : ℕ). bucket_of k c.args.key.now) c.len.ensures) mark.1 (c.in-Ok-read_entries_of.ensures.entries h.file h.told mark.0 mark.1)
    (c.find_place.ensures ∙ ap (λ es. option_map (with_base base) (find (slice_cmp nat_cmp) c.args.key.now es)) c.deref.ensures.value)

pub returns-in-Err-clause-damaged : goal.returns-in-Err-clause-damaged
returns-in-Err-clause-damaged g c =
    let f = c.args.file.now.footer in
    let base = c.args.file.now.base in
    subst (λ (k : ℕ). OnDamage c.in-Err.fault (IsDamage c.args.file.now.number (part.Bucket k) (λ shown. OnFile (g.R.SealedReader.view c.args.file.now.reader) (λ bytes. OfBucket f k (λ mark.
    BucketShown (length f.buckets) k base mark.length (bucket_in bytes mark) shown)))))
    (c.bucket_of-b.ensures.of_key ∙ ap (λ (k : ℕ). bucket_of k c.args.key.now) c.len.ensures) c.in-Err.ensures.damaged

pub returns-in-Err-clause-intact : goal.returns-in-Err-clause-intact
returns-in-Err-clause-intact g c tells level h =
    let f = c.args.file.now.footer in
    let base = c.args.file.now.base in
    let b = c.bucket_of-b.result in
    let less : b < length f.buckets = omega (arith, c.bucket_of-b.ensures.there, c.len.ensures) in
    let mark = some_mark f b less in
    let shows = told_damage c.in-Err.fault c.args.file.now.number (part.Bucket b) (λ shown. OnFile (g.R.SealedReader.view c.args.file.now.reader) (λ bytes. OfBucket f b (λ mark.
    BucketShown (length f.buckets) b base mark.length (bucket_in bytes mark) shown))) c.in-Err.ensures.damaged tells in
    ∥∥₁_elim c.args.file.now.known (λ x. absurd x) (λ known. intact_not_shown base f h.file level h.is (known h.file h.told) b mark.0 shows.0 mark.1 (shows.1 h.file h.told mark.0 mark.1))

pub returns-in-Err-read_entries_of-clause-damaged : goal.returns-in-Err-read_entries_of-clause-damaged
returns-in-Err-read_entries_of-clause-damaged g c =
    let f = c.args.file.now.footer in
    let base = c.args.file.now.base in
    subst (λ (k : ℕ). OnDamage c.in-Err-read_entries_of.fault (IsDamage c.args.file.now.number (part.Bucket k) (λ shown. OnFile (g.R.SealedReader.view c.args.file.now.reader) (λ bytes. OfBucket f k (λ mark.
    BucketShown (length f.buckets) k base mark.length (bucket_in bytes mark) shown)))))
    (c.bucket_of-b.ensures.of_key ∙ ap (λ (k : ℕ). bucket_of k c.args.key.now) c.len.ensures) c.in-Err-read_entries_of.ensures.damaged

pub returns-in-Err-read_entries_of-clause-intact : goal.returns-in-Err-read_entries_of-clause-intact
returns-in-Err-read_entries_of-clause-intact g c tells level h =
    let f = c.args.file.now.footer in
    let base = c.args.file.now.base in
    let b = c.bucket_of-b.result in
    let less : b < length f.buckets = omega (arith, c.bucket_of-b.ensures.there, c.len.ensures) in
    let mark = some_mark f b less in
    let shows = told_damage c.in-Err-read_entries_of.fault c.args.file.now.number (part.Bucket b) (λ shown. OnFile (g.R.SealedReader.view c.args.file.now.reader) (λ bytes. OfBucket f b (λ mark.
    BucketShown (length f.buckets) b base mark.length (bucket_in bytes mark) shown))) c.in-Err-read_entries_of.ensures.damaged tells in
    ∥∥₁_elim c.args.file.now.known (λ x. absurd x) (λ known. intact_not_shown base f h.file level h.is (known h.file h.told) b mark.0 shows.0 mark.1 (shows.1 h.file h.told mark.0 mark.1))
