use Rattle.std.proofs.Common.{◌∙◌, ap, length, subst, List, ℕ}
use Rattle.index_file.specs.Entries.{IsTheBucket}
use Rattle.index_file.proofs.ReaderFacts.{failed_after, outside_damage, read_damage}
use Rattle.index_file.proofs.bucket_reads.read_entries_of.Goals as goal

pub returns-in-Err-clause-damaged : goal.returns-in-Err-clause-damaged
returns-in-Err-clause-damaged g c = outside_damage c.in-Err.fault c.args.base c.args.number c.args.b c.args.footer.now (g.R.SealedReader.view c.args.reader.now) c.in-Err.ensures.damaged

pub told_entries-requires-clause-long : goal.told_entries-requires-clause-long
told_entries-requires-clause-long g c = λ mark got. ap (λ (xs : List ℕ). length xs) c.deref.ensures.value ∙ c.in-Ok.ensures.long mark got

pub returns-clause-entries : goal.returns-clause-entries
returns-clause-entries g c = λ file told mark got.
    subst (λ (bs : List ℕ). IsTheBucket (length c.args.footer.now.buckets) c.args.b c.args.base bs c.in-Ok-told_entries.entries.items)
    (c.deref.ensures.value ∙ c.in-Ok.ensures.bytes file told mark got) c.in-Ok-told_entries.ensures.entries

pub returns-clause-rise : goal.returns-clause-rise
returns-clause-rise g c = c.in-Ok-told_entries.ensures.entries.is.rise

pub returns-clause-belong : goal.returns-clause-belong
returns-clause-belong g c = c.in-Ok-told_entries.ensures.entries.is.belong

pub returns-in-Err-told_entries-clause-damaged : goal.returns-in-Err-told_entries-clause-damaged
returns-in-Err-told_entries-clause-damaged g c =
    read_damage c.in-Err-told_entries.fault c.args.base c.args.number c.args.b c.args.footer.now (g.R.SealedReader.view c.args.reader.now) c.deref.result.now
    (λ file told mark got. c.deref.ensures.value ∙ c.in-Ok.ensures.bytes file told mark got) c.in-Err-told_entries.ensures.damaged

pub returns-in-Err-told_entries-clause-reading : goal.returns-in-Err-told_entries-clause-reading
returns-in-Err-told_entries-clause-reading g c = failed_after _ _ c.in-Err-told_entries.fault c.in-Ok.ensures.reading c.in-Err-told_entries.ensures.unfailed
