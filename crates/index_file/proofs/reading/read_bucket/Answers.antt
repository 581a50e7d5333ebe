use Rattle.std.proofs.Common.{◌-◌, subst, List, IfNone, length, take, drop}
use Rattle.index_file.specs.Buckets.{Pair}
use Rattle.index_file.specs.Reading.{AreEntries}
use Rattle.index_file.proofs.SequenceFacts.{bucket_has, too_short}
use Rattle.index_file.proofs.reading.read_bucket.Goals as goal

pub returns-in-None-2-clause-none : goal.returns-in-None-2-clause-none
returns-in-None-2-clause-none c es is =
    let read = c.in-Some.ensures.some in
    let bytes = c.args.bytes.now in
    subst (λ o. IfNone o ((es : List Pair) → AreEntries c.in-Some.count (take (length bytes - 8) (drop 8 bytes)) es → ⊥)) c.in-None-2.is c.in_ok-entries-in-Some.ensures.none
    es (bucket_has bytes c.in-Some.count es read.0 read.2 is)

pub returns-in-None-clause-none : goal.returns-in-None-clause-none
returns-in-None-clause-none c es is = too_short c.args.bytes.now es c.in-None.ensures.none is
