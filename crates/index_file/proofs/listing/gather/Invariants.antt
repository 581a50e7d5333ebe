use Rattle.std.proofs.Common.{◌≡◌, List, length, take}
use Rattle.index_level0.specs.Levels.{Level}
use Rattle.index_file.specs.Buckets.{buckets_of, Pair}
use Rattle.index_file.specs.Entries.{IsFileOf}
use Rattle.index_file.specs.Listing.{all_based, HaveEntries}
use Rattle.index_file.specs.Reads.{OnFile}
use Rattle.index_file.proofs.EntriesFacts.{Gathered, based, joined}
use Rattle.index_file.proofs.ReaderFacts.{Looked}
use Rattle.index_file.proofs.listing.gather.Given as goal

abbrev pub invariant-loop-b : goal.invariant-loop-b
invariant-loop-b g l =
    let view = g.R.SealedReader.view in
    record {
      read : Looked l.b (view l.fn.reader) (view l.reader);
      gathered : Gathered (length l.footer.buckets) l.b l.all.items;
      level : OnFile (view l.fn.reader) (λ file. (level : Level) (h : IsFileOf l.base l.footer file level) → l.all.items ≡ based l.base (joined (take l.b (buckets_of h.stored))));
      listed : OnFile (view l.fn.reader) (λ file. (buckets : List (List Pair)) × (length buckets ≡ l.b) × HaveEntries l.base l.footer file 0 buckets × (l.all.items ≡ all_based l.base buckets));
    }
