use Rattle.std.proofs.Common.{◌≡◌, sym, subst, true}
use Rattle.index_file.specs.Buckets.{Pair}
use Rattle.index_file.specs.Entries.{sum_fits}
use Rattle.index_file.proofs.ReaderFacts.{sum_at}
use Rattle.index_file.proofs.listing.push_based.Goals as goal

pub with_base-requires : goal.with_base-requires
with_base-requires c =
    subst (λ (e : Pair). sum_fits c.args.base e.1 ≡ true) (sym c.entry-item.is) (sum_at c.args.base c.args.entries.now c.loop-entry.entry-index c.entry-item.result c.requires c.loop-entry-test.true)
