use Rattle.dev_traits.proofs.Counting.{sum_counts, sum_rose, sum_joined, sum_given_back, counts_next, counts_then, counts_rose}
use Rattle.dev_traits.proofs.counts.sums_of_counts.Goals as goal

pub returns-clause-counts : goal.returns-clause-counts
returns-clause-counts c = sum_counts

pub returns-clause-rises : goal.returns-clause-rises
returns-clause-rises c = sum_rose

pub returns-clause-joins : goal.returns-clause-joins
returns-clause-joins c = sum_joined

pub returns-clause-given_back : goal.returns-clause-given_back
returns-clause-given_back c = sum_given_back

pub returns-clause-next : goal.returns-clause-next
returns-clause-next c = counts_next

pub returns-clause-further : goal.returns-clause-further
returns-clause-further c = counts_then

pub returns-clause-rose : goal.returns-clause-rose
returns-clause-rose c = counts_rose
