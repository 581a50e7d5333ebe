use Rattle.std.specs.Int.{w32}
use Rattle.std.proofs.lemmas.Int.{to_z-of_z}
use Rattle.cell_text.proofs.DayTexts.{month_part, place_part, text_reads, year_part}
use Rattle.cell_text.proofs.dates.date_of.Goals as goal

pub returns-clause-year : goal.returns-clause-year
returns-clause-year c = let back = to_z-of_z w32 c.args.day c.ranges.day in year_part c.numbered_date.result c.args.day c.requires.low (rw back at c.numbered_date.ensures)

pub returns-clause-month : goal.returns-clause-month
returns-clause-month c = let back = to_z-of_z w32 c.args.day c.ranges.day in month_part c.numbered_date.result c.args.day c.requires.low (rw back at c.numbered_date.ensures)

pub returns-clause-place : goal.returns-clause-place
returns-clause-place c = let back = to_z-of_z w32 c.args.day c.ranges.day in place_part c.numbered_date.result c.args.day c.requires.low (rw back at c.numbered_date.ensures)

pub returns-clause-reads_back : goal.returns-clause-reads_back
returns-clause-reads_back c = let back = to_z-of_z w32 c.args.day c.ranges.day in text_reads c.numbered_date.result c.args.day c.requires.low (rw back at c.numbered_date.ensures)
