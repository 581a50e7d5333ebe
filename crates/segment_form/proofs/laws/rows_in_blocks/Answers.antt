use Rattle.segment_form.proofs.RowsInBlocks.{all_joined, length-blocks_of, row_of_block}
use Rattle.segment_form.proofs.laws.rows_in_blocks.Goals as goal

pub returns-clause-joined : goal.returns-clause-joined
returns-clause-joined c rows = all_joined rows

pub returns-clause-number : goal.returns-clause-number
returns-clause-number c rows = length-blocks_of rows

pub returns-clause-placed : goal.returns-clause-placed
returns-clause-placed c rows block row b place there at = row_of_block b place rows block row there at
