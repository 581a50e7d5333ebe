use Rattle.std.proofs.Common.{[]}
use Rattle.std.proofs.lemmas.List.Elements.{All-cons, All-nil}
use Rattle.script_text.specs.Texts.{IsWritableRow}
use Rattle.tablet_run.proofs.ScanFacts.{fit-writable}
use Rattle.tablet_run.proofs.scanning.put_row.Goals as goal

pub put_rows-requires : goal.put_rows-requires
put_rows-requires c = All-cons IsWritableRow c.args.row [] (fit-writable c.requires.0 c.args.row c.requires.1) (All-nil IsWritableRow)
