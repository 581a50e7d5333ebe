use Rattle.std.proofs.Common.{rules}
use Rattle.cell_text.proofs.ReadLemmas.{reads-TinyInt, reads-SmallInt, reads-Int, reads-BigInt, reads-LargeInt, reads-Date}
use Rattle.cell_text.proofs.read.read_value.Goals as goal

pub returns-in-TinyInt-by_kind : goal.returns-in-TinyInt-by_kind
returns-in-TinyInt-by_kind c = search (rules, reads-TinyInt)

pub returns-in-SmallInt-by_kind : goal.returns-in-SmallInt-by_kind
returns-in-SmallInt-by_kind c = search (rules, reads-SmallInt)

pub returns-in-Int-by_kind : goal.returns-in-Int-by_kind
returns-in-Int-by_kind c = search (rules, reads-Int)

pub returns-in-BigInt-by_kind : goal.returns-in-BigInt-by_kind
returns-in-BigInt-by_kind c = search (rules, reads-BigInt)

pub returns-in-LargeInt-by_kind : goal.returns-in-LargeInt-by_kind
returns-in-LargeInt-by_kind c = search (rules, reads-LargeInt)

pub returns-in-Date-by_kind : goal.returns-in-Date-by_kind
returns-in-Date-by_kind c = search (rules, reads-Date)
