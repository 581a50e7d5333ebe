use Rattle.std.proofs.Common.{◌≡◌, rules, Ok, IfOk}
use Rattle.load_csv.specs.Loads.{load_of}
use Rattle.load_csv.proofs.FitFacts.{names-key}
use Rattle.load_csv.proofs.LawfulFacts.{if-lawful, if-whole, lines-lawful}
use Rattle.load_csv.proofs.NameFacts.{if-says}
use Rattle.load_csv.proofs.loads.read_load.Goals as goal

pub read_lines-requires-clause-keys : goal.read_lines-requires-clause-keys
read_lines-requires-clause-keys c = names-key c.args.schema.now c.args.partial c.in_ok-header.header.fields.items c.in_ok-header.ensures.named

pub returns-clause-lawful : goal.returns-clause-lawful
returns-clause-lawful c =
    let s = c.args.schema.now in
    let header = c.in_ok-header in
    if-lawful s c.load_with.result _ (rw c.deref.ensures.value at c.load_with.ensures.ok) (lines-lawful s header.header.fields.items _ c.in_ok-ops.ops
    (names-key s c.args.partial header.header.fields.items header.ensures.named) header.ensures.filled c.in_ok-ops.ensures.ok)

pub returns-clause-whole : goal.returns-clause-whole
returns-clause-whole c =
    if-whole c.args.schema.now c.args.partial c.in_ok-header.header.fields.items c.in_ok-ops.ops c.load_with.result (rw c.deref.ensures.value at c.load_with.ensures.ok) c.in_ok-header.ensures.named

pub returns-clause-named : goal.returns-clause-named
returns-clause-named c =
    let told : IfOk c.load_with.result (λ load. load_of c.args.schema.now c.args.partial c.args.bytes.now ≡ Ok load) = search rules in
    if-says c.args.schema.now c.args.partial c.args.bytes.now c.load_with.result c.load_with.ensures.valid told
