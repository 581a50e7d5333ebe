use Rattle.std.proofs.Common.{get_or, refl}
use Rattle.index_file.proofs.ReadingFacts.{entry_read}
use Rattle.index_file.proofs.reading.read_entry.Goals as goal

pub returns-in-Some : goal.returns-in-Some
returns-in-Some c =
    let bytes = c.args.bytes.now in
    entry_read bytes c.from_slice-key.result (get_or bytes 0 0) c.in-Some.taken c.in-Some.place c.type_inv.bytes refl c.if-len-gt128.false c.if-bytes-len.false
    c.from_slice-key.ensures c.in-Some.ensures
