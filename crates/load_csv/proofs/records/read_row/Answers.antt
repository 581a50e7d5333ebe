use Rattle.csv.specs.Records.{fields_of}
use Rattle.load_csv.proofs.RecordFacts.{read-next, read-reading, read-width}
use Rattle.load_csv.proofs.records.read_row.Goals as goal

pub returns-clause-reading : goal.returns-clause-reading
returns-clause-reading c =
    let read = c.in-Ok.ensures.reads c.requires.plain c.requires.ready in
    read-reading c.args.rdr.now c.read_byte_record.new.self c.in-Ok.found (fields_of c.read_byte_record.new.row) c.requires read (c.in-Ok.ensures.ready c.requires.plain)

pub returns-clause-next : goal.returns-clause-next
returns-clause-next c =
    let read = c.in-Ok.ensures.reads c.requires.plain c.requires.ready in
    read-next c.args.rdr.now c.read_byte_record.new.self c.in-Ok.found (fields_of c.read_byte_record.new.row) c.requires read (c.in-Ok.ensures.ready c.requires.plain)

pub returns-clause-width : goal.returns-clause-width
returns-clause-width c =
    let read = c.in-Ok.ensures.reads c.requires.plain c.requires.ready in
    read-width c.args.rdr.now c.read_byte_record.new.self c.in-Ok.found (fields_of c.read_byte_record.new.row) c.requires read (c.in-Ok.ensures.ready c.requires.plain)
