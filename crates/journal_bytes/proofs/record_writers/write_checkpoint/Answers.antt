use Rattle.journal_bytes.specs.Schemas.{schema as schema_field}
use Rattle.value_bytes.specs.Fields.{u8, u64}
use Rattle.journal_bytes.proofs.Joined.{checkpoint_is}
use Rattle.journal_bytes.proofs.record_writers.write_checkpoint.Goals as goal

pub returns : goal.returns
returns c = checkpoint_is c.new-out.result.items c.put_begin.new.out.items c.put_u64.new.out.items c.put_u64-2.new.out.items c.put_listed.new.out.items
    ((u64).bytes c.args.edit) ((u64).bytes c.args.epoch) ((u8).bytes c.args.form) ((schema_field).bytes c.args.schema.now) ((u64).bytes c.args.next_file) ((u64).bytes c.args.floor) _
    c.new-out.ensures.items c.in_ok-put_begin.ensures c.in_ok-put_u64.ensures.ok c.in_ok-put_u64-2.ensures.ok c.in_ok-put_listed.ensures
