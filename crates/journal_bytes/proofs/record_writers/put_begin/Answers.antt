use Rattle.std.proofs.Common.{sym}
use Rattle.std.proofs.Math.Nat.{mod-eq_of_lt}
use Rattle.journal_bytes.proofs.Joined.{begin_is}
use Rattle.journal_bytes.proofs.record_writers.put_begin.Goals as goal

pub returns : goal.returns
returns c = begin_is c.args.out.now.items c.push.new.self.items c.put_u64.new.out.items c.put_u64-2.new.out.items c.push-2.new.self.items c.put_schema.new.out.items _ _ _ c.args.form _
    c.in_ok-push.ensures.items c.in_ok-put_u64.ensures.ok c.in_ok-put_u64-2.ensures.ok c.in_ok-push-2.ensures.items c.in_ok-put_schema.ensures (sym (mod-eq_of_lt c.ranges.form.fits))
