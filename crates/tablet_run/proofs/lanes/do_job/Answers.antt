use Rattle.std.proofs.Common.{sym}
use Rattle.tablet_run.proofs.lanes.do_job.Goals as goal

pub returns-in-Load : goal.returns-in-Load
returns-in-Load g c = c.load_file.ensures c.args.job.now _ c.in-Load.is (sym c.as_slice.ensures)

pub returns-in-Scan : goal.returns-in-Scan
returns-in-Scan g c = c.scan_version.ensures c.args.job.now _ c.in-Scan.is

pub returns-in-Stat : goal.returns-in-Stat
returns-in-Stat g c = c.count_rows.ensures c.args.job.now _ c.args.place c.in-Stat.is

pub returns-in-Expire : goal.returns-in-Expire
returns-in-Expire g c = c.expire_versions.ensures c.args.job.now _ c.in-Expire.is

pub returns-in-Partial : goal.returns-in-Partial
returns-in-Partial g c = c.partial_file.ensures c.args.job.now _ c.in-Partial.is (sym c.as_slice-in-Partial.ensures)
