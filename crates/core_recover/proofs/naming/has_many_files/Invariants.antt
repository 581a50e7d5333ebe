use Rattle.std.proofs.Common.{◌≡◌, ◌^◌, ◌-◌, min, take, length}
use Rattle.journal_form.specs.Versions.{files_of}
use Rattle.core_recover.proofs.naming.has_many_files.Given as goal

abbrev pub invariant-loop-rowset : goal.invariant-loop-rowset
invariant-loop-rowset l = l.files ≡ min (length (files_of (take l.rowset-index l.rowset-items))) (2 ^ 64 - 1)
