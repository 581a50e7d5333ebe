use Rattle.journal_form.specs.Versions.{files_of, compacted_rowsets}
use Rattle.kept_versions.proofs.ChangeFacts.{files_rise, rows_rise}
use Rattle.kept_versions.proofs.kept_version.KeptVersion.after_compact.Goals as goal

pub mark_rowsets-requires-clause-files : goal.mark_rowsets-requires-clause-files
mark_rowsets-requires-clause-files c = files_rise (files_of (compacted_rowsets c.args.replaced c.args.files.now c.args.self.now)) c.args.changed.now c.requires.fit

pub mark_rowsets-requires-clause-rows : goal.mark_rowsets-requires-clause-rows
mark_rowsets-requires-clause-rows c = rows_rise (files_of (compacted_rowsets c.args.replaced c.args.files.now c.args.self.now)) c.args.changed.now c.requires.fit

pub mark_files-requires-clause-files : goal.mark_files-requires-clause-files
mark_files-requires-clause-files c = files_rise (files_of (compacted_rowsets c.args.replaced c.args.files.now c.args.self.now)) c.args.changed.now c.requires.fit

pub mark_files-requires-clause-rows : goal.mark_files-requires-clause-rows
mark_files-requires-clause-rows c = rows_rise (files_of (compacted_rowsets c.args.replaced c.args.files.now c.args.self.now)) c.args.changed.now c.requires.fit

pub mark_behind-requires-clause-files : goal.mark_behind-requires-clause-files
mark_behind-requires-clause-files c = files_rise (files_of (compacted_rowsets c.args.replaced c.args.files.now c.args.self.now)) c.args.changed.now c.requires.fit

pub mark_behind-requires-clause-rows : goal.mark_behind-requires-clause-rows
mark_behind-requires-clause-rows c = rows_rise (files_of (compacted_rowsets c.args.replaced c.args.files.now c.args.self.now)) c.args.changed.now c.requires.fit
