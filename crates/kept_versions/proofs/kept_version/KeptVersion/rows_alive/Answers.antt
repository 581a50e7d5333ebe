use Rattle.std.proofs.Common.{◌≤◌, ◌∙◌, ℕ, ap, subst, List, length, map, min}
use Rattle.std.specs.Prelude.{sum}
use Rattle.std.proofs.lemmas.List.{take_all}
use Rattle.journal_form.specs.declared.records.ListedFile.{ListedFile}
use Rattle.kept_versions.specs.Files.{alive}
use Rattle.kept_versions.proofs.ChangeFacts.{alive_files}
use Rattle.kept_versions.proofs.kept_version.KeptVersion.rows_alive.Goals as goal

pub returns : goal.returns
returns c =
    let self = c.args.self.now in
    let same = c.as_slice-files-items.ensures ∙ c.self.view_is in
    let done = subst (λ (rs : List (List ListedFile)). length rs ≤ c.loop-files.files-index) same c.loop-files-test.false in
    c.loop-files.invariant
    ∙ ap (λ (rs : List (List ListedFile)). min (sum (map alive rs)) 18446744073709551615) (take_all c.loop-files.files-index self done)
    ∙ ap (λ (n : ℕ). min n 18446744073709551615) (alive_files self)
