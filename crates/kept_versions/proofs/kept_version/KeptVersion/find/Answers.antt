use Rattle.std.proofs.Common.{◌≡◌, ◌<◌, ◌+◌, ◌∙◌, ap, sym, subst, List, length, drop, get_or}
use Rattle.journal_form.specs.declared.records.ListedFile.{ListedFile}
use Rattle.journal_form.specs.Versions.{file_numbered, files_of}
use Rattle.kept_versions.proofs.FindFacts.{files_left, numbered_behind, numbered_here}
use Rattle.kept_versions.proofs.kept_version.KeptVersion.find.Goals as goal

pub returns-in-Some : goal.returns-in-Some
returns-in-Some c =
    let n = c.args.number in
    let i = c.loop-files.files-index in
    let self = c.args.self.now in
    let x = c.files-item.result in
    let same = c.as_slice-files-items.ensures ∙ c.self.view_is in
    let within = subst (λ (rs : List (List ListedFile)). i < length rs) same c.loop-files-test.true in
    let is = subst (λ (rs : List (List ListedFile)). x ≡ get_or rs i x) same c.files-item.is in
    let here = ap (file_numbered n) (sym c.as_slice.ensures) ∙ sym c.in-Some.ensures in
    sym (numbered_here n x (files_of (drop (i + 1) self)) (files_of (drop i self)) c.in-Some.file.now (files_left self i x within is) here) ∙ c.loop-files.invariant

pub loop-files-preserved : goal.loop-files-preserved
loop-files-preserved c =
    let n = c.args.number in
    let i = c.loop-files.files-index in
    let self = c.args.self.now in
    let x = c.files-item.result in
    let same = c.as_slice-files-items.ensures ∙ c.self.view_is in
    let within = subst (λ (rs : List (List ListedFile)). i < length rs) same c.loop-files-test.true in
    let is = subst (λ (rs : List (List ListedFile)). x ≡ get_or rs i x) same c.files-item.is in
    let none = ap (file_numbered n) (sym c.as_slice.ensures) ∙ sym c.in_default.ensures in
    sym (numbered_behind n x (files_of (drop (i + 1) self)) (files_of (drop i self)) (files_left self i x within is) none) ∙ c.loop-files.invariant
