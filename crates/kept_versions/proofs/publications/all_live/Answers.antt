use Rattle.std.proofs.Common.{◌∙◌, ap, sym, refl, List, Bool, ◌&&◌, map}
use Rattle.std.specs.List.{list_all}
use Rattle.journal_form.specs.declared.records.ListedFile.{ListedFile}
use Rattle.journal_form.specs.Versions.{files_of, whole_file}
use Rattle.kept_versions.specs.Marking.{lives_all, noted_all}
use Rattle.kept_versions.proofs.ChangeFacts.{gone_over}
use Rattle.kept_versions.proofs.publications.all_live.Goals as goal

pub returns-then-not-note_rowsets : goal.returns-then-not-note_rowsets
returns-then-not-note_rowsets c =
    let cs = c.args.changed.now in
    let bs = c.in_ok-found.found.items in
    let new = map whole_file c.args.new_files.now in
    let old = c.note_rowsets.result in
    let one = noted_all (files_of c.args.current.now) cs bs in
    let lives = c.note_rowsets.ensures.lives ∙ ap (λ (rs : List (List ListedFile)). lives_all (files_of rs) cs bs) c.rowsets.ensures in
    let every = gone_over c.args.current.now c.args.new_files.now cs bs one (noted_all new cs one) old (lives_all new cs one) (list_all (λ b. b) (noted_all new cs one)) c.requires.some
    (c.in_ok-found.ensures.items_if_clones_equal (λ y e. e)) refl lives refl refl refl in
    sym (ap (λ (b : Bool). b && (lives_all new cs one && list_all (λ b. b) (noted_all new cs one))) c.if-not-note_rowsets.true) ∙ every

pub returns-then-not-note_all : goal.returns-then-not-note_all
returns-then-not-note_all c =
    let cs = c.args.changed.now in
    let bs = c.in_ok-found.found.items in
    let new = map whole_file c.args.new_files.now in
    let one = c.note_rowsets.new.found.items in
    let two = noted_all new cs one in
    let lives = c.note_rowsets.ensures.lives ∙ ap (λ (rs : List (List ListedFile)). lives_all (files_of rs) cs bs) c.rowsets.ensures in
    let noted = c.note_rowsets.ensures.found ∙ ap (λ (rs : List (List ListedFile)). noted_all (files_of rs) cs bs) c.rowsets.ensures in
    let same = c.as_slice.ensures ∙ c.in_ok-new.ensures in
    let newest = c.note_all.ensures.lives ∙ ap (λ (fs : List ListedFile). lives_all fs cs one) same in
    let every = gone_over c.args.current.now c.args.new_files.now cs bs one two c.note_rowsets.result c.note_all.result (list_all (λ b. b) two) c.requires.some
    (c.in_ok-found.ensures.items_if_clones_equal (λ y e. e)) noted lives refl newest refl in
    sym (ap (λ (b : Bool). b && (c.note_all.result && list_all (λ b. b) two)) c.if-not-note_rowsets.false ∙ ap (λ (b : Bool). b && list_all (λ b. b) two) c.if-not-note_all.true) ∙ every

pub returns : goal.returns
returns c =
    let cs = c.args.changed.now in
    let bs = c.in_ok-found.found.items in
    let one = c.note_rowsets.new.found.items in
    let two = c.note_all.new.found.items in
    let lives = c.note_rowsets.ensures.lives ∙ ap (λ (rs : List (List ListedFile)). lives_all (files_of rs) cs bs) c.rowsets.ensures in
    let noted = c.note_rowsets.ensures.found ∙ ap (λ (rs : List (List ListedFile)). noted_all (files_of rs) cs bs) c.rowsets.ensures in
    let same = c.as_slice.ensures ∙ c.in_ok-new.ensures in
    let newest = c.note_all.ensures.lives ∙ ap (λ (fs : List ListedFile). lives_all fs cs one) same in
    let second = c.note_all.ensures.found ∙ ap (λ (fs : List ListedFile). noted_all fs cs one) same in
    let every = gone_over c.args.current.now c.args.new_files.now cs bs one two c.note_rowsets.result c.note_all.result c.are_all.result c.requires.some
    (c.in_ok-found.ensures.items_if_clones_equal (λ y e. e)) noted lives second newest (c.are_all.ensures ∙ ap (list_all (λ b. b)) c.as_slice-2.ensures.value) in
    sym (ap (λ (b : Bool). b && (c.note_all.result && c.are_all.result)) c.if-not-note_rowsets.false ∙ ap (λ (b : Bool). b && c.are_all.result) c.if-not-note_all.false) ∙ every
