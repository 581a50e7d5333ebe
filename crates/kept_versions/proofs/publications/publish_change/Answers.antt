use Rattle.std.proofs.Common.{arith, ◌≡◌, ◌∙◌, ◌<◌, ◌^◌, sym, subst, List, Option, IfNone, IfSome, true, false}
use Rattle.std.specs.List.{list_all, AllByRecursion}
use Rattle.journal_form.specs.declared.records.DeadRows.{DeadRows}
use Rattle.journal_form.specs.Versions.{published_rowsets}
use Rattle.kept_versions.specs.Changes.{places_of_changes}
use Rattle.kept_versions.specs.Files.{is_live}
use Rattle.kept_versions.specs.Marking.{are_small, grouped}
use Rattle.kept_versions.proofs.ChangeFacts.{in_range, same_places, shaped_told, some_cannot, told_fit, told_live}
use Rattle.kept_versions.proofs.publications.publish_change.Goals as goal

pub returns-in_default-clause-not_live : goal.returns-in_default-clause-not_live
returns-in_default-clause-not_live c =
    let dead = c.args.dead.now in
    let large = subst (λ (told : Option (List DeadRows)). IfNone told (are_small dead ≡ false)) c.in_default.is c.in_ok-changed.ensures.none in
    λ _. some_cannot (published_rowsets c.args.new_files.now c.args.current.now) dead large

pub all_live-requires-clause-files : goal.all_live-requires-clause-files
all_live-requires-clause-files c =
    let dead = c.args.dead.now in
    let is = c.as_slice.ensures ∙ subst (λ (told : Option (List DeadRows)). IfSome told (λ cs. cs ≡ grouped dead)) c.in-Some.is c.in_ok-changed.ensures.groups in
    (shaped_told c.as_slice.result.now dead is c.requires).files

pub all_live-requires-clause-some : goal.all_live-requires-clause-some
all_live-requires-clause-some c =
    let dead = c.args.dead.now in
    let is = c.as_slice.ensures ∙ subst (λ (told : Option (List DeadRows)). IfSome told (λ cs. cs ≡ grouped dead)) c.in-Some.is c.in_ok-changed.ensures.groups in
    (shaped_told c.as_slice.result.now dead is c.requires).some

pub returns-then-not-branch-clause-not_live : goal.returns-then-not-branch-clause-not_live
returns-then-not-branch-clause-not_live c =
    let dead = c.args.dead.now in
    let is = c.as_slice.ensures ∙ subst (λ (told : Option (List DeadRows)). IfSome told (λ cs. cs ≡ grouped dead)) c.in-Some.is c.in_ok-changed.ensures.groups in
    let small = subst (λ (told : Option (List DeadRows)). IfSome told (λ _. are_small dead ≡ true)) c.in-Some.is c.in_ok-changed.ensures.small in
    λ _. told_live (published_rowsets c.args.new_files.now c.args.current.now) c.as_slice.result.now dead c.in_ok-all_live.field-0 is small c.in_ok-all_live.ensures ∙ c.if-not-branch.true

pub after_publish-requires : goal.after_publish-requires
after_publish-requires c =
    let dead = c.args.dead.now in
    let rowsets = published_rowsets c.args.new_files.now c.args.current.now in
    let is = subst (λ (told : Option (List DeadRows)). IfSome told (λ cs. cs ≡ grouped dead)) c.in-Some.is c.in_ok-changed.ensures.groups in
    told_fit rowsets c.as_slice-2.result.now dead c.in_ok-all_live.field-0 (c.as_slice-2.ensures ∙ is) c.requires
    (subst (λ (cs : List DeadRows). c.in_ok-all_live.field-0 ≡ list_all (is_live rowsets) (places_of_changes cs)) (c.as_slice.ensures ∙ sym c.as_slice-2.ensures) c.in_ok-all_live.ensures) c.if-not-branch.false

pub returns-clause-places : goal.returns-clause-places
returns-clause-places c =
    let dead = c.args.dead.now in
    let is = subst (λ (told : Option (List DeadRows)). IfSome told (λ cs. cs ≡ grouped dead)) c.in-Some.is c.in_ok-changed.ensures.groups in
    same_places c.in-Some.changed dead is

pub returns-clause-fits : goal.returns-clause-fits
returns-clause-fits c =
    let dead = c.args.dead.now in
    let rowsets = published_rowsets c.args.new_files.now c.args.current.now in
    let is = subst (λ (told : Option (List DeadRows)). IfSome told (λ cs. cs ≡ grouped dead)) c.in-Some.is c.in_ok-changed.ensures.groups in
    told_fit rowsets c.in-Some.changed dead c.in_ok-all_live.field-0 is c.requires
    (subst (λ (cs : List DeadRows). c.in_ok-all_live.field-0 ≡ list_all (is_live rowsets) (places_of_changes cs)) c.as_slice.ensures c.in_ok-all_live.ensures) c.if-not-branch.false

pub returns-clause-range : goal.returns-clause-range
returns-clause-range c =
    let dead = c.args.dead.now in
    let is = subst (λ (told : Option (List DeadRows)). IfSome told (λ cs. cs ≡ grouped dead)) c.in-Some.is c.in_ok-changed.ensures.groups in
    let small = subst (λ (told : Option (List DeadRows)). IfSome told (λ _. are_small dead ≡ true)) c.in-Some.is c.in_ok-changed.ensures.small in
    let files = subst (λ (told : Option (List DeadRows)). IfSome told (λ cs. AllByRecursion (λ c. c.file < 2 ^ 64) cs)) c.in-Some.is c.in_ok-changed.ensures.range in
    in_range c.in-Some.changed dead is c.requires small files (omega (arith, c.len-count.ensures))

pub returns-clause-live : goal.returns-clause-live
returns-clause-live c =
    let dead = c.args.dead.now in
    let is = c.as_slice.ensures ∙ subst (λ (told : Option (List DeadRows)). IfSome told (λ cs. cs ≡ grouped dead)) c.in-Some.is c.in_ok-changed.ensures.groups in
    let small = subst (λ (told : Option (List DeadRows)). IfSome told (λ _. are_small dead ≡ true)) c.in-Some.is c.in_ok-changed.ensures.small in
    told_live (published_rowsets c.args.new_files.now c.args.current.now) c.as_slice.result.now dead c.in_ok-all_live.field-0 is small c.in_ok-all_live.ensures ∙ c.if-not-branch.false
