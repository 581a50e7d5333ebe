use Rattle.std.proofs.Common.{◌≡◌, ℕ, ◌∙◌, [], ap, sym, subst, Bool, ◌==◌, ◌||◌, false, get_or}
use Rattle.std.specs.List.{list_any}
use Rattle.journal_form.specs.declared.records.DeadRows.{DeadRows}
use Rattle.kept_versions.specs.Marking.{changed_numbers, rows_live}
use Rattle.kept_versions.proofs.FindFacts.{at_lives, at_noted, none_lives, none_noted}
use Rattle.kept_versions.proofs.marking.note.Goals as goal

pub returns-in_default-clause-found : goal.returns-in_default-clause-found
returns-in_default-clause-found c =
    let none = subst (λ (n : ℕ). list_any (λ m. m == n) (changed_numbers c.args.changed.now) ≡ false) c.number.ensures c.in_default.ensures.none in
    sym (none_noted c.args.file.now.file c.args.changed.now c.args.found.now.items c.requires.each none)

pub returns-in_default-clause-lives : goal.returns-in_default-clause-lives
returns-in_default-clause-lives c =
    let none = subst (λ (n : ℕ). list_any (λ m. m == n) (changed_numbers c.args.changed.now) ≡ false) c.number.ensures c.in_default.ensures.none in
    sym (none_lives c.args.file.now c.args.changed.now c.args.found.now.items none)

pub returns-then-known-clause-found : goal.returns-then-known-clause-found
returns-then-known-clause-found c =
    sym (at_noted c.args.file.now.file c.args.changed.now c.args.found.now.items c.in-Some.g c.requires.files c.requires.each c.in-Some.ensures.within (c.in-Some.ensures.there ∙ c.number.ensures))

pub returns-then-known-clause-lives : goal.returns-then-known-clause-lives
returns-then-known-clause-lives c =
    let none : DeadRows = record { file = 0; rows = [] } in
    let known = c.index-known.result.now in
    let at = at_lives c.args.file.now c.args.changed.now c.args.found.now.items c.in-Some.g known none c.requires.files c.requires.each c.in-Some.ensures.within (c.in-Some.ensures.there ∙ c.number.ensures) in
    c.if-known.true ∙ sym (at ∙ ap (λ (b : Bool). b || rows_live c.args.file.now (get_or c.args.changed.now c.in-Some.g none).rows) (sym c.index-known.ensures ∙ c.if-known.true))

pub returns-else-known-clause-found : goal.returns-else-known-clause-found
returns-else-known-clause-found c =
    sym (at_noted c.args.file.now.file c.args.changed.now c.args.found.now.items c.in-Some.g c.requires.files c.requires.each c.in-Some.ensures.within (c.in-Some.ensures.there ∙ c.number.ensures))

pub returns-else-known-clause-lives : goal.returns-else-known-clause-lives
returns-else-known-clause-lives c =
    let file = c.args.file.now in
    let x = c.index-changed-g.result in
    let known = c.index-known.result.now in
    let at = at_lives file c.args.changed.now c.args.found.now.items c.in-Some.g known x c.requires.files c.requires.each c.in-Some.ensures.within (c.in-Some.ensures.there ∙ c.number.ensures) in
    c.are_live.ensures ∙ ap (rows_live file) c.as_slice.ensures
    ∙ sym (at ∙ ap (λ (b : Bool). b || rows_live file (get_or c.args.changed.now c.in-Some.g x).rows) (sym c.index-known.ensures ∙ c.if-known.false))
