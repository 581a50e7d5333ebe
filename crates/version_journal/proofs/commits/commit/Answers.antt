use Rattle.std.proofs.Common.{ℕ, ◌+◌, refl, ap}
use Rattle.version_journal.proofs.Saying.{has_on, joining, reads_on}
use Rattle.version_journal.proofs.commits.commit.Goals as goal

pub returns-in_err-append-clause-any_moment : goal.returns-in_err-append-clause-any_moment
returns-in_err-append-clause-any_moment g c s t has due =
    joining (g.S.Store.view c.args.store.now) (g.S.Store.view c.append.new.store) c.args.journal.now c.args.draft.now.body s t has due c.append.ensures.any_moment

pub returns-clause-any_moment : goal.returns-clause-any_moment
returns-clause-any_moment g c s t has due =
    joining (g.S.Store.view c.args.store.now) (g.S.Store.view c.append.new.store) c.args.journal.now c.args.draft.now.body s t has due c.append.ensures.any_moment

pub returns-clause-committed : goal.returns-clause-committed
returns-clause-committed g c before reads_before after reads_after s t reads due =
    reads_on before after c.args.journal.now _ c.args.draft.now.body s t reads due
    (record { area = c.append.ensures.area; epoch = refl; edits = ap (λ (n : ℕ). n + 1) c.requires.due })
    (c.append.ensures.elsewhere before reads_before after reads_after) (c.in_ok-append.ensures.appended before reads_before after reads_after)

pub returns-clause-acknowledged : goal.returns-clause-acknowledged
returns-clause-acknowledged g c s t has due =
    has_on (g.S.Store.view c.args.store.now) (g.S.Store.view c.append.new.store) c.args.journal.now c.args.draft.now.body s t has due c.append.ensures.any_moment _
    (record { area = c.append.ensures.area; epoch = refl; edits = ap (λ (n : ℕ). n + 1) c.requires.due }) c.in_ok-append.ensures.acknowledged
