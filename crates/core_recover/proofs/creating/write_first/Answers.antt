use Rattle.std.proofs.Common.{◌≡◌, ◌∙◌, sym, subst, IsTrue, Bool, None, Some}
use Rattle.core_recover.proofs.CreateFacts.{begun_so, each_joined, files_none, index_elsewhere, start_has, start_log, start_reads, start_ready, while_begun, while_cleared}
use Rattle.core_recover.proofs.AreaFacts.{told_before}
use Rattle.core_recover.proofs.creating.write_first.Goals as goal

pub commit-requires-clause-log : goal.commit-requires-clause-log
commit-requires-clause-log g c = start_log c.args.journal.now (g.S.Store.view c.clear.new.store) c.requires.start c.in_ok-clear.ensures.clean

pub commit-requires-clause-ready : goal.commit-requires-clause-ready
commit-requires-clause-ready g c = start_ready c.args.journal.now (g.S.Store.view c.clear.new.store) c.requires.start c.in_ok-clear.ensures.blank

pub returns-in_err-clear-clause-any_moment : goal.returns-in_err-clear-clause-any_moment
returns-in_err-clear-clause-any_moment g c = λ t due honest none.
    while_cleared t (g.S.Store.view c.args.store.now) (g.S.Store.view c.clear.new.store) (λ i since. g.met.S.Store.only_now c.args.store.now i since) none c.clear.ensures.moments

pub returns-in-Ok-clause-any_moment : goal.returns-in-Ok-clause-any_moment
returns-in-Ok-clause-any_moment g c = λ t due honest none.
    let old = g.S.Store.view c.args.store.now in
    let mid = g.S.Store.view c.clear.new.store in
    let new = g.S.Store.view c.commit.new.store in
    let still : IsTrue mid.is_honest = subst (λ (b : Bool). IsTrue b) (sym c.clear.ensures.spends.honest) honest in
    while_begun t _ old mid new (λ i since. g.met.S.Store.only_now c.args.store.now i since) none c.clear.ensures.moments
    (c.commit.ensures.any_moment None t (start_has c.args.journal.now mid c.requires.start c.in_ok-clear.ensures.blank still) due)

pub returns-in-Err-clause-any_moment : goal.returns-in-Err-clause-any_moment
returns-in-Err-clause-any_moment g c = λ t due honest none.
    let old = g.S.Store.view c.args.store.now in
    let mid = g.S.Store.view c.clear.new.store in
    let new = g.S.Store.view c.commit.new.store in
    let still : IsTrue mid.is_honest = subst (λ (b : Bool). IsTrue b) (sym c.clear.ensures.spends.honest) honest in
    while_begun t _ old mid new (λ i since. g.met.S.Store.only_now c.args.store.now i since) none c.clear.ensures.moments
    (c.commit.ensures.any_moment None t (start_has c.args.journal.now mid c.requires.start c.in_ok-clear.ensures.blank still) due)

pub returns-in-Ok-clause-begun : goal.returns-in-Ok-clause-begun
returns-in-Ok-clause-begun g c = λ t due honest.
    let mid = g.S.Store.view c.clear.new.store in
    let new = g.S.Store.view c.commit.new.store in
    let still : IsTrue mid.is_honest = subst (λ (b : Bool). IsTrue b) (sym c.clear.ensures.spends.honest) honest in
    let has = start_has c.args.journal.now mid c.requires.start c.in_ok-clear.ensures.blank still in
    begun_so c.args.journal.now c.commit.new.journal t mid new c.requires.start c.commit.ensures.area c.in_ok-clear.ensures.blank c.in_ok-clear.ensures.clean c.commit.ensures.spends.tells
    (c.commit.ensures.any_moment None t has due) c.commit.ensures.elsewhere c.in-Ok.ensures.durable (c.in-Ok.ensures.acknowledged None t has due)

pub returns-in-Ok-clause-reads : goal.returns-in-Ok-clause-reads
returns-in-Ok-clause-reads g c = λ t due after told.
    let mid = g.S.Store.view c.clear.new.store in
    let new = g.S.Store.view c.commit.new.store in
    let before = told_before mid new after c.commit.ensures.spends.tells told in
    c.in-Ok.ensures.committed before.0 before.1 after told None t (start_reads c.args.journal.now before.0 c.requires.start (c.in_ok-clear.ensures.clean before.0 before.1)) due

pub returns-in-Ok-clause-none : goal.returns-in-Ok-clause-none
returns-in-Ok-clause-none g c = files_none (g.S.Store.view c.clear.new.store) (g.S.Store.view c.commit.new.store) _ c.commit.ensures.spends.tells c.in_ok-clear.ensures.clean c.commit.ensures.elsewhere

pub returns-in-Ok-clause-index : goal.returns-in-Ok-clause-index
returns-in-Ok-clause-index g c = index_elsewhere (g.S.Store.view c.clear.new.store) (g.S.Store.view c.commit.new.store) _ c.requires.start.area c.commit.ensures.spends.tells c.in_ok-clear.ensures.index c.commit.ensures.elsewhere

pub returns-in-Ok-clause-each_index : goal.returns-in-Ok-clause-each_index
returns-in-Ok-clause-each_index g c = λ t due honest.
    let mid = g.S.Store.view c.clear.new.store in
    let new = g.S.Store.view c.commit.new.store in
    let still : IsTrue mid.is_honest = subst (λ (b : Bool). IsTrue b) (sym c.clear.ensures.spends.honest) honest in
    let has = start_has c.args.journal.now mid c.requires.start c.in_ok-clear.ensures.blank still in
    each_joined mid new _ t c.requires.start.area (c.in_ok-clear.ensures.each_index honest) (c.commit.ensures.any_moment None t has due)
