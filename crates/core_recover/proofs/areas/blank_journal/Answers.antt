use Rattle.std.proofs.Common.{sym, subst, IsTrue, Bool, arith}
use Rattle.core_recover.proofs.AreaFacts.{blanks_then, both_synced, either_elsewhere, files_elsewhere, files_then, in_both, on_so, synced_elsewhere}
use Rattle.core_recover.proofs.areas.blank_journal.Goals as goal

pub returns-clause-moments : goal.returns-clause-moments
returns-clause-moments g c =
    in_both (g.S.Store.view c.args.store.now) (g.S.Store.view c.blank_empty.new.store) (g.S.Store.view c.blank_empty-2.new.store) c.blank_empty.ensures.spends.tells c.in_ok-blank_empty.ensures.seen c.blank_empty.ensures.moments c.blank_empty-2.ensures.moments

pub returns-clause-synced : goal.returns-clause-synced
returns-clause-synced g c =
    let old = g.S.Store.view c.args.store.now in
    let one = g.S.Store.view c.blank_empty.new.store in
    let two = g.S.Store.view c.blank_empty-2.new.store in
    on_so c.blank_empty-2.result _ _ (λ second was. both_synced two
    (synced_elsewhere 1 0 one two (λ e. omega arith) c.blank_empty-2.ensures.spends.tells c.blank_empty-2.ensures.crash c.blank_empty-2.ensures.elsewhere (c.in_ok-blank_empty.ensures.synced (was 0 (omega arith))))
    (second (either_elsewhere 0 1 old one (λ e. omega arith) c.blank_empty.ensures.spends.tells c.blank_empty.ensures.crash c.blank_empty.ensures.elsewhere (was 1 (omega arith))))) c.blank_empty-2.ensures.synced

pub returns-clause-still : goal.returns-clause-still
returns-clause-still g c = λ honest.
    let old = g.S.Store.view c.args.store.now in
    let one = g.S.Store.view c.blank_empty.new.store in
    let two = g.S.Store.view c.blank_empty-2.new.store in
    let still : IsTrue one.is_honest = subst (λ (b : Bool). IsTrue b) (sym c.blank_empty.ensures.spends.honest) honest in
    blanks_then old one two c.blank_empty-2.ensures.spends.tells (c.blank_empty.ensures.still honest) (c.blank_empty-2.ensures.still still)

pub returns-in_err-blank_empty-clause-files : goal.returns-in_err-blank_empty-clause-files
returns-in_err-blank_empty-clause-files g c = files_elsewhere 0 (g.S.Store.view c.args.store.now) (g.S.Store.view c.blank_empty.new.store) c.blank_empty.ensures.elsewhere

pub returns-clause-files : goal.returns-clause-files
returns-clause-files g c =
    let old = g.S.Store.view c.args.store.now in
    let one = g.S.Store.view c.blank_empty.new.store in
    let two = g.S.Store.view c.blank_empty-2.new.store in
    files_then old one two c.blank_empty-2.ensures.spends.tells (files_elsewhere 0 old one c.blank_empty.ensures.elsewhere) (files_elsewhere 1 one two c.blank_empty-2.ensures.elsewhere)
