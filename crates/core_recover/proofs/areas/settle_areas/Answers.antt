use Rattle.std.proofs.Common.{◌≡◌, ◌∙◌, sym, subst, IsTrue, Bool, arith}
use Rattle.core_recover.proofs.AreaFacts.{blanked_like, files_still, none_blanked, on_so, synced_like, while_blanked, while_synced}
use Rattle.core_recover.specs.Areas.{IsLike}
use Rattle.core_recover.proofs.areas.settle_areas.Goals as goal

pub returns-in_err-sync_areas-clause-any_moment : goal.returns-in_err-sync_areas-clause-any_moment
returns-in_err-sync_areas-clause-any_moment g c = λ honest image told.
    while_synced (IsLike image) (g.S.Store.view c.args.store.now) (g.S.Store.view c.sync_areas.new.store) (λ i since. g.met.S.Store.only_now c.args.store.now i since) c.sync_areas.ensures.crash

pub returns-clause-any_moment : goal.returns-clause-any_moment
returns-clause-any_moment g c = λ honest image told.
    let old = g.S.Store.view c.args.store.now in
    let mid = g.S.Store.view c.sync_areas.new.store in
    let new = g.S.Store.view c.blank_journal.new.store in
    let still : IsTrue mid.is_honest = subst (λ (b : Bool). IsTrue b) (sym c.sync_areas.ensures.spends.honest) honest in
    let like = synced_like old mid image c.sync_areas.ensures.seen told c.in_ok-sync_areas.ensures.synced (g.met.S.Store.honest_empty c.sync_areas.new.store still) (g.met.S.Store.honest_files c.sync_areas.new.store still) in
    while_blanked old mid new image (λ i since. g.met.S.Store.only_now c.args.store.now i since) c.sync_areas.ensures.crash like (c.blank_journal.ensures.moments image (c.sync_areas.ensures.seen ∙ told))

pub returns-clause-like : goal.returns-clause-like
returns-clause-like g c = on_so c.blank_journal.result _ _ (λ seen honest image told.
    let old = g.S.Store.view c.args.store.now in
    let mid = g.S.Store.view c.sync_areas.new.store in
    let new = g.S.Store.view c.blank_journal.new.store in
    let still : IsTrue mid.is_honest = subst (λ (b : Bool). IsTrue b) (sym c.sync_areas.ensures.spends.honest) honest in
    let like = synced_like old mid image c.sync_areas.ensures.seen told c.in_ok-sync_areas.ensures.synced (g.met.S.Store.honest_empty c.sync_areas.new.store still) (g.met.S.Store.honest_files c.sync_areas.new.store still) in
    blanked_like mid new image like (c.blank_journal.ensures.moments image (c.sync_areas.ensures.seen ∙ told))) c.blank_journal.ensures.seen

pub returns-clause-synced : goal.returns-clause-synced
returns-clause-synced g c = on_so c.blank_journal.result _ _ (λ synced. synced (λ a lt. c.in_ok-sync_areas.ensures.synced a (omega arith))) c.blank_journal.ensures.synced

pub returns-clause-seen : goal.returns-clause-seen
returns-clause-seen g c = on_so c.blank_journal.result _ _ (λ seen before told after told'. seen before (c.sync_areas.ensures.seen ∙ told) after told') c.blank_journal.ensures.seen

pub returns-in_err-sync_areas-clause-still : goal.returns-in_err-sync_areas-clause-still
returns-in_err-sync_areas-clause-still g c = λ honest. none_blanked (g.S.Store.view c.args.store.now) (g.S.Store.view c.sync_areas.new.store) c.sync_areas.ensures.seen

pub returns-clause-still : goal.returns-clause-still
returns-clause-still g c = λ honest before told after told'.
    let mid = g.S.Store.view c.sync_areas.new.store in
    let still : IsTrue mid.is_honest = subst (λ (b : Bool). IsTrue b) (sym c.sync_areas.ensures.spends.honest) honest in
    c.blank_journal.ensures.still still before (c.sync_areas.ensures.seen ∙ told) after told'

pub returns-in_err-sync_areas-clause-files : goal.returns-in_err-sync_areas-clause-files
returns-in_err-sync_areas-clause-files g c = files_still (g.S.Store.view c.args.store.now) (g.S.Store.view c.sync_areas.new.store) c.sync_areas.ensures.seen

pub returns-clause-files : goal.returns-clause-files
returns-clause-files g c = λ before told after told'. c.blank_journal.ensures.files before (c.sync_areas.ensures.seen ∙ told) after told'
