use Rattle.std.proofs.Common.{◌≡◌, ◌∙◌, ap, is_some, sym}
use Rattle.std.specs.Option.{option_map}
use Rattle.dev_traits.specs.Image.{Forgets, with_files_of}
use Rattle.dev_traits.proofs.Moments.{calm_before, calm_behind}
use Rattle.core_recover.proofs.KeepFacts.{calm_forgets, forgets_none}
use Rattle.core_recover.proofs.recovering.keep_files.Goals as goal

pub returns-in_err-maker-clause-moments : goal.returns-in_err-maker-clause-moments
returns-in_err-maker-clause-moments g c = calm_forgets c.args.numbers.now (g.S.Store.view c.args.store.now) (g.S.Store.view c.maker.new.self) c.maker.ensures.calm

pub returns-in_err-maker-clause-kept : goal.returns-in_err-maker-clause-kept
returns-in_err-maker-clause-kept g c = forgets_none c.args.numbers.now (g.S.Store.view c.args.store.now) (g.S.Store.view c.maker.new.self) c.maker.ensures.calm.seen

pub returns-in_err-maker-clause-tells : goal.returns-in_err-maker-clause-tells
returns-in_err-maker-clause-tells g c = ap is_some c.maker.ensures.calm.seen

pub returns-in-Ok-clause-moments : goal.returns-in-Ok-clause-moments
returns-in-Ok-clause-moments g c =
    calm_before (Forgets c.args.numbers.now) (g.S.Store.view c.args.store.now) (g.S.Store.view c.maker.new.self) (g.S.Store.view c.forget_others.new.self) c.maker.ensures.calm c.forget_others.ensures.crash

pub returns-in-Ok-clause-forgot : goal.returns-in-Ok-clause-forgot
returns-in-Ok-clause-forgot g c = c.in-Ok.ensures.forgot ∙ ap (option_map (with_files_of c.args.numbers.now)) c.maker.ensures.calm.seen

pub returns-in-Ok-clause-kept : goal.returns-in-Ok-clause-kept
returns-in-Ok-clause-kept g c = λ before told after told'. c.forget_others.ensures.kept before (c.maker.ensures.calm.seen ∙ told) after told'

pub returns-in-Ok-clause-tells : goal.returns-in-Ok-clause-tells
returns-in-Ok-clause-tells g c = c.forget_others.ensures.spends.tells ∙ ap is_some c.maker.ensures.calm.seen

pub returns-in-Err-clause-moments : goal.returns-in-Err-clause-moments
returns-in-Err-clause-moments g c =
    let v0 = g.S.Store.view c.args.store.now in let v1 = g.S.Store.view c.maker.new.self in let v2 = g.S.Store.view c.forget_others.new.self in let v3 = g.S.Store.view c.give_back.new.self in
    calm_behind (Forgets c.args.numbers.now) v0 v2 v3 (calm_before (Forgets c.args.numbers.now) v0 v1 v2 c.maker.ensures.calm c.forget_others.ensures.crash) c.give_back.ensures.calm

pub returns-in-Err-clause-kept : goal.returns-in-Err-clause-kept
returns-in-Err-clause-kept g c = λ before told after told'. c.forget_others.ensures.kept before (c.maker.ensures.calm.seen ∙ told) after (sym c.give_back.ensures.calm.seen ∙ told')

pub returns-in-Err-clause-tells : goal.returns-in-Err-clause-tells
returns-in-Err-clause-tells g c = ap is_some c.give_back.ensures.calm.seen ∙ c.forget_others.ensures.spends.tells ∙ ap is_some c.maker.ensures.calm.seen
