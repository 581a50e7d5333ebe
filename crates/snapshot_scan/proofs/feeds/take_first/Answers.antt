use Rattle.std.proofs.Common.{◌∙◌, ap, arith, length, subst}
use Rattle.row_merge.specs.Brackets.{IsBracket}
use Rattle.row_merge.specs.Cursors.{front_at}
use Rattle.snapshot_scan.proofs.TakeFacts.{first_fits, first_gives, first_played, first_taken, first_there}
use Rattle.snapshot_scan.proofs.feeds.take_first.Goals as goal

pub index_mut-requires : goal.index_mut-requires
index_mut-requires c =
    let there = first_there c.args.schema.now c.args.cursors.now.items c.replay.new.self c.first-first.result
    (subst (λ cs. IsBracket c.args.schema.now (front_at cs) (length cs) c.replay.new.self) c.deref.ensures.value c.replay.ensures.played)
    (c.replay.ensures.start ∙ c.requires.played.from) (c.replay.ensures.end ∙ c.requires.played.to) c.first-first.ensures in
    let long = ap length c.deref.ensures.value in
    let same = c.deref.ensures.len in
    omega arith

pub returns-clause-gives : goal.returns-clause-gives
returns-clause-gives c =
    first_gives c.args.schema.now c.args.cursors.now.items c.replay.new.self c.first-first.result
    (subst (λ cs. IsBracket c.args.schema.now (front_at cs) (length cs) c.replay.new.self) c.deref.ensures.value c.replay.ensures.played)
    (c.replay.ensures.start ∙ c.requires.played.from) (c.replay.ensures.end ∙ c.requires.played.to) c.first-first.ensures
    c.index_mut.result.now c.pop-row.new.self c.index_mut.ensures.value c.pop-row.ensures.rest c.pop-row.result c.pop-row.ensures.row c.requires.none_due

pub returns-clause-taken : goal.returns-clause-taken
returns-clause-taken c =
    first_taken c.args.schema.now c.args.cursors.now.items c.replay.new.self c.first-first.result
    (subst (λ cs. IsBracket c.args.schema.now (front_at cs) (length cs) c.replay.new.self) c.deref.ensures.value c.replay.ensures.played)
    (c.replay.ensures.start ∙ c.requires.played.from) (c.replay.ensures.end ∙ c.requires.played.to) c.first-first.ensures
    c.index_mut.result.now c.pop-row.new.self c.index_mut.ensures.value c.pop-row.ensures.rest

pub returns-clause-played : goal.returns-clause-played
returns-clause-played c =
    first_played c.args.schema.now c.args.cursors.now.items c.replay.new.self c.first-first.result
    (subst (λ cs. IsBracket c.args.schema.now (front_at cs) (length cs) c.replay.new.self) c.deref.ensures.value c.replay.ensures.played)
    (c.replay.ensures.start ∙ c.requires.played.from) (c.replay.ensures.end ∙ c.requires.played.to) c.first-first.ensures
    c.index_mut.result.now c.pop-row.new.self c.index_mut.ensures.value c.pop-row.ensures.rest

pub returns-clause-fits : goal.returns-clause-fits
returns-clause-fits c =
    first_fits c.args.schema.now c.args.cursors.now.items c.replay.new.self c.first-first.result
    (subst (λ cs. IsBracket c.args.schema.now (front_at cs) (length cs) c.replay.new.self) c.deref.ensures.value c.replay.ensures.played)
    (c.replay.ensures.start ∙ c.requires.played.from) (c.replay.ensures.end ∙ c.requires.played.to) c.first-first.ensures
    c.index_mut.result.now c.pop-row.new.self c.index_mut.ensures.value c.pop-row.ensures.rest c.requires.fit c.pop-row.result c.pop-row.ensures.row
