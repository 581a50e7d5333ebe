use Rattle.std.proofs.Common.{◌∙◌, arith, length, refl, sym, subst}
use Rattle.std.proofs.lemmas.Bool.{eqb-false}
use Rattle.row_merge.specs.Brackets.{IsBracket}
use Rattle.row_merge.specs.Cursors.{AllFit, front_at}
use Rattle.row_merge.proofs.BracketFacts.{stale_of}
use Rattle.snapshot_scan.proofs.CountingFacts.{left_few}
use Rattle.snapshot_scan.proofs.LeftFacts.{all_fit}
use Rattle.snapshot_scan.proofs.feeds.start.Goals as goal

pub bracket_of-requires-clause-fit : goal.bracket_of-requires-clause-fit
bracket_of-requires-clause-fit g c =
    subst (λ s. AllFit s c.deref.result.now) (sym c.schema.ensures)
    (subst (AllFit c.fill.new.snapshot.schema) (sym c.deref.ensures.value) (all_fit c.fill.new.snapshot c.fill.new.cursors.items c.in_ok-fill.ensures.are))

pub returns-clause-are : goal.returns-clause-are
returns-clause-are g c =
    let cs = c.fill.new.cursors.items in
    let some = eqb-false c.fill.new.cursors.len 0 (sym c.is_empty.ensures ∙ c.if-is_empty.false) in
    let long = c.fill.new.cursors.ok.0 in
    let count = c.len-count.ensures in
    let end = c.in_ok-bracket.ensures.end in
    record {
      are = c.in_ok-fill.ensures.are;
      settled = λ i ne. c.in_ok-fill.ensures.none_due i;
      played = record {
        there = omega arith;
        stale = stale_of c.fill.new.snapshot.schema (length cs) 0 (front_at cs) (front_at cs) (λ i ne. refl) c.in_ok-bracket.bracket
            (subst (λ s. IsBracket s (front_at cs) (length cs) c.in_ok-bracket.bracket) c.schema.ensures
            (subst (λ ds. IsBracket c.schema.result.now (front_at ds) (length ds) c.in_ok-bracket.bracket) c.deref.ensures.value c.in_ok-bracket.ensures.played));
        from = c.in_ok-bracket.ensures.start;
        to = omega arith;
      };
      empty = tt;
      lasts = tt;
      counted = tt;
    }

pub returns-clause-once : goal.returns-clause-once
returns-clause-once g c =
    let few = left_few c.args.snapshot.now.parts c.in_ok-cursors.cursors.items in
    let once = c.in_ok-fill.ensures.once in
    omega arith

pub returns-then-is_empty-clause-once : goal.returns-then-is_empty-clause-once
returns-then-is_empty-clause-once g c =
    let few = left_few c.args.snapshot.now.parts c.in_ok-cursors.cursors.items in
    let once = c.in_ok-fill.ensures.once in
    omega arith
