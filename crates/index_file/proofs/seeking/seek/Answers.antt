use Rattle.std.proofs.Common.{ap, arith, length, List, ℕ, Some}
use Rattle.std.proofs.lemmas.List.{length-drop}
use Rattle.index_level0.specs.Levels.{Entry}
use Rattle.std.specs.Prelude.{Option}
use Rattle.index_file.proofs.ReadingFacts.{rest_is}
use Rattle.index_file.proofs.SequenceFacts.{bucket_has, too_short}
use Rattle.index_file.proofs.SeekFacts.{all_left, found_here, left_on, none_found, none_missed}
use Rattle.index_file.proofs.seeking.seek.Goals as goal

pub returns-in_err-count : goal.returns-in_err-count
returns-in_err-count c es is = absurd (too_short c.args.bytes.now es c.in_err-count.ensures.none is)

pub loop-n-init : goal.loop-n-init
loop-n-init c =
    let some = c.in_ok-count.ensures.some in
    record {
      inside = some.1;
      left = λ es is. all_left c.args.bytes.now c.args.key.now c.in_ok-count.count es (bucket_has c.args.bytes.now c.in_ok-count.count es some.0 some.2 is);
    }

pub returns-in-Found : goal.returns-in-Found
returns-in-Found c es is =
    let some = c.in_ok-count.ensures.some in
    let has = bucket_has c.args.bytes.now c.in_ok-count.count es some.0 some.2 is in
    ap (λ (o : Option Entry). Some o)
    (found_here c.args.bytes.now c.args.key.now c.loop-n._n c.loop-n.at es c.in-Found.place (omega (arith, c.loop-n-test.true, has.number)) (c.loop-n.invariant.left es is) c.in-Found.ensures.sees)

pub returns-in-NoEntry : goal.returns-in-NoEntry
returns-in-NoEntry c es is =
    let some = c.in_ok-count.ensures.some in
    let has = bucket_has c.args.bytes.now c.in_ok-count.count es some.0 some.2 is in
    absurd (none_missed c.args.bytes.now c.args.key.now c.loop-n._n c.loop-n.at es (omega (arith, c.loop-n-test.true, has.number)) (c.loop-n.invariant.left es is) c.in-NoEntry.ensures.sees)

pub loop-n-preserved : goal.loop-n-preserved
loop-n-preserved c =
    let bytes = c.args.bytes.now in
    let some = c.in_ok-count.ensures.some in
    record {
      inside = omega (arith, c.in-Other.ensures.within, c.loop-n.invariant.inside, ap (λ (xs : List ℕ). length xs) (rest_is c.loop-n.at bytes), length-drop c.loop-n.at bytes);
      left = λ es is.
          let has = bucket_has bytes c.in_ok-count.count es some.0 some.2 is in
          left_on bytes c.args.key.now c.loop-n._n c.loop-n.at c.in-Other.taken es (omega (arith, c.loop-n-test.true, has.number)) (c.loop-n.invariant.left es is) c.in-Other.ensures.sees;
    }

pub returns : goal.returns
returns c es is =
    let some = c.in_ok-count.ensures.some in
    let has = bucket_has c.args.bytes.now c.in_ok-count.count es some.0 some.2 is in
    ap (λ (o : Option Entry). Some o)
    (none_found c.args.bytes.now c.args.key.now c.loop-n._n c.loop-n.at c.in_ok-count.count es (omega (arith, c.loop-n-test.false, has.number)) (c.loop-n.invariant.left es is))
