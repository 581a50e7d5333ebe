use Rattle.std.proofs.Common.{◌≡◌, ℕ, ◌+◌, ◌-◌, ◌≤◌, List, [], ◌∷◌, ◌++◌, length, take, drop, get_or, Option, Some, None, MatchOption, Bool, true, false, subst, sym, ap, ◌∙◌}
use Rattle.journal_form.specs.Meaning.{step}
use Rattle.journal_bytes.specs.ReadRecords.{IsBodyOf}
use Rattle.journal_replay.specs.Follow.{Goes}
use Rattle.journal_replay.proofs.LoopFacts.{head_is}
use Rattle.version_journal.specs.Reading.{SoFar}
use Rattle.version_journal.proofs.BodyFacts.{more_at, no_body_stops, no_step_stops, none_first, so_far_first, stops_at}
use Rattle.version_journal.proofs.replaying.replay.Goals as goal

matched : {T : Type 0} (o : Option T) (x : T) (P : Type 0) (Q : T → Type 0) → o ≡ Some x → MatchOption o P Q → Q x
matched {T} o x P Q e m = subst (λ (y : Option T). MatchOption y P Q) e m

unmatched : {T : Type 0} (o : Option T) (P : Type 0) (Q : T → Type 0) → o ≡ None → MatchOption o P Q → P
unmatched {T} o P Q e m = subst (λ (y : Option T). MatchOption y P Q) e m

item : (xs : List (List ℕ)) (x d : List ℕ) → x ≡ get_or xs 0 d → 1 ≤ length xs → xs ≡ x ∷ take (length xs - 1) (drop 1 xs)
item xs x d e h = head_is d xs h ∙ ap (λ (y : List ℕ). y ∷ take (length xs - 1) (drop 1 xs)) (sym e)

pub returns-in-None : goal.returns-in-None
returns-in-None c = none_first c.args.bodies.now _ _ (item c.args.bodies.now _ _ c.first-item.is c.in-len1-up.len_at_least) (unmatched c.in_ok-creation.field-0 _ _ c.in-None.is c.in_ok-creation.ensures)

pub loop-left-init : goal.loop-left-init
loop-left-init c =
    subst (λ (items : List _). SoFar c.args.bodies.now (take (length c.args.bodies.now - 1) (drop 1 c.args.bodies.now)) items c.begin-replay.result) (sym (c.in_ok-push.ensures.items ∙ ap (λ (items : List _). items ++ c.in-Some.creation ∷ []) c.in_ok-records.ensures.items))
    (so_far_first c.args.bodies.now _ _ c.in-Some.creation c.begin-replay.result (item c.args.bodies.now _ _ c.first-item.is c.in-len1-up.len_at_least)
    (matched c.in_ok-creation.field-0 c.in-Some.creation _ _ c.in-Some.is c.in_ok-creation.ensures) c.begin-replay.ensures)

pub returns-in-None-2 : goal.returns-in-None-2
returns-in-None-2 c =
    stops_at c.args.bodies.now c.loop-left.left.now _ _ c.loop-left.records.items c.loop-left.replay c.loop-left.invariant (item c.loop-left.left.now _ _ c.body-item.is c.in-len1-up-left.len_at_least)
    (no_body_stops _ c.loop-left.invariant.s (c.edit.result + 1) (ap (λ (n : ℕ). n + 1) (c.edit.ensures.edit ∙ c.loop-left.invariant.follows.edit)) (unmatched c.in_ok-told.field-0 _ _ c.in-None-2.is c.in_ok-told.ensures))

pub returns-then-not-branch : goal.returns-then-not-branch
returns-then-not-branch c =
    let found = matched c.in_ok-told.field-0 c.in-Some-2.told _ _ c.in-Some-2.is c.in_ok-told.ensures in
    stops_at c.args.bodies.now c.loop-left.left.now _ _ c.loop-left.records.items c.loop-left.replay c.loop-left.invariant (item c.loop-left.left.now _ _ c.body-item.is c.in-len1-up-left.len_at_least)
    (no_step_stops _ c.loop-left.invariant.s (c.edit.result + 1) c.in-Some-2.told (ap (λ (n : ℕ). n + 1) (c.edit.ensures.edit ∙ c.loop-left.invariant.follows.edit)) found.0
    (subst (λ (b : Bool). Goes b (step c.loop-left.invariant.s c.in-Some-2.told) c.step.new.self) c.if-not-branch.true (c.in_ok-step.ensures c.loop-left.invariant.s c.loop-left.invariant.follows)))

pub loop-left-preserved : goal.loop-left-preserved
loop-left-preserved c =
    let found = matched c.in_ok-told.field-0 c.in-Some-2.told _ _ c.in-Some-2.is c.in_ok-told.ensures in
    subst (λ (items : List _). SoFar c.args.bodies.now (take (length c.loop-left.left.now - 1) (drop 1 c.loop-left.left.now)) items c.step.new.self) (sym c.in_ok-push-2.ensures.items)
    (more_at c.args.bodies.now c.loop-left.left.now _ _ c.loop-left.records.items c.in-Some-2.told c.loop-left.replay c.step.new.self c.loop-left.invariant (item c.loop-left.left.now _ _ c.body-item.is c.in-len1-up-left.len_at_least)
    (subst (λ (n : ℕ). IsBodyOf (n + 1) c.in-Some-2.told c.body-item.result) c.edit.ensures.edit found.0) found.1
    (subst (λ (b : Bool). Goes b (step c.loop-left.invariant.s c.in-Some-2.told) c.step.new.self) c.if-not-branch.false (c.in_ok-step.ensures c.loop-left.invariant.s c.loop-left.invariant.follows)))
