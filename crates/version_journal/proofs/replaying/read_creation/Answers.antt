use Rattle.std.proofs.Common.{◌≡◌, Option, Some, MatchOption, subst, sym, ◌∙◌}
use Rattle.version_journal.proofs.BodyFacts.{begun_alone}
use Rattle.version_journal.proofs.replaying.read_creation.Goals as goal

matched : {T : Type 0} (o : Option T) (x : T) (P : Type 0) (Q : T → Type 0) → o ≡ Some x → MatchOption o P Q → Q x
matched {T} o x P Q e m = subst (λ (y : Option T). MatchOption y P Q) e m

pub returns-then-is_creation : goal.returns-then-is_creation
returns-then-is_creation c =
    let found = matched c.in_ok-told.field-0 c.in-Some.told _ _ c.in-Some.is c.in_ok-told.ensures in
    begun_alone c.args.body.now c.in-Some.told found.0 found.1 (sym c.is_creation.ensures ∙ c.if-is_creation.true)
