use Rattle.std.proofs.Common.{◌≡◌, ℕ, [], Option, Some, None, MatchOption, IfSome, subst, sym, ap, ◌∙◌, inr}
use Rattle.std.specs.Result.{IfErr, IfOk}
use Rattle.std.specs.declared.result.Result.{Result}
use Rattle.std.specs.declared.result.Result.TheVariants.{Ok, Err}
use Rattle.dev_traits.specs.Image.{area_of}
use Rattle.dev_traits.proofs.Moments.{calm_then}
use Rattle.gated_log.specs.Log.{EndsAt}
use Rattle.gated_log.proofs.Bytes.{ends_is_log}
use Rattle.version_journal.proofs.ReadImages.{read_from, reads_as, settled_so}
use Rattle.version_journal.proofs.reading.read_records.Goals as goal

three : {T E : Type 0} (r : Result T E) (P Q S R : T → Type 0) → IfOk r P → IfOk r Q → IfOk r S → ((x : T) → P x → Q x → S x → R x) → IfOk r R
three (Ok x) P Q S R p q s f = f x p q s
three (Err e) P Q S R p q s f = tt

three_err : {T E : Type 0} (r : Result T E) (P Q S R : E → Type 0) → IfErr r P → IfErr r Q → IfErr r S → ((x : E) → P x → Q x → S x → R x) → IfErr r R
three_err (Ok x) P Q S R p q s f = tt
three_err (Err e) P Q S R p q s f = f e p q s

matched : {T : Type 0} (o : Option T) (x : T) (P : Type 0) (Q : T → Type 0) → o ≡ Some x → MatchOption o P Q → Q x
matched {T} o x P Q e m = subst (λ (y : Option T). MatchOption y P Q) e m

there : {T : Type 0} (o : Option T) (x : T) (Q : T → Type 0) → o ≡ Some x → IfSome o Q → Q x
there {T} o x Q e m = subst (λ (y : Option T). IfSome y Q) e m

pub returns-in-Some-clause-read : goal.returns-in-Some-clause-read
returns-in-Some-clause-read g c = three c.journal_of.result _ _ _ _ c.journal_of.ensures.read c.journal_of.ensures.log c.journal_of.ensures.epoch (λ found read log epoch s told image seen.
    let area = there c.in_ok-found.found c.in-Some.contents _ c.in-Some.is c.in_ok-found.ensures.area in
    let ends = matched c.in_ok-found.found c.in-Some.contents _ _ c.in-Some.is (c.in_ok-found.ensures.found image seen) in
    let from = read_from found.journal c.in-Some.contents.bodies.items found.records.items c.in-Some.contents.log.area 0 s (ap (λ l. l.area) log) area epoch read told in
    reads_as image found.journal c.in-Some.contents.bodies.items found.records.items s from
    (subst (λ (n : ℕ). EndsAt c.in-Some.contents.bodies.items n (area_of image 0)) (sym (ap (λ l. l.end) log)) ends) (c.in_ok-expect_no_other.ensures.none image (c.log_in_force.ensures.calm.seen ∙ seen)))

pub returns-in-Some-clause-settled : goal.returns-in-Some-clause-settled
returns-in-Some-clause-settled g c honest zero_ one = three c.journal_of.result _ _ _ _ c.journal_of.ensures.log c.journal_of.ensures.log (returns-in-Some-clause-read g c) (λ found log again reads s told.
    let image = g.met.S.Store.honest_reads c.args.store.now honest in
    let area = there c.in_ok-found.found c.in-Some.contents _ c.in-Some.is c.in_ok-found.ensures.area in
    settled_so (g.S.Store.view c.args.store.now) (g.S.Store.view c.expect_no_other.new.store) image.0 found.journal s
    (calm_then _ (g.S.Store.view c.log_in_force.new.store) _ c.log_in_force.ensures.calm c.expect_no_other.ensures.calm) honest image.1 zero_ one (ap (λ l. l.area) log ∙ area) (reads s told image.0 image.1))

pub returns-in-Some-clause-damaged : goal.returns-in-Some-clause-damaged
returns-in-Some-clause-damaged g c = three_err c.journal_of.result _ _ _ _ c.journal_of.ensures.damaged c.journal_of.ensures.nothing c.journal_of.ensures.some (λ e damaged nothing some d is. (
  0,
  damaged d is,
  λ image seen.
      let ends = matched c.in_ok-found.found c.in-Some.contents _ _ c.in-Some.is (c.in_ok-found.ensures.found image seen) in
      inr (c.in-Some.contents.bodies.items, ends_is_log c.in-Some.contents.bodies.items c.in-Some.contents.log.end (area_of image 0) ends, some d is, nothing d is),
))
