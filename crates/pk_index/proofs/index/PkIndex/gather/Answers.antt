use Rattle.std.proofs.Common.{◌≡◌, ℕ, ap, subst, sym, ◌∙◌, ◌∷◌, ◌-◌, ◌&&◌, ◌==◌, not, nat_lt, if◌then◌else◌, false, arith, length, take}
use Rattle.std.specs.FinMap.{entries}
use Rattle.index_level0.specs.Levels.{LevelWithRoom}
use Rattle.index_levels.specs.Levels.{merged}
use Rattle.pk_index.specs.Files.{OneDamaged}
use Rattle.pk_index.specs.Shown.{HaveLevels, index_of}
use Rattle.pk_index.proofs.IndexFacts.{same_number}
use Rattle.pk_index.proofs.MergedFacts.{all_for, all_written, if_fewer, if_some, kept_fewer, kept_more, newest_written, places_for}
use Rattle.pk_index.proofs.SameFacts.{of_damage}
use Rattle.pk_index.proofs.index.PkIndex.gather.Goals as goal
use Rattle.pk_index.proofs.index.PkIndex.gather.Goals.{then-count-most, else-count-most, else-count-most-2-via-then-count-most-2+else-keep-eq0, else-count-most-2-via-else-count-most-2}

pub returns-then-keep-eq0-clause-entries : goal.returns-then-keep-eq0-clause-entries
returns-then-keep-eq0-clause-entries g c files have =
    let inside = subst (λ fs. HaveLevels g.F.FileLevel.has_level fs files) (λ i. (sym c.self.view_is i).files) have in
    let lent = subst (λ fs. HaveLevels g.F.FileLevel.has_level fs files) (sym c.deref_mut.ensures.value) inside in
    let number = same_number g.F.FileLevel.has_level c.args.self.now.files files have in
    let n = c.mark-count.result - c.if-count-most.kept in
    let count = c.mark-count.ensures.count in
    all_written (index_of c.args.self.now.level0 files) c.args.keep c.args.most c.in-Ok.all.items c.places.result.items
    (omega (arith, count, number)) (omega arith) n
    (elim c.if-count-most.branch [ then-count-most w ↦ omega (arith, count, number) | else-count-most w ↦ omega (arith, count, number) ])
    (c.in-Ok.ensures.entries files lent
    ∙ ap (λ (l : LevelWithRoom). entries (merged (l.level ∷ take n files))) (λ i. (c.self.view_is i).level0))
    c.places.ensures.places

pub returns-clause-entries : goal.returns-clause-entries
returns-clause-entries g c files have =
    let inside = subst (λ fs. HaveLevels g.F.FileLevel.has_level fs files) (λ i. (sym c.self.view_is i).files) have in
    let lent = subst (λ fs. HaveLevels g.F.FileLevel.has_level fs files) (sym c.deref_mut.ensures.value) inside in
    let number = same_number g.F.FileLevel.has_level c.args.self.now.files files have in
    let n = c.mark-count.result - c.if-count-most.kept in
    let count = c.mark-count.ensures.count in
    let same : c.mark-count.result ≡ length files = omega (arith, count, number) in
    let some : (not (nat_lt (length files) c.args.most) && (c.args.keep == 0)) ≡ false =
    elim c.else-count-most-2.branch [
      | else-count-most-2-via-then-count-most-2+else-keep-eq0 w ↦ if_some (length files) c.args.most c.args.keep w.if-keep-eq0.false
      | else-count-most-2-via-else-count-most-2 w ↦ if_fewer (length files) c.args.most c.args.keep (omega (arith, same))
    ] in
    newest_written (index_of c.args.self.now.level0 files) c.args.keep c.args.most c.in-Ok.all.items some n
    (elim c.if-count-most.branch [
      | then-count-most w ↦ let k = kept_fewer (length files) c.args.most c.args.keep (omega (arith, same)) in omega (arith, same, k)
      | else-count-most w ↦ let k = kept_more (length files) c.args.most c.args.keep (omega (arith, same)) in omega (arith, same, k)
    ])
    (c.in-Ok.ensures.entries files lent
    ∙ ap (λ (l : LevelWithRoom). entries (merged (l.level ∷ take n files))) (λ i. (c.self.view_is i).level0))

pub returns-then-keep-eq0-clause-listed : goal.returns-then-keep-eq0-clause-listed
returns-then-keep-eq0-clause-listed g c =
    let told = c.in-Ok.ensures.listed in
    let count = c.mark-count.ensures.count in
    let n = c.mark-count.result - c.if-count-most.kept in
    let lent = subst (λ fs. HaveLevels g.F.FileLevel.reads_as (take n fs) told.0) (c.deref_mut.ensures.value ∙ (λ i. (c.self.view_is i).files)) told.1 in (
      told.0,
      subst (λ (m : ℕ). HaveLevels g.F.FileLevel.reads_as (take (m - c.if-count-most.kept) c.args.self.now.files) told.0) count lent,
      places_for (length c.args.self.now.files) c.args.keep c.args.most (c.args.self.now.level0.level ∷ told.0) c.in-Ok.all.items c.places.result.items
          (omega (arith, count)) (omega arith)
          (told.2 ∙ ap (λ (l : LevelWithRoom). entries (merged (l.level ∷ told.0))) (λ i. (c.self.view_is i).level0)) c.places.ensures.places,
    )

pub returns-clause-listed : goal.returns-clause-listed
returns-clause-listed g c =
    let told = c.in-Ok.ensures.listed in
    let count = c.mark-count.ensures.count in
    let n = c.mark-count.result - c.if-count-most.kept in
    let lent = subst (λ fs. HaveLevels g.F.FileLevel.reads_as (take n fs) told.0) (c.deref_mut.ensures.value ∙ (λ i. (c.self.view_is i).files)) told.1 in
    let some : (not (nat_lt (length c.args.self.now.files) c.args.most) && (c.args.keep == 0)) ≡ false =
    elim c.else-count-most-2.branch [
      | else-count-most-2-via-then-count-most-2+else-keep-eq0 w ↦ if_some (length c.args.self.now.files) c.args.most c.args.keep w.if-keep-eq0.false
      | else-count-most-2-via-else-count-most-2 w ↦ if_fewer (length c.args.self.now.files) c.args.most c.args.keep (omega (arith, count))
    ] in (
      told.0,
      subst (λ (m : ℕ). HaveLevels g.F.FileLevel.reads_as (take (m - c.if-count-most.kept) c.args.self.now.files) told.0) count lent,
      all_for (length c.args.self.now.files) c.args.keep c.args.most (c.args.self.now.level0.level ∷ told.0) c.in-Ok.all.items some
          (told.2 ∙ ap (λ (l : LevelWithRoom). entries (merged (l.level ∷ told.0))) (λ i. (c.self.view_is i).level0)),
    )

pub returns-in-Err-clause-damaged : goal.returns-in-Err-clause-damaged
returns-in-Err-clause-damaged g c =
    let count = c.mark-count.ensures.count in
    let n = c.mark-count.result - c.if-count-most.kept in
    let end = if nat_lt (length c.args.self.now.files) c.args.most then length c.args.self.now.files else c.args.keep in
    let kept : c.if-count-most.kept ≡ end =
    elim c.if-count-most.branch [
      | then-count-most w ↦ let k = kept_fewer (length c.args.self.now.files) c.args.most c.args.keep (omega (arith, count)) in omega (arith, count, k)
      | else-count-most w ↦ let k = kept_more (length c.args.self.now.files) c.args.most c.args.keep (omega (arith, count)) in omega (arith, count, k)
    ] in
    of_damage c.in-Err.fault (λ shown. OneDamaged (λ f. g.F.FileLevel.damaged f shown) (take n c.deref_mut.result.now))
    (λ shown. OneDamaged (λ f. g.F.FileLevel.damaged f shown) (take (length c.args.self.now.files - end) c.args.self.now.files))
    (λ shown is. subst (λ (m : ℕ). OneDamaged (λ f. g.F.FileLevel.damaged f shown) (take m c.args.self.now.files)) (omega (arith, count, kept))
    (subst (λ fs. OneDamaged (λ f. g.F.FileLevel.damaged f shown) (take n fs)) (c.deref_mut.ensures.value ∙ (λ i. (c.self.view_is i).files)) is))
    c.in-Err.ensures.damaged
