use Rattle.std.proofs.Common.{◌≡◌, ◌∙◌, ap, sym, subst, List, length}
use Rattle.std.specs.Prelude.{All}
use Rattle.pk_model.specs.Tables.{key_named}
use Rattle.pk_model.specs.declared.calls.Op.{Op}
use Rattle.core_publish.specs.declared.lines.Rank.{Rank}
use Rattle.core_publish.specs.Leaving.{HasResults}
use Rattle.core_publish.specs.Lines.{IsOrder, IsRanked, IsShortKey, lines_in}
use Rattle.core_publish.proofs.SettleFacts.{settled, short-keys}
use Rattle.core_publish.proofs.prepared.settled.Goals as goal

pub ranked-requires : goal.ranked-requires
ranked-requires c =
    subst (All (λ op. IsShortKey c.args.schema.now (key_named op))) (sym c.deref.ensures.value)
    (short-keys c.args.schema.now c.args.load c.into_vec-ops.result.items c.into_vec-ops.ensures c.requires.lawful)

pub returns : goal.returns
returns c =
    let s = c.args.schema.now in
    let ops = c.into_vec-ops.result.items in
    let ranks = c.in_ok-ranks.ranks.items in
    let order = c.in_ok-order.order.items in
    let rows = c.in_ok-results.results.rows.items in
    let entries = c.in_ok-results.results.entries.items in
    let valid = c.columns-columns.ensures.valid in
    let same : c.deref.result.now ≡ c.deref-2.result.now = c.deref.ensures.value ∙ sym c.deref-2.ensures.value in
    let found = c.in_ok-order.ensures s valid (subst (λ (os : List Op). All (IsRanked s os) ranks) same c.in_ok-ranks.ensures.ranked) c.in_ok-ranks.ensures.counted (c.in_ok-ranks.ensures.each ∙ ap length same) in
    let is : IsOrder s ops order = subst (λ (os : List Op). IsOrder s os order) c.deref-2.ensures.value found in
    let left : HasResults s (lines_in ops order) rows entries = subst (λ (o : List Rank). HasResults s (lines_in ops o) rows entries) c.deref-3.ensures.value c.in_ok-results.ensures in
    let h = settled s c.args.load c.requires.lawful c.requires.whole ops c.into_vec-ops.ensures (lines_in ops order) is.sorted rows entries left valid in
    record { rows = h.rows_are; entries = h.moves; fit = h.fit; rise = h.rise; few = h.few }
