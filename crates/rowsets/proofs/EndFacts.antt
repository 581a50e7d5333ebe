-- The end of a compaction leaves the map as it was.
use Rattle.std.proofs.Common.{◌≡◌, ◌↔◌, refl, ap, sym, subst, ◌∙◌, ℕ, ◌+◌, ◌-◌, List, [], ◌∷◌, ◌++◌, length, drop, Option, Some, None, Bool, true, false, not, ◌||◌, ◌==◌, cond, ◌⊎◌, inl, inr, arith, length-append, if◌then◌else◌}
use Rattle.std.specs.FinMap.{get, len}
use Rattle.std.proofs.lemmas.List.{length-drop}
use Rattle.std.proofs.lemmas.Bool.{eq-eqb, ne_eqb}
use Rattle.pk_values.specs.Schemas.{Layout, key_of}
use Rattle.pk_values.specs.declared.cells.Value.{Value}
use Rattle.pk_model.specs.Tables.{Rows}
use Rattle.index_level0.specs.declared.place.Place.{Place}
use Rattle.rowsets.specs.Live.{Part, Version, parts_of, Files, live, names, Apart, is_among, HasKey, HasRow, StandsFor, Index, IsIndex}
use Rattle.rowsets.specs.Marks.{marked, stands_in}
use Rattle.rowsets.specs.Changes.{one_rowset}
use Rattle.rowsets.specs.Plans.{KeepsPlan, base_of, top_of}
use Rattle.rowsets.specs.Ending.{HasSameRows, OneMapSameRows, AreLate, compacted, EndingStands, index_after_end, EndingKeepsIndex, is_in, IndexTellsLate, RowsetsAreCounted, LeavingIsWrong, DroppingIsWrong}
use Rattle.rowsets.proofs.LiveFacts.{live-marked, names-marked, live-named, live-base, live-top, parted, unnamed, names-append, parts-append, parts-one}
use Rattle.rowsets.proofs.PlanFacts.{some_none, true_false, left_rows, first_and_last}

pub one_map_same_rows : OneMapSameRows
one_map_same_rows s old new m h g = record {
  same = λ k row. (λ r. (g.same k row).0 ((h.same k row).1 r), λ r. (h.same k row).0 ((g.same k row).1 r));
  once = g.once;
}

-- over the parts of a version: `base` has what is left of the plan, and `top` what came since
module _ (s : Layout) (rows : Files) (begun base top merged : List Part) (touched : List (List Value)) (dead : List Place) (m : Rows)
    (stands : StandsFor s (live rows (base ++ top)) m) (plan : KeepsPlan s rows begun touched base top)
    (same_rows : HasSameRows s (live rows begun) (live rows merged)) (new : Apart (base ++ top) merged) (late : AreLate s (live rows merged) touched dead) where
  -- a merged row that isn't dead
  unfoldable pub Stays : Place → List Value → Type 0
  Stays p row = (live rows merged p ≡ Some row) × (is_among touched (key_of s row) ≡ false)

  abbrev end : List Part
  end = marked dead merged ++ top

  merged_apart : Apart (marked dead merged) top
  merged_apart n named = go (names top n) refl
    where
      was : names merged n ≡ true
      was = sym (names-marked dead merged n) ∙ named

      or_true : (a b : Bool) → b ≡ true → (a || b) ≡ true
      or_true true b e = refl
      or_true false b e = e

      go : (b : Bool) → names top n ≡ b → b ≡ false
      go false e = refl
      go true e = absurd (true_false (names merged n) was (new n (names-append base top n ∙ or_true (names base n) (names top n) e)))

  from_merged : (p : Place) (row : List Value) → live rows (marked dead merged) p ≡ Some row → Stays p row
  unfolding Stays
  from_merged p row is = go (stands_in dead p) refl
    where
      go : (b : Bool) → stands_in dead p ≡ b → Stays p row
      go true e = absurd (some_none row (live rows (marked dead merged) p) is (live-marked rows dead merged p ∙ ap (λ b. cond b None (live rows merged p)) e))
      go false e =
          let was : live rows merged p ≡ Some row = sym (live-marked rows dead merged p ∙ ap (λ b. cond b None (live rows merged p)) e) ∙ is in
          (was, sym (late p row was) ∙ e)

  to_merged : (p : Place) (row : List Value) → Stays p row → live rows (marked dead merged) p ≡ Some row
  unfolding Stays
  to_merged p row h = live-marked rows dead merged p ∙ ap (λ b. cond b None (live rows merged p)) (late p row h.0 ∙ h.1) ∙ h.0

  -- what is live after the end is a merged row that stays, or a row that came since
  after : (p : Place) (row : List Value) → live rows end p ≡ Some row → Stays p row ⊎ (live rows top p ≡ Some row)
  after p row is =
      elim (parted rows (marked dead merged) top p row is) [
        | inl here ↦ inl (from_merged p row here)
        | inr there ↦ inr there
      ]

  merged_after : (p : Place) (row : List Value) → Stays p row → live rows end p ≡ Some row
  merged_after p row h = live-base rows (marked dead merged) top p row (to_merged p row h)

  top_after : (p : Place) (row : List Value) → live rows top p ≡ Some row → live rows end p ≡ Some row
  top_after p row is = live-top rows (marked dead merged) top merged_apart p row is

  base_before : (p : Place) (row : List Value) → live rows base p ≡ Some row → live rows (base ++ top) p ≡ Some row
  base_before p row is = live-base rows base top p row is

  top_before : (p : Place) (row : List Value) → live rows top p ≡ Some row → live rows (base ++ top) p ≡ Some row
  top_before p row is = live-top rows base top plan.apart p row is

  -- a merged row that stays is a row that the plan left, at another place
  left_of : (p : Place) (row : List Value) → Stays p row → (q : Place) × (live rows base q ≡ Some row)
  unfolding Stays
  left_of p row h =
      let w = (same_rows.same (key_of s row) row).1 (p, h.0, refl) in
      (w.0, (left_rows s rows begun base top touched plan w.0 row).1 (w.1, h.1))

  merged_of : (q : Place) (row : List Value) → live rows base q ≡ Some row → (p : Place) × Stays p row
  unfolding Stays
  merged_of q row is =
      let l = (left_rows s rows begun base top touched plan q row).0 is in
      let w = (same_rows.same (key_of s row) row).0 (q, l.0, refl) in
      (w.0, (w.1, l.1))

  same : (k row : List Value) → (get m k ≡ Some row) ↔ HasRow s (live rows end) k row
  same k row = (to, from)
    where
      to : get m k ≡ Some row → HasRow s (live rows end) k row
      to is =
          let h = (stands.same k row).0 is in
          elim (parted rows base top h.0 row h.1) [
            | inl left ↦ let w = merged_of h.0 row left in (w.0, merged_after w.0 row w.1, h.2)
            | inr top ↦ (h.0, top_after h.0 row top, h.2)
          ]

      from : HasRow s (live rows end) k row → get m k ≡ Some row
      from h =
          elim (after h.0 row h.1) [
            | inl stays ↦ let w = left_of h.0 row stays in (stands.same k row).1 (w.0, base_before w.0 row w.1, h.2)
            | inr top ↦ (stands.same k row).1 (h.0, top_before h.0 row top, h.2)
          ]

  -- no key stands in a merged row that stays and in a row that came since
  not_both : (p q : Place) (k r t : List Value) → Stays p r → key_of s r ≡ k → live rows top q ≡ Some t → key_of s t ≡ k → ⊥
  not_both p q k r t stays e above f =
      let w = left_of p r stays in
      let one : w.0 ≡ q = stands.once w.0 q k (r, base_before w.0 r w.1, e) (t, top_before q t above, f) in
      let below : names base q.segment ≡ true = ap (λ (x : Place). names base x.segment) (sym one) ∙ live-named rows base w.0 r w.1 in
      true_false (names top q.segment) (live-named rows top q t above) (plan.apart q.segment below)

  once : (p q : Place) (k : List Value) → HasKey s (live rows end) p k → HasKey s (live rows end) q k → p ≡ q
  unfolding Stays
  once p q k h g = go (after p h.0 h.1) (after q g.0 g.1)
    where
      go : Stays p h.0 ⊎ (live rows top p ≡ Some h.0) → Stays q g.0 ⊎ (live rows top q ≡ Some g.0) → p ≡ q
      go (inl a) (inl b) = same_rows.once p q k (h.0, a.0, h.2) (g.0, b.0, g.2)
      go (inl a) (inr b) = absurd (not_both p q k h.0 g.0 a h.2 b g.2)
      go (inr a) (inl b) = absurd (not_both q p k g.0 h.0 b g.2 a h.2)
      go (inr a) (inr b) = stands.once p q k (h.0, top_before p h.0 a, h.2) (g.0, top_before q g.0 b, g.2)

  pub parts_stand : StandsFor s (live rows end) m
  parts_stand = record { same = same; once = once }

  module _ (index placed next : Index) (exact : IsIndex s (live rows (base ++ top)) index) (places : IsIndex s (live rows merged) placed)
      (is_next : (k : List Value) → next k ≡ index_after_end touched index placed k) where
    -- a live row before the end with a touched key came since
    touched_came : (p : Place) (k : List Value) → is_among touched k ≡ true → HasKey s (live rows (base ++ top)) p k → HasKey s (live rows top) p k
    touched_came p k named h =
        elim (parted rows base top p h.0 h.1) [
          | inl left ↦ absurd (true_false (is_among touched k) named (ap (is_among touched) (sym h.2) ∙ ((left_rows s rows begun base top touched plan p h.0).0 left).1))
          | inr above ↦ (h.0, above, h.2)
        ]

    pub parts_index : IsIndex s (live rows end) next
    unfolding Stays
    parts_index k p = go (is_among touched k) refl
      where
        at : (b : Bool) → is_among touched k ≡ b → next k ≡ cond b (index k) (placed k)
        at b e = is_next k ∙ ap (λ b. cond b (index k) (placed k)) e

        go : (b : Bool) → is_among touched k ≡ b → (next k ≡ Some p) ↔ HasKey s (live rows end) p k
        go true e = (
          λ is. let h = touched_came p k e ((exact k p).0 (sym (at true e) ∙ is)) in (h.0, top_after p h.0 h.1, h.2),
          λ h. at true e ∙ elim (after p h.0 h.1) [
            | inl stays ↦ absurd (true_false (is_among touched k) e (ap (is_among touched) (sym h.2) ∙ stays.1))
            | inr above ↦ (exact k p).1 (h.0, top_before p h.0 above, h.2)
          ],
        )
        go false e = (
          λ is. let h = (places k p).0 (sym (at false e) ∙ is) in (h.0, merged_after p h.0 (h.1, ap (is_among touched) h.2 ∙ e), h.2),
          λ h. at false e ∙ elim (after p h.0 h.1) [
            | inl stays ↦ (places k p).1 (h.0, stays.0, h.2)
            | inr above ↦ absurd (true_false (is_among touched k) (plan.came p k (h.0, above, h.2)) e)
          ],
        )

pub parts-compacted : (dead : List Place) (merged : List Part) (r : ℕ) (v : Version) → parts_of (compacted dead merged r v) ≡ marked dead merged ++ parts_of (drop r v)
parts-compacted dead merged r v = parts-append (one_rowset (marked dead merged)) (drop r v) ∙ ap (λ ps. ps ++ parts_of (drop r v)) (parts-one (marked dead merged))

pub ending_stands : EndingStands
ending_stands s rows begun v touched merged dead m stands plan same_rows new late =
    let split = first_and_last (length begun) v in
    subst (λ ps. StandsFor s (live rows ps) m) (sym (parts-compacted dead merged (length begun) v))
    (parts_stand s rows (parts_of begun) (base_of begun v) (top_of begun v) merged touched dead m (subst (λ ps. StandsFor s (live rows ps) m) split stands) plan.keeps same_rows (subst (λ ps. Apart ps merged) split new) late)

pub ending_keeps_index : EndingKeepsIndex
ending_keeps_index s rows begun v touched merged dead m index placed next stands exact plan same_rows new late places is_next =
    let split = first_and_last (length begun) v in
    subst (λ ps. IsIndex s (live rows ps) next) (sym (parts-compacted dead merged (length begun) v))
    (parts_index s rows (parts_of begun) (base_of begun v) (top_of begun v) merged touched dead m (subst (λ ps. StandsFor s (live rows ps) m) split stands) plan.keeps same_rows (subst (λ ps. Apart ps merged) split new) late
    index placed next (subst (λ ps. IsIndex s (live rows ps) index) split exact) places is_next)

pub index_tells_late : IndexTellsLate
index_tells_late s rows begun v touched index k row exact plan has = go (is_among touched k) refl
  where
    keeps : KeepsPlan s rows (parts_of begun) touched (base_of begun v) (top_of begun v)
    keeps = plan.keeps

    exact_split : IsIndex s (live rows (base_of begun v ++ top_of begun v)) index
    exact_split = subst (λ ps. IsIndex s (live rows ps) index) (first_and_last (length begun) v) exact

    in_base : (p : Place) → names (parts_of begun) p.segment ≡ names (base_of begun v) p.segment
    in_base p = sym (keeps.files p.segment)

    go : (b : Bool) → is_among touched k ≡ b → b ≡ not (is_in (parts_of begun) (index k))
    go false e =
        let left = (left_rows s rows (parts_of begun) (base_of begun v) (top_of begun v) touched keeps has.0 row).1 (has.1, ap (is_among touched) has.2 ∙ e) in
        let found : index k ≡ Some has.0 = (exact_split k has.0).1 (row, live-base rows (base_of begun v) (top_of begun v) has.0 row left, has.2) in
        let named : is_in (parts_of begun) (index k) ≡ true = ap (is_in (parts_of begun)) found ∙ in_base has.0 ∙ live-named rows (base_of begun v) has.0 row left in
        ap not (sym named)
    go true e = ap not (sym (out (index k) refl))
      where
        out : (r : Option Place) → index k ≡ r → is_in (parts_of begun) r ≡ false
        out None f = refl
        out (Some p) f =
            let h = (exact_split k p).0 f in
            in_base p ∙ elim (parted rows (base_of begun v) (top_of begun v) p h.0 h.1) [
              | inl left ↦ absurd (true_false (is_among touched k) e (ap (is_among touched) (sym h.2) ∙ ((left_rows s rows (parts_of begun) (base_of begun v) (top_of begun v) touched keeps p h.0).0 left).1))
              | inr above ↦ unnamed (base_of begun v) (top_of begun v) keeps.apart p.segment (live-named rows (top_of begun v) p h.0 above)
            ]

pub rowsets_are_counted : RowsetsAreCounted
rowsets_are_counted b p begun v dead merged kept planned empty =
    length-append (one_rowset (marked dead merged)) (drop (length begun) v)
    ∙ ap (λ n. length (one_rowset (marked dead merged)) + n) (length-drop (length begun) v)
    ∙ ap (λ n. n + (length v - length begun)) (one merged refl)
    ∙ ends (if len p.rows == 0 then 0 else 1)
  where
    some_part : (part : Part) (parts : List Part) → part ∷ parts ≡ [] → ⊥
    some_part part parts e = cc

    one : (parts : List Part) → merged ≡ parts → length (one_rowset (marked dead parts)) ≡ (if len p.rows == 0 then 0 else 1)
    one [] e = ap (λ b. if b then 0 else 1) (sym (eq-eqb (len p.rows) 0 (empty.0 e)))
    one (part ∷ parts) e = ap (λ b. if b then 0 else 1) (sym (ne_eqb (len p.rows) 0 (λ z. some_part part parts (sym e ∙ empty.1 z))))

    ends : (n : ℕ) → n + (length v - length begun) ≡ (b.rowsets - p.rowsets) + n
    ends n = ap (λ x. n + x) (ap (λ x. x - length begun) (sym kept) ∙ ap (λ x. b.rowsets - x) (sym planned)) ∙ omega arith

pub dropping_is_wrong : DroppingIsWrong
dropping_is_wrong s new m k row has none stands = let h = (stands.same k row).0 has in none h.0 (row, h.1, h.2)

pub leaving_is_wrong : LeavingIsWrong
leaving_is_wrong s rows begun v touched merged dead m p k stands plan new has named stays after =
    let base = base_of begun v in
    let top = top_of begun v in
    let keeps = plan.keeps in
    let split : parts_of v ≡ base ++ top = first_and_last (length begun) v in
    let ended : StandsFor s (live rows (marked dead merged ++ top)) m = subst (λ ps. StandsFor s (live rows ps) m) (parts-compacted dead merged (length begun) v) after in
    let before : StandsFor s (live rows (base ++ top)) m = subst (λ ps. StandsFor s (live rows ps) m) split stands in
    let row : List Value = has.0 in
    let there : live rows (marked dead merged) p ≡ Some row = live-marked rows dead merged p ∙ ap (λ b. cond b None (live rows merged p)) stays ∙ has.1 in
    let now : live rows (marked dead merged ++ top) p ≡ Some row = live-base rows (marked dead merged) top p row there in
    let was = (before.same k row).0 ((ended.same k row).1 (p, now, has.2)) in
    elim (parted rows base top was.0 row was.1) [
      | inl left ↦ true_false (is_among touched k) named (ap (is_among touched) (sym was.2) ∙ ((left_rows s rows (parts_of begun) base top touched keeps was.0 row).0 left).1)
      | inr above ↦
          let file : names top was.0.segment ≡ true = live-named rows top was.0 row above in
          let all : names (parts_of v) was.0.segment ≡ true = ap (λ ps. names ps was.0.segment) split ∙ names-append base top was.0.segment ∙ or_true (names base was.0.segment) (names top was.0.segment) file in
          let other : names merged was.0.segment ≡ false = new was.0.segment all in
          let marks : Apart (marked dead merged) top = apart base top merged dead (subst (λ ps. Apart ps merged) split new) in
          let same : p ≡ was.0 = ended.once p was.0 k (row, now, has.2) (row, live-top rows (marked dead merged) top marks was.0 row above, was.2) in
          true_false (names merged was.0.segment) (ap (λ (x : Place). names merged x.segment) (sym same) ∙ live-named rows merged p row has.1) other
    ]
  where
    or_true : (a b : Bool) → b ≡ true → (a || b) ≡ true
    or_true true b e = refl
    or_true false b e = e

    apart : (base top merged : List Part) (dead : List Place) → Apart (base ++ top) merged → Apart (marked dead merged) top
    apart base top merged dead new n named = go (names top n) refl
      where
        go : (b : Bool) → names top n ≡ b → b ≡ false
        go false e = refl
        go true e = absurd (true_false (names merged n) (sym (names-marked dead merged n) ∙ named) (new n (names-append base top n ∙ or_true (names base n) (names top n) e)))
