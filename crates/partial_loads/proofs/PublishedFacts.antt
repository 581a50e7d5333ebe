-- A located load from end to end.
use Rattle.std.proofs.Common.{◌≡◌, ◌↔◌, inl, inr, refl, ap, sym, subst, ◌∙◌, ◌+◌, List, [], ◌++◌, map, Some, None, Bool as Truth, true, false, cond, ◌||◌}
use Rattle.pk_values.specs.declared.cells.Value.{Value}
use Rattle.index_level0.specs.declared.place.Place.{Place}
use Rattle.rowsets.specs.Marks.{marked, stands_in}
use Rattle.rowsets.specs.Loads.{AreResultsOver, ComeWithRow}
use Rattle.rowsets.proofs.LoadFacts.{parts_make_load}
use Rattle.rowsets.proofs.BookFacts.{load_is_held}
use Rattle.partial_loads.specs.Folded.{folded_keys}
use Rattle.partial_loads.proofs.MoveFacts.{places_are_old}
use Rattle.pk_values.specs.Schemas.{key_of}
use Rattle.pk_model.specs.Books.{version}
use Rattle.pk_model.specs.Laws.{KeysStandFirst}
use Rattle.rowsets.specs.Live.{Part, parts_of, live, names, Apart, IsIndex}
use Rattle.rowsets.specs.Indexing.{merged_place}
use Rattle.rowsets.specs.Merging.{moved_to, all_live}
use Rattle.rowsets.specs.Books.{held_at}
use Rattle.rowsets.proofs.LiveFacts.{names-append, live-marked, live-named, live-before}
use Rattle.partial_loads.specs.Moves.{Located, NoneTwice, moved, stays_live}
use Rattle.partial_loads.specs.Publishing.{WrittenLoadIsHeld, InTurnLoadIsHeld, loaded_index}
use Rattle.partial_loads.proofs.MakeFacts.{folded_are_results, folded_have_changes, made_are_results, made_once, rising_once, stood_keys_first, written_is_indexed}
use Rattle.partial_loads.proofs.SettleFacts.{found_are_dead, found_are_in, located_load_is_held}
use Rattle.pk_model.specs.Tables.{touches}

neither : (a b : Truth) → (a || b) ≡ false → (a ≡ false) × (b ≡ false)
neither true b h = cc
neither false b h = (refl, h)

both-apart : (current made remade : List Part) → Apart current (made ++ remade) → Apart current made × Apart current remade
both-apart current made remade new = (
  λ n named. (neither (names made n) (names remade n) (sym (names-append made remade n) ∙ new n named)).0,
  λ n named. (neither (names made n) (names remade n) (sym (names-append made remade n) ∙ new n named)).1,
)

pub written_load_is_held : WrittenLoadIsHeld
written_load_is_held s load rows h b v was located folded more made remade dead holds had alike reads lawful first were written =
    let next = rows (version b + 1) in
    let moved_ones : List Located = moved (stays_live (rows v) (held_at h b.floor v)) h.index located in
    let now_first : KeysStandFirst s b.current = stood_keys_first s (live (rows (version b)) (parts_of h.current)) b.current holds.current in
    let made_at = merged_place (moved_to s next made) in
    let remade_at = merged_place (moved_to s next remade) in
    let made_places : IsIndex s (live next (map all_live made)) made_at =
    written_is_indexed s next made
    (subst (λ xs. NoneTwice (map (key_of s) xs)) (sym written.first) (made_once s load was folded lawful first (folded_have_changes s load folded written.folds) (rising_once _ written.folds.rise))) in
    let remade_places : IsIndex s (live next (map all_live remade)) remade_at =
    written_is_indexed s next remade (subst (λ xs. NoneTwice (map (key_of s) xs)) (sym written.second) (made_once s load b.current more lawful now_first written.changes written.once)) in
    let apart = both-apart (parts_of h.current) (map all_live made) (map all_live remade) written.new in
    let dead_are = found_are_dead s (rows (version b)) next (touches load.ops) located moved_ones (parts_of h.current) (map all_live made) (map all_live remade) h.index made_at dead
    holds.exact made_places were.named apart.0 apart.1 written.apart written.dead_are in
    let again = made_are_results s load b.current next remade more lawful now_first written.changes written.second in
    located_load_is_held s load rows h b v was located (map all_live made) (map all_live remade) dead made_at remade_at holds had alike reads lawful were dead_are.0
    (record {
      settled = record {
        before = folded_are_results s load was next made folded lawful first written.folds written.first;
        since = record {
          results = λ k row among. again.results k row (written.keys k ∙ among);
          named = λ p k has. sym (written.keys k) ∙ again.named p k has;
        };
        superseded = dead_are.1;
        stay = dead_are.2;
      };
      made_places = made_places;
      remade_places = remade_places;
      apart = written.apart;
      new = written.new;
      once = written.files;
      made_some = written.first_some;
      remade_some = written.second_some;
    })

pub in_turn_load_is_held : InTurnLoadIsHeld
in_turn_load_is_held s load rows h b folded files dead holds reads lawful folds is some new once dead_are =
    load_is_held s rows h b load dead (map all_live files) (loaded_index (touches load.ops) (merged_place (moved_to s (rows (version b + 1)) files)) h.index) holds reads new once
    (parts_make_load s load (live (rows (version b)) (parts_of h.current)) h.index b.current (live (rows (version b + 1)) (marked dead (map all_live files))) dead (loaded_index (touches load.ops) (merged_place (moved_to s (rows (version b + 1)) files)) h.index)
    (record {
      results = λ k row touched. (
        λ got. let has = (made.results k row touched).0 got in (has.0, (same has.0 row).0 has.1, has.2),
        λ has. (made.results k row touched).1 (has.0, (same has.0 row).1 has.1, has.2),
      );
      named = λ p k has. made.named p k (has.0, (same p has.0).1 has.1, has.2);
    })
    (λ p k has. dead_are p ∙ places_are_old s (live (rows (version b)) (parts_of h.current)) h.index (folded_keys folded) holds.exact p k has ∙ folds.named k)
    (record {
      moved = λ k p touched. (
        λ got. let has = (placed k p).0 (sym (ap (λ t. cond t (merged_place (moved_to s (rows (version b + 1)) files) k) (h.index k)) touched) ∙ got) in (has.0, (same p has.0).0 has.1, has.2),
        λ has. ap (λ t. cond t (merged_place (moved_to s (rows (version b + 1)) files) k) (h.index k)) touched ∙ (placed k p).1 (has.0, (same p has.0).1 has.1, has.2),
      );
      kept = λ k other. ap (λ t. cond t (merged_place (moved_to s (rows (version b + 1)) files) k) (h.index k)) other;
    }))
    (come some)
    lawful
  where
    now_first : KeysStandFirst s b.current
    now_first = stood_keys_first s (live (rows (version b)) (parts_of h.current)) b.current holds.current

    made : AreResultsOver s load b.current (live (rows (version b + 1)) (map all_live files))
    made = folded_are_results s load b.current (rows (version b + 1)) files folded lawful now_first folds is

    placed : IsIndex s (live (rows (version b + 1)) (map all_live files)) (merged_place (moved_to s (rows (version b + 1)) files))
    placed =
        written_is_indexed s (rows (version b + 1)) files
        (subst (λ xs. NoneTwice (map (key_of s) xs)) (sym is) (made_once s load b.current folded lawful now_first (folded_have_changes s load folded folds) (rising_once (folded_keys folded) folds.rise)))

    -- what is dead is in the old files
    alive : (p : Place) → names (map all_live files) p.segment ≡ true → stands_in dead p ≡ false
    alive p named = go (stands_in dead p) refl
      where
        clash : (t : Truth) → t ≡ true → t ≡ false → ⊥
        clash t e f = cc (sym e ∙ f)

        go : (t : Truth) → stands_in dead p ≡ t → t ≡ false
        go false e = refl
        go true e =
            let old : names (parts_of h.current) p.segment ≡ true = found_are_in s (rows (version b)) (parts_of h.current) h.index (folded_keys folded) holds.exact p (sym (dead_are p) ∙ e) in
            absurd (clash (names (map all_live files) p.segment) named (new p.segment old))

    same : (p : Place) (row : List Value) → (live (rows (version b + 1)) (map all_live files) p ≡ Some row) ↔ (live (rows (version b + 1)) (marked dead (map all_live files)) p ≡ Some row)
    same p row = (
      λ lives. live-marked (rows (version b + 1)) dead (map all_live files) p
          ∙ ap (λ t. cond t None (live (rows (version b + 1)) (map all_live files) p)) (alive p (live-named (rows (version b + 1)) (map all_live files) p row lives)) ∙ lives,
      λ lives. live-before (rows (version b + 1)) dead (map all_live files) p row lives,
    )

    come : ComeWithRow (rows (version b + 1)) [] (map all_live files) → ComeWithRow (rows (version b + 1)) dead (map all_live files)
    come (inl none) = inl none
    come (inr has) = inr (has.0, has.1, (same has.0 has.1).0 (live-before (rows (version b + 1)) [] (map all_live files) has.0 has.1 has.2))
