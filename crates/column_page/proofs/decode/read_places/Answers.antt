use Rattle.std.proofs.Common.{◌≡◌, ◌+◌, ◌<◌, ◌^◌, ◌++◌, ℕ, List, sym, subst, ap, ◌∙◌, arith, length, drop, take, [], map, get_or, true, refl}
use Rattle.std.specs.List.{AllPass}
use Rattle.std.proofs.lemmas.List.{get_or-map, length-map, map_push}
use Rattle.std.proofs.lemmas.List.Elements.{All-push}
use Rattle.pk_values.specs.declared.cells.Value.{Value}
use Rattle.column_page.specs.CellBytes.{u16_bytes}
use Rattle.column_page.specs.Page.{Cell, place, places}
use Rattle.column_page.specs.Reading.{HavePlaced}
use Rattle.column_page.proofs.PageFacts.{all_placed, next_place, place_more}
use Rattle.column_page.proofs.ReadFacts.{u16_long, u16_step}
use Rattle.column_page.proofs.Pieces.{ends_within, to_end}
use Rattle.column_page.proofs.decode.read_places.Goals as goal

-- what a read place is
record Found (code : Value → List ℕ) (words : List Value) (at : ℕ) (cell : Cell) (piece tail : List ℕ) : Type 0 where
  is : (d : Value) → code (get_or words at d) ≡ cell
  after : drop 2 piece ≡ tail
  below : at < length words

found_at : (code : Value → List ℕ) (words : List Value) (n : ℕ) (cell : Cell) (piece tail : List ℕ) → length words < 2 ^ 16 → n < 2 ^ 16 → take 2 piece ≡ u16_bytes n
    → place cell (map code words) < length (map code words) → get_or (map code words) (place cell (map code words)) [] ≡ cell → u16_bytes (place cell (map code words)) ++ tail ≡ piece → Found code words n cell piece tail
found_at code words n cell piece tail few fits front there is stands =
    let W = map code words in
    let long : length W ≡ length words = length-map words code in
    let step = u16_step n (place cell W) piece tail fits (omega arith) front stands in
    let same : n ≡ place cell W = step.0 in
    let below : n < length words = omega arith in
    record {
      is = λ d. sym (get_or-map code words n d [] below) ∙ ap (λ (k : ℕ). get_or W k []) same ∙ is;
      after = step.1;
      below = below;
    }

pub loop-i-init : goal.loop-i-init
loop-i-init c = let e = c.new-values.ensures.items in record {
  within = omega arith;
  pass = λ p h. subst (λ (vs : List Value). AllPass p vs) (sym e) (λ k d lt. absurd (omega arith));
  so_far = λ code cells are. subst (λ (vs : List Value). HavePlaced (map code c.args.words.now) (map code vs) 0 0 c.args.bytes.now cells) (sym e) (record { front = refl; back = sym are.written });
}

pub loop-i-preserved : goal.loop-i-preserved
loop-i-preserved c =
    let inv = c.loop-i.invariant in
    let words = c.args.words.now in
    let some = c.in-Some.ensures.some in
    let pushed = c.in_ok-push_value.ensures.pushed in
    let bytes = c.args.bytes.now in
    let piece = to_end bytes c.loop-i.at in
    let value : c.in_ok-value.value ≡ get_or words c.in-Some.place c.index-words-place.result = c.in_ok-value.ensures.copied ∙ c.index-words-place.is in
    record {
      within = ends_within bytes _ c.loop-i.at 2 inv.within piece some.1;
      pass = λ p h. subst (λ (vs : List Value). AllPass p vs) (sym pushed) (All-push (λ v. p v ≡ true) c.loop-i.values.items c.in_ok-value.value (inv.pass p h) (ap p value ∙ h c.in-Some.place c.index-words-place.result c.if-place-words.false));
      so_far = λ code cells are.
          let have = inv.so_far code cells are in
          let next = next_place (map code words) (map code c.loop-i.values.items) c.loop-i.i c.loop-i.at c.args.count bytes _ cells are c.loop-i-test.true have piece in
          let here = found_at code words c.in-Some.place (get_or cells c.loop-i.i []) _ (places (map code words) (drop (c.loop-i.i + 1) cells)) c.requires some.0 some.2 next.there next.is next.stands in
          let more = place_more (map code words) (map code c.loop-i.values.items) (code c.in_ok-value.value) c.loop-i.i c.loop-i.at c.args.count bytes _ cells are c.loop-i-test.true have piece (ap code value ∙ here.is c.index-words-place.result) here.after in
          subst (λ (t : List Cell). HavePlaced (map code words) t (c.loop-i.i + 1) (c.loop-i.at + 2) bytes cells) (sym (ap (map code) pushed ∙ map_push code c.loop-i.values.items c.in_ok-value.value)) more;
    }

pub returns-clause-only : goal.returns-clause-only
returns-clause-only c code cells are =
    all_placed (map code c.args.words.now) (map code c.loop-i.values.items) c.loop-i.i c.loop-i.at c.args.count c.args.bytes.now cells are c.loop-i-test.false (c.loop-i.invariant.so_far code cells are)

pub returns-in_default-clause-none : goal.returns-in_default-clause-none
returns-in_default-clause-none c is code cells are =
    let bytes = c.args.bytes.now in
    let piece = to_end bytes c.loop-i.at in
    let next = next_place (map code c.args.words.now) (map code c.loop-i.values.items) c.loop-i.i c.loop-i.at c.args.count bytes _ cells are c.loop-i-test.true (c.loop-i.invariant.so_far code cells are) piece in
    u16_long (place (get_or cells c.loop-i.i []) (map code c.args.words.now)) _ _ c.in_default.ensures.none next.stands

pub returns-then-place-words-clause-none : goal.returns-then-place-words-clause-none
returns-then-place-words-clause-none c is code cells are =
    let words = c.args.words.now in
    let some = c.in-Some.ensures.some in
    let bytes = c.args.bytes.now in
    let piece = to_end bytes c.loop-i.at in
    let next = next_place (map code words) (map code c.loop-i.values.items) c.loop-i.i c.loop-i.at c.args.count bytes _ cells are c.loop-i-test.true (c.loop-i.invariant.so_far code cells are) piece in
    let here = found_at code words c.in-Some.place (get_or cells c.loop-i.i []) _ (places (map code words) (drop (c.loop-i.i + 1) cells)) c.requires some.0 some.2 next.there next.is next.stands in
    let below : c.in-Some.place < length words = here.below in
    omega arith
