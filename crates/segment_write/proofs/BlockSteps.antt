-- One more block, in what was made and in what is told of it.
use Rattle.std.proofs.Common.{◌≡◌, ℕ, ◌+◌, ◌<◌, min, List, [], ◌∷◌, ◌++◌, length, take, drop, refl, sym, ap, subst, ◌∙◌, None, Some}
use Rattle.std.specs.Prelude.{All, Option}
use Rattle.std.specs.List.{flat_map}
use Rattle.std.specs.Option.{option_map}
use Rattle.std.proofs.lemmas.List.{append_assoc, drop_at, drop_min, take_at, take_min}
use Rattle.std.proofs.lemmas.List.Elements.{All-drop}
use Rattle.pk_values.specs.Schemas.{Layout}
use Rattle.pk_values.specs.declared.cells.Value.{Value}
use Rattle.column_page.specs.declared.footers.BlockMark.{BlockMark}
use Rattle.segment_form.specs.Segments.{block_file, block_mark, block_marks, blocks_of}
use Rattle.segment_form.proofs.Blocks.{blocks_some}

-- a chunk of 1,024 rows, or of all, is the first block
pub next_block : (rest block later : List (List Value)) → rest ≡ block ++ later → length block ≡ min 1024 (length rest) → 0 < length rest → blocks_of rest ≡ block ∷ blocks_of later
next_block rest block later e long some =
    let first : take 1024 rest ≡ block = sym (take_min 1024 rest) ∙ ap (λ (n : ℕ). take n rest) (sym long) ∙ ap (λ (rows : List (List Value)). take (length block) rows) e ∙ take_at block later (length block) refl in
    let behind : drop 1024 rest ≡ later = sym (drop_min 1024 rest) ∙ ap (λ (n : ℕ). drop n rest) (sym long) ∙ ap (λ (rows : List (List Value)). drop (length block) rows) e ∙ drop_at block later (length block) refl in
    blocks_some rest some ∙ ap (λ (rows : List (List Value)). rows ∷ blocks_of (drop 1024 rest)) first ∙ ap (λ (rows : List (List Value)). block ∷ blocks_of rows) behind

abbrev pub with_blocks : Layout → List (List (List Value)) → Option (List ℕ) → Option (List ℕ)
with_blocks s bs made = option_map (λ bytes. bytes ++ flat_map (block_file s) bs) made

made_more : (s : Layout) (block : List (List Value)) (later : List (List (List Value))) (old : Option (List ℕ)) → with_blocks s later (option_map (λ bytes. bytes ++ block_file s block) old) ≡ with_blocks s (block ∷ later) old
made_more s block later None = refl
made_more s block later (Some bytes) = ap Some (append_assoc bytes (block_file s block) (flat_map (block_file s) later))

pub made_next : (s : Layout) (rest block later : List (List Value)) (old new whole : Option (List ℕ)) → blocks_of rest ≡ block ∷ blocks_of later → new ≡ option_map (λ bytes. bytes ++ block_file s block) old → with_blocks s (blocks_of rest) old ≡ whole → with_blocks s (blocks_of later) new ≡ whole
made_next s rest block later old new whole e added so_far =
    ap (with_blocks s (blocks_of later)) added ∙ made_more s block (blocks_of later) old ∙ ap (λ (bs : List (List (List Value))). with_blocks s bs old) (sym e) ∙ so_far

pub marks_next : (s : Layout) (rest block later : List (List Value)) (marks whole : List BlockMark) (mark : BlockMark) (place next : ℕ) → blocks_of rest ≡ block ∷ blocks_of later → mark ≡ block_mark s place block → next ≡ place + length (block_file s block) → marks ++ block_marks s place (blocks_of rest) ≡ whole → (marks ++ mark ∷ []) ++ block_marks s next (blocks_of later) ≡ whole
marks_next s rest block later marks whole mark place next e is there so_far =
    append_assoc marks (mark ∷ []) (block_marks s next (blocks_of later))
    ∙ ap (λ (m : BlockMark). marks ++ m ∷ block_marks s next (blocks_of later)) is
    ∙ ap (λ (at : ℕ). marks ++ block_mark s place block ∷ block_marks s at (blocks_of later)) there
    ∙ ap (λ (bs : List (List (List Value))). marks ++ block_marks s place bs) (sym e) ∙ so_far

pub later_fit : (P : List Value → Type 0) (rest block later : List (List Value)) → rest ≡ block ++ later → All P rest → All P later
later_fit P rest block later e fit = subst (All P) (ap (drop (length block)) e ∙ drop_at block later (length block) refl) (All-drop P (length block) rest fit)
