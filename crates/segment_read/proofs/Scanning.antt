-- All rows of a segment, one block after the other.
use Rattle.std.proofs.Common.{◌≡◌, ◌⊎◌, ℕ, ◌+◌, ◌-◌, ◌^◌, ◌<◌, ◌≤◌, List, [], ◌∷◌, ◌++◌, Some, Ok, Err, IfOk, Result, length, get_or, take, min, refl, sym, subst, ap, ◌∙◌, arith, slice_get}
use Rattle.std.specs.List.{flat_map}
use Rattle.std.proofs.lemmas.List.{append-nil}
use Rattle.std.proofs.lemmas.List.Concat.{flat_map-append}
use Rattle.std.proofs.lemmas.Option.{slice_get-get_or}
use Rattle.pk_values.specs.Schemas.{Layout}
use Rattle.pk_values.specs.declared.cells.Value.{Value}
use Rattle.column_page.specs.declared.footers.BlockMark.{BlockMark}
use Rattle.column_page.specs.declared.footers.Footer.{Footer}
use Rattle.dev_traits.specs.Reader.{ReaderView, SameFile}
use Rattle.dev_traits.specs.declared.faults.Part.{Part}
use Rattle.dev_traits.specs.declared.faults.Part.TheVariants as part
use Rattle.dev_traits.specs.declared.faults.Shown.{Shown}
use Rattle.dev_traits.specs.declared.faults.ReadFault.{ReadFault}
use Rattle.dev_traits.specs.declared.faults.ReadFault.TheVariants as read
use Rattle.segment_form.specs.Segments.{block_marks, blocks_of, KeysRise}
use Rattle.segment_form.proofs.Blocks.{length-block_marks}
use Rattle.segment_read.specs.Blocks.{AreBlockRows, AreTheRows, BlockShown}
use Rattle.segment_read.specs.Footers.{HasFooter}
use Rattle.segment_read.specs.Reads.{block_in, HasRead, IsDamage, KnowsFooter, OfBlock, OnDamage, Reading, OfFile}
use Rattle.segment_read.specs.Rows.{AreBlocks, AreRowsBefore, FallsBack, IsRowsDamage, IsSegmentOf}
use Rattle.segment_read.proofs.FooterFacts.{take_got}
use Rattle.segment_read.proofs.Intact.{block_there}

pub damage_weaker : (e : ReadFault) (file : ℕ) (p : Part) (P Q : Shown → Type 0) → ((shown : Shown) → P shown → Q shown) → OnDamage e (IsDamage file p P) → OnDamage e (IsDamage file p Q)
damage_weaker (read.Damaged d) file p P Q step is = record { file_is = is.file_is; part_is = is.part_is; shows = step d.shown is.shows }
damage_weaker read.StoreFault file p P Q step is = tt
damage_weaker read.Memory file p P Q step is = tt

-- a reader of the same file still has the footer
pub known_still : (s : Layout) (old new : ReaderView) (f f' : Footer) → KnowsFooter s old f → new.bytes ≡ old.bytes → f' ≡ f → KnowsFooter s new f'
known_still s old new f f' known same kept file told = subst (λ (x : Footer). HasFooter s x file) (sym kept) (known file (sym same ∙ told))

blocks-push : (s : Layout) (file : List ℕ) (ms : List BlockMark) (bs : List (List (List Value))) (m : BlockMark) (b : List (List Value)) → AreBlocks s file ms bs → AreTheRows s m (block_in file m) b → AreBlocks s file (ms ++ m ∷ []) (bs ++ b ∷ [])
blocks-push s file [] [] m b are is = (is, tt)
blocks-push s file [] (x ∷ bs) m b are is = absurd are
blocks-push s file (x ∷ ms) [] m b are is = absurd are
blocks-push s file (x ∷ ms) (y ∷ bs) m b are is = (are.0, blocks-push s file ms bs m b are.1 is)

no_block : BlockMark
no_block = record { place = 0; length = 0; rows = 0; marks = [] }

pub none_before : (s : Layout) (f : Footer) (file : List ℕ) → AreRowsBefore s f file 0 []
none_before s f file = record { blocks = []; are = tt; joined = refl; rise = tt }

-- the rows with one block more
pub one_block_more : (s : Layout) (f : Footer) (file : List ℕ) (n : ℕ) (rows longer : List (List Value)) → AreRowsBefore s f file n rows → n < length f.blocks
    → OfBlock f n (λ mark. (next : List (List Value)) × AreTheRows s mark (block_in file mark) next × (longer ≡ rows ++ next)) → KeysRise s longer → AreRowsBefore s f file (n + 1) longer
one_block_more s f file n rows longer before lt added rise =
    let mark = get_or f.blocks n no_block in
    let got : slice_get f.blocks n ≡ Some mark = slice_get-get_or f.blocks n no_block lt in
    let more = added mark got in
    let next = more.0 in
    record {
      blocks = before.blocks ++ next ∷ [];
      are = subst (λ (ms : List BlockMark). AreBlocks s file ms (before.blocks ++ next ∷ [])) (sym (take_got f.blocks n mark got)) (blocks-push s file (take n f.blocks) before.blocks mark next before.are more.1);
      joined = flat_map-append (λ (b : List (List Value)). b) before.blocks (next ∷ [])
          ∙ ap (λ (t : List (List Value)). flat_map (λ (b : List (List Value)). b) before.blocks ++ t) (append-nil next)
          ∙ ap (λ (t : List (List Value)). t ++ next) before.joined
          ∙ sym more.2;
      rise = rise;
    }

-- the damage of the next block is one of the rows
pub rows_damage : (s : Layout) (f f' : Footer) (number number' n : ℕ) (old now : ReaderView) (rows : List (List Value)) (e : ReadFault) → f' ≡ f → number' ≡ number → now.bytes ≡ old.bytes → n < length f.blocks
    → OfFile old (λ file. AreRowsBefore s f file n rows)
    → OnDamage e (IsDamage number' (part.Block n) (λ shown. OfFile now (λ file. OfBlock f' n (λ mark. BlockShown s mark (block_in file mark) shown ⊎ FallsBack s (block_in file mark) mark rows shown))))
    → OnDamage e (IsRowsDamage s f number old)
rows_damage s f f' number number' n old now rows (read.Damaged d) kept same bytes lt before is = record {
  block = n;
  there = lt;
  file_is = is.file_is ∙ same;
  part_is = is.part_is;
  shows = λ file told. record {
    before = rows;
    are = before file told;
    shows = subst (λ (x : Footer). OfBlock x n (λ mark. BlockShown s mark (block_in file mark) d.shown ⊎ FallsBack s (block_in file mark) mark rows d.shown)) kept (is.shows file (bytes ∙ told));
  };
}
rows_damage s f f' number number' n old now rows read.StoreFault kept same bytes lt before is = tt
rows_damage s f f' number number' n old now rows read.Memory kept same bytes lt before is = tt

-- ---- reads

-- a call that reads leaves the reader with its file
pub same_file : {T : Type 0} (count : ℕ) (old new : ReaderView) (result : Result T ReadFault) → Reading count old new result → SameFile old new
same_file count old new (Ok x) reading = reading.same
same_file count old new (Err e) reading = reading.same

-- so many reads so far, none of which failed
pub record ReadSoFar (count : ℕ) (old new : ReaderView) : Type 0 where
  pub same : SameFile old new
  pub most : new.reads ≤ old.reads + count
  pub grows : min (old.reads + count) (2 ^ 64 - 1) ≤ new.reads
  pub capped : 1 ≤ count → new.reads ≤ 2 ^ 64 - 1
  pub unfailed : new.faults ≡ old.faults

pub none_read : (reader : ReaderView) → ReadSoFar 0 reader reader
none_read reader = record {
  same = record { bytes = refl; size = refl };
  most = omega arith;
  grows = omega arith;
  capped = λ h. absurd (omega arith);
  unfailed = refl;
}

same_through : (old mid new : ReaderView) → SameFile old mid → SameFile mid new → SameFile old new
same_through old mid new one two = record { bytes = two.bytes ∙ one.bytes; size = two.size ∙ one.size }

pub read_more : (count : ℕ) (old mid new : ReaderView) → ReadSoFar count old mid → HasRead 1 mid new → ReadSoFar (count + 1) old new
read_more count old mid new so_far one = record {
  same = same_through old mid new so_far.same one.same;
  most = omega (arith, so_far.most, one.reads);
  grows = omega (arith, so_far.grows, one.reads);
  capped = λ h. omega (arith, one.reads);
  unfailed = one.unfailed ∙ so_far.unfailed;
}

pub if_ok_so : {T E : Type 0} (result : Result T E) (P Q : T → Type 0) → ((x : T) → P x → Q x) → IfOk result P → IfOk result Q
if_ok_so (Ok x) P Q f p = f x p
if_ok_so (Err e) P Q f p = tt

-- ---- the blocks of a segment

-- what is read of a block of a segment is that block of its rows
pub block_of_segment : (s : Layout) (f : Footer) (file : List ℕ) (rows found : List (List Value)) (b : ℕ) → IsSegmentOf s f file rows → b < length f.blocks
    → OfBlock f b (λ mark. AreTheRows s mark (block_in file mark) found) → slice_get (blocks_of rows) b ≡ Some found
block_of_segment s f file rows found b is lt read =
    let marks : f.blocks ≡ block_marks s 0 (blocks_of rows) = ap (λ (x : Footer). x.blocks) is.footer_is in
    let mark = get_or f.blocks b no_block in
    let got : slice_get f.blocks b ≡ Some mark = slice_get-get_or f.blocks b no_block lt in
    let inside : b < length (blocks_of rows) = omega (arith, ap length marks, length-block_marks s 0 (blocks_of rows)) in
    let block = get_or (blocks_of rows) b [] in
    let there : slice_get (blocks_of rows) b ≡ Some block = slice_get-get_or (blocks_of rows) b [] inside in
    let its = block_there s rows b mark block is.are (ap (λ (ms : List BlockMark). slice_get ms b) (sym marks) ∙ got) there in
    let here = subst (λ (bytes : List ℕ). AreBlockRows s mark (block_in bytes mark) block) (sym is.file_is) its in
    there ∙ ap Some (sym ((read mark got).only block here))
