-- The rows of blocks, and what is told of damage.
use Rattle.std.proofs.Common.{◌≡◌, refl, ap, sym, ◌∙◌, ℕ, zero, suc, ◌+◌, ◌*◌, ◌-◌, ◌<◌, ◌≤◌, List, [], ◌∷◌, length, take, drop, slice_get, Some, None, true, arith}
use Rattle.std.proofs.lemmas.Bool.{and_parts}
use Rattle.pk_values.specs.declared.cells.Value.{Value}
use Rattle.column_page.specs.Footers.{block_fits, blocks_fit, is_footer}
use Rattle.column_page.specs.declared.footers.BlockMark.{BlockMark}
use Rattle.column_page.specs.declared.footers.Footer.{Footer}
use Rattle.column_page.proofs.FooterParts.{block_parts, footer_parts}
use Rattle.dev_traits.specs.declared.faults.Damaged.{Damaged}
use Rattle.dev_traits.specs.declared.faults.ReadFault.{ReadFault}
use Rattle.dev_traits.specs.declared.faults.ReadFault.TheVariants as read
use Rattle.segment_form.specs.Segments.{blocks_for, blocks_from, blocks_of}
use Rattle.segment_read.specs.Reads.{OfBlock, OnDamage}

abbrev Row : Type 0
Row = List Value

pub on_damage : (e : ReadFault) (P Q : Damaged → Type 0) → ((damaged : Damaged) → P damaged → Q damaged) → OnDamage e P → OnDamage e Q
on_damage (read.Damaged d) P Q f h = f d h
on_damage read.StoreFault P Q f h = tt
on_damage read.Memory P Q f h = tt

some_one : {X : Type 0} (x y : X) → Some x ≡ Some y → x ≡ y
some_one x y e = cc

none_some : {X : Type 0} (x : X) → None ≡ Some x → ⊥
none_some x e = cc

block_end : (columns at left : ℕ) (bs : List BlockMark) (b : ℕ) (mark : BlockMark) → blocks_fit columns at left bs ≡ true → slice_get bs b ≡ Some mark
    → (1 ≤ mark.rows) × (b * 1024 + mark.rows ≤ left)
block_end columns at left [] b mark h got = absurd (none_some mark got)
block_end columns at left (x ∷ bs) zero mark h got =
    let parts = and_parts (block_fits columns at left x) (blocks_fit columns (at + x.length + 32) (left - x.rows) bs) h in
    let block = block_parts columns at left x parts.0 in
    let rows : x.rows ≡ mark.rows = ap (λ (m : BlockMark). m.rows) (some_one x mark got) in
    let some = block.some_rows in
    let most = block.rows in
    (omega arith, omega arith)
block_end columns at left (x ∷ bs) (suc b) mark h got =
    let parts = and_parts (block_fits columns at left x) (blocks_fit columns (at + x.length + 32) (left - x.rows) bs) h in
    let most = (block_parts columns at left x parts.0).rows in
    let more = block_end columns (at + x.length + 32) (left - x.rows) bs b mark parts.1 got in
    let some = more.0 in
    let low = more.1 in
    (some, omega arith)

got : (bs : List BlockMark) (i : ℕ) → i < length bs → (mark : BlockMark) × (slice_get bs i ≡ Some mark)
got [] i lt = absurd (omega arith)
got (x ∷ bs) zero lt = (x, refl)
got (x ∷ bs) (suc i) lt = got bs i (omega arith)

-- the rows of a block are among those of the file, of which there are few
pub block_within : (f : Footer) (b n : ℕ) → is_footer f ≡ true → b < length f.blocks → OfBlock f b (λ mark. n ≡ mark.rows) → b * 1024 + n ≤ 65536
block_within f b n h lt count =
    let mark = got f.blocks b lt in
    let end = (block_end f.columns 0 f.rows f.blocks b mark.0 (footer_parts f h).fit mark.1).1 in
    let same = count mark.0 mark.1 in
    let few = (footer_parts f h).few_rows in
    omega arith

pub few_blocks : (f : Footer) (b : ℕ) → is_footer f ≡ true → b < length f.blocks → b < 64
few_blocks f b h lt = let few = (footer_parts f h).few_blocks in omega arith

drop_more : (m n k : ℕ) (xs : List Row) → k ≡ m + n → drop n (drop m xs) ≡ drop k xs
drop_more zero n k xs e = let same : n ≡ k = omega arith in ap (λ i. drop i xs) same
drop_more (suc m) n zero xs e = absurd (omega arith)
drop_more (suc m) zero (suc k) [] e = refl
drop_more (suc m) (suc n) (suc k) [] e = refl
drop_more (suc m) n (suc k) (x ∷ xs) e = drop_more m n k xs (omega arith)

block_from : (n b : ℕ) (rows block : List Row) → slice_get (blocks_from n rows) b ≡ Some block → block ≡ take 1024 (drop (b * 1024) rows)
block_from zero b rows block is = absurd (none_some block is)
block_from (suc n) zero rows block is = sym (some_one (take 1024 rows) block is)
block_from (suc n) (suc b) rows block is =
    block_from n b (drop 1024 rows) block is ∙ ap (take 1024) (drop_more 1024 (b * 1024) (suc b * 1024) rows (omega arith))

-- the rows of block b
pub block_is : (b : ℕ) (rows block : List Row) → slice_get (blocks_of rows) b ≡ Some block → block ≡ take 1024 (drop (b * 1024) rows)
block_is b rows block is = block_from (blocks_for (length rows)) b rows block is
