-- The codes of live rows, block by block.
use Rattle.std.proofs.Common.{◌≡◌, refl, ap, sym, subst, ◌∙◌, ℕ, zero, suc, ◌+◌, ◌*◌, ◌-◌, ◌/◌, ◌<◌, ◌≤◌, List, [], ◌∷◌, ◌++◌, length, take, drop, slice_get, Some, Bool, true, false, ◌==◌, cond, arith, append_assoc, All, IsTrue, inl}
use Rattle.std.specs.List.{list_any}
use Rattle.std.proofs.lemmas.Bool.{eqb-true, eqb-false}
use Rattle.std.proofs.lemmas.Option.{slice_get_within}
use Rattle.pk_values.specs.Schemas.{Layout, fits_row, key_of}
use Rattle.pk_values.specs.declared.cells.Value.{Value}
use Rattle.key_code.specs.KeyCode.{key_code}
use Rattle.column_page.specs.declared.footers.Footer.{Footer}
use Rattle.dev_traits.specs.Reader.{ReaderView}
use Rattle.dev_traits.specs.declared.faults.ReadFault.{ReadFault}
use Rattle.pk_model.specs.Lawful.{most_code_bytes}
use Rattle.rowsets.specs.Indexing.{CodeMove}
use Rattle.segment_form.specs.Segments.{blocks_of}
use Rattle.segment_form.proofs.Blocks.{length-block_marks}
use Rattle.segment_form.proofs.RowsInBlocks.{length-blocks_of}
use Rattle.dev_traits.specs.declared.faults.Part.TheVariants as part
use Rattle.segment_read.specs.Blocks.{BlockShown}
use Rattle.segment_read.specs.Reads.{block_in, IsDamage, OfBlock, OfFile, OnDamage}
use Rattle.segment_read.specs.Rows.{IsNoSegment, IsSegmentOf}
use Rattle.store_files.proofs.BlockFacts.{block_is, on_damage}
use Rattle.store_files.specs.Keys.{code_at, live_codes, HasLive, HasLongCode, IsKeyDamage, IsKeysDamage, IsNoShortSegment, IsWhole}

abbrev Row : Type 0
Row = List Value

module _ (s : Layout) (file : ℕ) (dead : List ℕ) where
  -- the codes of rows and of those behind them
  pub codes_append : (i : ℕ) (xs ys : List Row) → live_codes s file dead i (xs ++ ys) ≡ live_codes s file dead i xs ++ live_codes s file dead (i + length xs) ys
  codes_append i [] ys = let at : i ≡ i + 0 = omega arith in ap (λ n. live_codes s file dead n ys) at
  codes_append i (x ∷ xs) ys = go (list_any (λ r. r == i) dead) (codes_append (i + 1) xs ys ∙ ap (λ n. live_codes s file dead (i + 1) xs ++ live_codes s file dead n ys) at)
    where
      at : i + 1 + length xs ≡ i + suc (length xs)
      at = omega arith

      go : (b : Bool) → live_codes s file dead (i + 1) (xs ++ ys) ≡ live_codes s file dead (i + 1) xs ++ live_codes s file dead (i + suc (length xs)) ys
          → cond b (live_codes s file dead (i + 1) (xs ++ ys)) (code_at s file i x ∷ live_codes s file dead (i + 1) (xs ++ ys))
          ≡ cond b (live_codes s file dead (i + 1) xs) (code_at s file i x ∷ live_codes s file dead (i + 1) xs) ++ live_codes s file dead (i + suc (length xs)) ys
      go true e = e
      go false e = ap (λ (zs : List CodeMove). code_at s file i x ∷ zs) e

  -- rows that are all dead have none
  pub codes_none : (i : ℕ) (xs : List Row) → ((r : ℕ) → i ≤ r → r < i + length xs → list_any (λ d. d == r) dead ≡ true) → live_codes s file dead i xs ≡ []
  codes_none i [] all = refl
  codes_none i (x ∷ xs) all =
      ap (λ b. cond b (live_codes s file dead (i + 1) xs) (code_at s file i x ∷ live_codes s file dead (i + 1) xs)) (all i (omega arith) (omega arith))
      ∙ codes_none (i + 1) xs (λ r le lt. all r (omega arith) (omega arith))

  -- the next row, dead or live
  pub codes_dead : (i : ℕ) (x : Row) (xs : List Row) → list_any (λ r. r == i) dead ≡ true → live_codes s file dead i (x ∷ xs) ≡ live_codes s file dead (i + 1) xs
  codes_dead i x xs is = ap (λ b. cond b (live_codes s file dead (i + 1) xs) (code_at s file i x ∷ live_codes s file dead (i + 1) xs)) is

  pub codes_live : (i : ℕ) (x : Row) (xs : List Row) → list_any (λ r. r == i) dead ≡ false → live_codes s file dead i (x ∷ xs) ≡ code_at s file i x ∷ live_codes s file dead (i + 1) xs
  codes_live i x xs is = ap (λ b. cond b (live_codes s file dead (i + 1) xs) (code_at s file i x ∷ live_codes s file dead (i + 1) xs)) is

-- one row more, dead or live
pub codes_more : (s : Layout) (file : ℕ) (dead : List ℕ) (i : ℕ) (left next : List Row) (x : Row) (keys more all : List CodeMove) → left ≡ x ∷ next → more ≡ keys ++ live_codes s file dead i (x ∷ [])
    → keys ++ live_codes s file dead i left ≡ all → more ++ live_codes s file dead (i + 1) next ≡ all
codes_more s file dead i left next x keys more all is added so_far =
    ap (λ (ks : List CodeMove). ks ++ live_codes s file dead (i + 1) next) added
    ∙ append_assoc keys (live_codes s file dead i (x ∷ [])) (live_codes s file dead (i + 1) next)
    ∙ ap (λ (ks : List CodeMove). keys ++ ks) (sym (codes_append s file dead i (x ∷ []) next) ∙ ap (live_codes s file dead i) (sym is))
    ∙ so_far

pub fit_first : (s : Layout) (left next : List Row) (x : Row) → left ≡ x ∷ next → All (λ row. IsTrue (fits_row s row)) left → IsTrue (fits_row s x)
fit_first s left next x is h = subst (λ rows. All (λ row. IsTrue (fits_row s row)) rows) is h 0 x (omega arith)

pub fit_rest : (s : Layout) (left next : List Row) (x : Row) → left ≡ x ∷ next → All (λ row. IsTrue (fits_row s row)) left → All (λ row. IsTrue (fits_row s row)) next
fit_rest s left next x is h = λ k d lt. subst (λ rows. All (λ row. IsTrue (fits_row s row)) rows) is h (suc k) d (omega arith)

nil_behind : (xs : List CodeMove) → xs ++ [] ≡ xs
nil_behind [] = refl
nil_behind (x ∷ xs) = ap (λ (ys : List CodeMove). x ∷ ys) (nil_behind xs)

pub row_dead : (s : Layout) (file : ℕ) (dead : List ℕ) (i : ℕ) (x : Row) (keys : List CodeMove) (b : Bool) → b ≡ list_any (λ r. r == i) dead → b ≡ true → keys ≡ keys ++ live_codes s file dead i (x ∷ [])
row_dead s file dead i x keys b is e = sym (ap (λ (ks : List CodeMove). keys ++ ks) (codes_dead s file dead i x [] (sym is ∙ e)) ∙ nil_behind keys)

pub row_live : (s : Layout) (file : ℕ) (dead : List ℕ) (i : ℕ) (x : Row) (keys more : List CodeMove) (code : List ℕ) (b : Bool) → b ≡ list_any (λ r. r == i) dead → b ≡ false → code ≡ key_code s (key_of s x)
    → more ≡ keys ++ (code, Some (record { segment = file; row = i })) ∷ [] → more ≡ keys ++ live_codes s file dead i (x ∷ [])
row_live s file dead i x keys more code b is e same added =
    added ∙ ap (λ (c : List ℕ). keys ++ (c, Some (record { segment = file; row = i })) ∷ []) same
    ∙ ap (λ (ks : List CodeMove). keys ++ ks) (sym (codes_live s file dead i x [] (sym is ∙ e)))

-- ---- a code that is too long

module _ (s : Layout) (dead : List ℕ) where
  pub long_behind : (i : ℕ) (x : Row) (xs : List Row) → HasLongCode s dead (i + 1) xs → HasLongCode s dead i (x ∷ xs)
  long_behind i x xs h =
      let at : i + 1 + h.place ≡ i + suc h.place = omega arith in
      record { place = suc h.place; row = h.row; there = h.there; live = ap (λ n. list_any (λ r. r == n) dead) (sym at) ∙ h.live; long = h.long }

  pub long_here : (i : ℕ) (x : Row) (xs : List Row) → list_any (λ r. r == i) dead ≡ false → most_code_bytes < length (key_code s (key_of s x)) → HasLongCode s dead i (x ∷ xs)
  long_here i x xs live long = let at : i + 0 ≡ i = omega arith in record { place = 0; row = x; there = refl; live = ap (λ n. list_any (λ r. r == n) dead) at ∙ live; long = long }

pub long_first : (s : Layout) (dead : List ℕ) (i : ℕ) (x : Row) (xs : List Row) → HasLongCode s dead i (x ∷ []) → HasLongCode s dead i (x ∷ xs)
long_first s dead i x xs h = go h.place h.row h.there h.live h.long
  where
    go : (p : ℕ) (row : Row) → slice_get (x ∷ []) p ≡ Some row → list_any (λ r. r == i + p) dead ≡ false → most_code_bytes < length (key_code s (key_of s row)) → HasLongCode s dead i (x ∷ xs)
    go zero row there live long = record { place = 0; row = row; there = there; live = live; long = long }
    go (suc p) row there live long = cc

in_front : (n i : ℕ) (xs : List Row) (x : Row) → slice_get (take n xs) i ≡ Some x → slice_get xs i ≡ Some x
in_front zero i xs x e = cc
in_front (suc n) i [] x e = e
in_front (suc n) zero (y ∷ xs) x e = e
in_front (suc n) (suc i) (y ∷ xs) x e = in_front n i xs x e

behind : (n i : ℕ) (xs : List Row) (x : Row) → slice_get (drop n xs) i ≡ Some x → slice_get xs (n + i) ≡ Some x
behind zero i xs x e = let same : 0 + i ≡ i = omega arith in ap (slice_get xs) same ∙ e
behind (suc n) i [] x e = cc
behind (suc n) i (y ∷ xs) x e = let same : suc n + i ≡ suc (n + i) = omega arith in ap (slice_get (y ∷ xs)) same ∙ behind n i xs x e

-- a block's row is one of the file's
pub long_in_file : (s : Layout) (dead : List ℕ) (b : ℕ) (rows : List Row) → HasLongCode s dead (b * 1024) (take 1024 (drop (b * 1024) rows)) → HasLongCode s dead 0 rows
long_in_file s dead b rows h =
    let at : b * 1024 + h.place ≡ 0 + (b * 1024 + h.place) = omega arith in
    record {
      place = b * 1024 + h.place;
      row = h.row;
      there = behind (b * 1024) h.place rows h.row (in_front 1024 h.place (drop (b * 1024) rows) h.row h.there);
      live = ap (λ n. list_any (λ r. r == n) dead) (sym at) ∙ h.live;
      long = h.long;
    }

-- ---- blocks

take_none : (m : ℕ) → take {A = Row} m [] ≡ []
take_none zero = refl
take_none (suc m) = refl

pub take_next : (n m : ℕ) (xs : List Row) → take (n + m) xs ≡ take n xs ++ take m (drop n xs)
take_next zero m xs = let same : 0 + m ≡ m = omega arith in ap (λ k. take k xs) same
take_next (suc n) m [] = let same : suc n + m ≡ suc (n + m) = omega arith in ap (λ k. take {A = Row} k []) same ∙ sym (take_none m)
take_next (suc n) m (x ∷ xs) = let same : suc n + m ≡ suc (n + m) = omega arith in ap (λ k. take k (x ∷ xs)) same ∙ ap (λ (ys : List Row). x ∷ ys) (take_next n m xs)

cut_long : (n : ℕ) (xs : List Row) → n ≤ length xs → length (take n xs) ≡ n
cut_long zero xs le = refl
cut_long (suc n) [] le = absurd (omega arith)
cut_long (suc n) (x ∷ xs) le = ap suc (cut_long n xs (omega arith))

pub take_all : (n : ℕ) (xs : List Row) → length xs ≤ n → take n xs ≡ xs
take_all zero [] le = refl
take_all zero (x ∷ xs) le = absurd (omega arith)
take_all (suc n) [] le = refl
take_all (suc n) (x ∷ xs) le = ap (λ (ys : List Row). x ∷ ys) (take_all n xs (omega arith))

taken : (n : ℕ) (xs : List Row) → (length (take n xs) ≤ n) × (length (take n xs) ≤ length xs)
taken zero xs = (omega arith, omega arith)
taken (suc n) [] = (omega arith, omega arith)
taken (suc n) (x ∷ xs) = let more = taken n xs in let a = more.0 in let b = more.1 in (omega arith, omega arith)

left_over : (n : ℕ) (xs : List Row) → length (drop n xs) ≡ length xs - n
left_over zero xs = omega arith
left_over (suc n) [] = omega arith
left_over (suc n) (x ∷ xs) = left_over n xs ∙ omega arith

-- a segment has as many blocks as its rows fill
pub segment_blocks : (s : Layout) (f : Footer) (file : List ℕ) (rows : List Row) → IsSegmentOf s f file rows → (length f.blocks ≡ (length rows + 1023) / 1024) × (f.rows ≡ length rows)
segment_blocks s f file rows is =
    (ap (λ (g : Footer). length g.blocks) is.footer_is ∙ length-block_marks s 0 (blocks_of rows) ∙ length-blocks_of rows, ap (λ (g : Footer). g.rows) is.footer_is)

-- the codes of one block more
pub codes_next : (s : Layout) (f : Footer) (bytes : List ℕ) (file : ℕ) (dead : List ℕ) (b : ℕ) (rows : List Row) (so_far longer : List CodeMove) → IsSegmentOf s f bytes rows → b < length f.blocks
    → so_far ≡ live_codes s file dead 0 (take (b * 1024) rows) → longer ≡ so_far ++ live_codes s file dead (b * 1024) (take 1024 (drop (b * 1024) rows))
    → longer ≡ live_codes s file dead 0 (take ((b + 1) * 1024) rows)
codes_next s f bytes file dead b rows so_far longer is lt before added =
    let number = (segment_blocks s f bytes rows is).0 in
    let within : b * 1024 ≤ length rows = omega arith in
    let long = cut_long (b * 1024) rows within in
    let at : 0 + length (take (b * 1024) rows) ≡ b * 1024 = omega arith in
    let next : b * 1024 + 1024 ≡ (b + 1) * 1024 = omega arith in
    let block = take 1024 (drop (b * 1024) rows) in
    added ∙ ap (λ (xs : List CodeMove). xs ++ live_codes s file dead (b * 1024) block) before
    ∙ ap (λ n. live_codes s file dead 0 (take (b * 1024) rows) ++ live_codes s file dead n block) (sym at)
    ∙ sym (codes_append s file dead 0 (take (b * 1024) rows) block)
    ∙ ap (live_codes s file dead 0) (sym (take_next (b * 1024) 1024 rows) ∙ ap (λ n. take n rows) next)

-- behind its last block there is none
pub codes_all : (s : Layout) (f : Footer) (bytes : List ℕ) (file : ℕ) (dead : List ℕ) (n : ℕ) (rows : List Row) (codes : List CodeMove) → IsSegmentOf s f bytes rows → length f.blocks ≤ n
    → codes ≡ live_codes s file dead 0 (take (n * 1024) rows) → codes ≡ live_codes s file dead 0 rows
codes_all s f bytes file dead n rows codes is le so_far =
    let number = (segment_blocks s f bytes rows is).0 in
    so_far ∙ ap (live_codes s file dead 0) (take_all (n * 1024) rows (omega arith))

-- a block without a live row has none
pub codes_skip : (s : Layout) (f : Footer) (bytes : List ℕ) (file : ℕ) (dead : List ℕ) (b to : ℕ) (rows : List Row) (keys : List CodeMove) → IsSegmentOf s f bytes rows
    → ((r : ℕ) → b * 1024 ≤ r → r < to → list_any (λ d. d == r) dead ≡ true) → ((r : ℕ) → r < f.rows → r < b * 1024 + 1024 → r < to)
    → keys ≡ keys ++ live_codes s file dead (b * 1024) (take 1024 (drop (b * 1024) rows))
codes_skip s f bytes file dead b to rows keys is all within =
    let count = (segment_blocks s f bytes rows is).1 in
    let few = taken 1024 (drop (b * 1024) rows) in
    let few0 = few.0 in
    let few1 = few.1 in
    let behind = left_over (b * 1024) rows in
    let none = codes_none s file dead (b * 1024) (take 1024 (drop (b * 1024) rows)) (λ r le lt. all r le (within r (omega arith) (omega arith))) in
    sym (ap (λ (xs : List CodeMove). keys ++ xs) none ∙ no_more keys)
  where
    no_more : (xs : List CodeMove) → xs ++ [] ≡ xs
    no_more [] = refl
    no_more (x ∷ xs) = ap (λ (ys : List CodeMove). x ∷ ys) (no_more xs)

-- the codes of a block that was read
pub codes_of_block : (s : Layout) (reader : ReaderView) (f : Footer) (file : ℕ) (dead : List ℕ) (b : ℕ) (found : List Row) (keys longer : List CodeMove)
    → OfFile reader (λ bytes. (rows : List Row) → IsSegmentOf s f bytes rows → slice_get (blocks_of rows) b ≡ Some found)
    → longer ≡ keys ++ live_codes s file dead (b * 1024) found
    → OfFile reader (λ bytes. (rows : List Row) → IsSegmentOf s f bytes rows → longer ≡ keys ++ live_codes s file dead (b * 1024) (take 1024 (drop (b * 1024) rows)))
codes_of_block s reader f file dead b found keys longer of_segment added bytes told rows is =
    added ∙ ap (λ (xs : List Row). keys ++ live_codes s file dead (b * 1024) xs) (block_is b rows found (of_segment bytes told rows is))

-- a block with a code that is too long is none of a segment with short codes
pub long_is_none : (s : Layout) (reader : ReaderView) (f : Footer) (dead : List ℕ) (b : ℕ) (found : List Row)
    → OfFile reader (λ bytes. (rows : List Row) → IsSegmentOf s f bytes rows → slice_get (blocks_of rows) b ≡ Some found)
    → HasLongCode s dead (b * 1024) found → OfFile reader (IsNoShortSegment s f dead)
long_is_none s reader f dead b found of_segment long bytes told rows is short =
    short (long_in_file s dead b rows (subst (HasLongCode s dead (b * 1024)) (block_is b rows found (of_segment bytes told rows is)) long))

pub no_short : (s : Layout) (reader : ReaderView) (f : Footer) (dead : List ℕ) (e : ReadFault) → OnDamage e (λ damaged. OfFile reader (IsNoSegment s f))
    → OnDamage e (λ damaged. OfFile reader (IsNoShortSegment s f dead))
no_short s reader f dead e h = on_damage e (λ damaged. OfFile reader (IsNoSegment s f)) (λ damaged. OfFile reader (IsNoShortSegment s f dead)) (λ damaged none bytes told rows is short. none bytes told rows is) h

-- ---- over the blocks of a file

pub codes_step : (s : Layout) (f f' : Footer) (number number' : ℕ) (old now : ReaderView) (dead : List ℕ) (b : ℕ) (keys longer : List CodeMove) → f' ≡ f → number' ≡ number → now.bytes ≡ old.bytes → b < length f.blocks
    → OfFile old (λ file. (rows : List Row) → IsSegmentOf s f file rows → keys ≡ live_codes s number dead 0 (take (b * 1024) rows))
    → OfFile now (λ file. (rows : List Row) → IsSegmentOf s f' file rows → longer ≡ keys ++ live_codes s number' dead (b * 1024) (take 1024 (drop (b * 1024) rows)))
    → OfFile old (λ file. (rows : List Row) → IsSegmentOf s f file rows → longer ≡ live_codes s number dead 0 (take ((b + 1) * 1024) rows))
codes_step s f f' number number' old now dead b keys longer kept same bytes lt so_far added file told rows is =
    codes_next s f file number dead b rows keys longer is lt (so_far file told rows is)
    (subst (λ n. longer ≡ keys ++ live_codes s n dead (b * 1024) (take 1024 (drop (b * 1024) rows))) same
    (added file (bytes ∙ told) rows (subst (λ (g : Footer). IsSegmentOf s g file rows) (sym kept) is)))

pub keys_damage : (s : Layout) (f f' : Footer) (number number' : ℕ) (old now : ReaderView) (dead : List ℕ) (b : ℕ) (e : ReadFault) → f' ≡ f → number' ≡ number → now.bytes ≡ old.bytes
    → OnDamage e (IsKeyDamage s f' number' dead now b) → OnDamage e (IsKeysDamage s f number dead old)
keys_damage s f f' number number' old now dead b e kept same bytes h =
    on_damage e (IsKeyDamage s f number dead now b) (IsKeysDamage s f number dead old)
    (λ d is. (b, record { there = is.there; live = is.live; is = record { file_is = is.is.file_is; part_is = is.is.part_is; shows = λ file told. is.is.shows file (bytes ∙ told) } }))
    (subst (λ n. OnDamage e (IsKeyDamage s f n dead now b)) same (subst (λ (g : Footer). OnDamage e (IsKeyDamage s g number' dead now b)) kept h))

pub keys_intact : (s : Layout) (f f' : Footer) (old now : ReaderView) (dead : List ℕ) (e : ReadFault) → f' ≡ f → now.bytes ≡ old.bytes
    → OnDamage e (λ damaged. OfFile now (IsNoShortSegment s f' dead)) → OnDamage e (λ damaged. OfFile old (IsNoShortSegment s f dead))
keys_intact s f f' old now dead e kept bytes h =
    on_damage e (λ damaged. OfFile now (IsNoShortSegment s f dead)) (λ damaged. OfFile old (IsNoShortSegment s f dead)) (λ d none file told. none file (bytes ∙ told))
    (subst (λ (g : Footer). OnDamage e (λ damaged. OfFile now (IsNoShortSegment s g dead))) kept h)

pub live_there : (dead : List ℕ) (rows b to : ℕ) → (r : ℕ) × (b * 1024 ≤ r) × (r < to) × (list_any (λ d. d == r) dead ≡ false) → to ≤ rows → to ≤ b * 1024 + 1024 → HasLive dead rows b
live_there dead rows b to h few near = let low = h.1 in let high = h.2 in record { row = h.0; from = h.1; within = omega arith; there = omega arith; live = h.3 }

pub block_damage : (s : Layout) (f : Footer) (number : ℕ) (dead : List ℕ) (reader : ReaderView) (b : ℕ) (e : ReadFault) → b < length f.blocks → HasLive dead f.rows b
    → OnDamage e (IsDamage number (part.Block b) (λ shown. OfFile reader (λ file. OfBlock f b (λ mark. BlockShown s mark (block_in file mark) shown))))
    → OnDamage e (IsKeyDamage s f number dead reader b)
block_damage s f number dead reader b e there live h =
    on_damage e (IsDamage number (part.Block b) (λ shown. OfFile reader (λ file. OfBlock f b (λ mark. BlockShown s mark (block_in file mark) shown)))) (IsKeyDamage s f number dead reader b)
    (λ d is. record { there = there; live = live; is = record { file_is = is.file_is; part_is = is.part_is; shows = λ file told mark got. inl (is.shows file told mark got) } }) h

-- ---- no damage is passed over

-- the blocks below this one that have a live row are of rows, and so is this one, where it has one
pub whole_step : (s : Layout) (f f' : Footer) (old now : ReaderView) (dead : List ℕ) (b : ℕ) → f' ≡ f → now.bytes ≡ old.bytes
    → OfFile old (λ file. (i : ℕ) → i < b → HasLive dead f.rows i → IsWhole s f file i)
    → OfFile now (λ file. HasLive dead f'.rows b → IsWhole s f' file b)
    → OfFile old (λ file. (i : ℕ) → i < b + 1 → HasLive dead f.rows i → IsWhole s f file i)
whole_step s f f' old now dead b kept bytes below this file told i lt live = go (i == b) refl
  where
    go : (t : Bool) → (i == b) ≡ t → IsWhole s f file i
    go true e =
        let at = eqb-true i b e in
        let here = subst (λ (g : Footer). HasLive dead g.rows b) (sym kept) (subst (λ (n : ℕ). HasLive dead f.rows n) at live) in
        subst (λ (n : ℕ). IsWhole s f file n) (sym at) (subst (λ (g : Footer). IsWhole s g file b) kept (this file (bytes ∙ told) here))
    go false e = let apart = eqb-false i b e in below file told i (omega arith) live

-- a footer tells of no block above its last
pub whole_all : (s : Layout) (f : Footer) (file : List ℕ) (dead : List ℕ) (n : ℕ) → n ≡ length f.blocks
    → ((i : ℕ) → i < n → HasLive dead f.rows i → IsWhole s f file i) → (i : ℕ) → HasLive dead f.rows i → IsWhole s f file i
whole_all s f file dead n count below i live mark at =
    let lt = slice_get_within f.blocks i mark at in below i (omega arith) live mark at
