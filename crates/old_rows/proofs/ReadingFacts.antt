-- What reading one block for its wanted rows comes to, and how it fails.
use Rattle.std.proofs.Common.{◌≡◌, inl, inr, refl, ap, sym, subst, ◌∙◌, ℕ, zero, suc, ◌/◌, ◌<◌, ◌≤◌, List, [], ◌∷◌, ◌++◌, length, get_or, Some, None, IfSome, slice_get, true, arith}
use Rattle.std.specs.Prelude.{All}
use Rattle.std.proofs.lemmas.Option.{slice_get-get_or}
use Rattle.column_page.specs.Footers.{is_footer}
use Rattle.column_page.specs.declared.footers.Footer.{Footer}
use Rattle.segment_read.proofs.FooterFacts.{row_inside}
use Rattle.dev_traits.specs.declared.faults.Damaged.{Damaged}
use Rattle.dev_traits.specs.declared.faults.ReadFault.{ReadFault}
use Rattle.dev_traits.specs.declared.faults.ReadFault.TheVariants as read
use Rattle.index_level0.specs.declared.place.Place.{Place}
use Rattle.pk_values.specs.declared.cells.Value.{Value}
use Rattle.rowsets.specs.Live.{Files, HasKey}
use Rattle.segment_read.specs.Reads.{OnDamage}
use Rattle.snapshot_scan.specs.Parts.{AreWrittenIn, IsBlockOf, PartView, ToldOfNoPiece}
use Rattle.snapshot_scan.specs.Scans.{IsBlockDamage}
use Rattle.snapshot_scan.specs.Snapshots.{SnapshotView}
use Rattle.partial_loads.specs.declared.changes.KeyChange.TheVariants.{Keep}
use Rattle.partial_loads.specs.declared.folds.Folded.{Folded}
use Rattle.old_rows.specs.PartsByFile.{FindsParts, IsPartOfFile, found_part}
use Rattle.old_rows.specs.Reading.{AreFilled, HaveKeys, IsReadingDamage, IsWrongPlace, Olds, TellsRows, index_damage, live_at}
use Rattle.old_rows.specs.Taking.{FillsMore, MayMiss}
use Rattle.old_rows.specs.Wanted.{InOneBlock, block_of}
use Rattle.old_rows.specs.declared.parts_by_file.PartsByFile.{PartsByFile}
use Rattle.old_rows.specs.declared.wanted.Wanted.{Wanted}
use Rattle.old_rows.proofs.BlockFacts.{no-part, none-of, not-there, old-row, past-end, wrong-there}

abbrev Zero : Wanted
Zero = record { place = record { segment = 0; row = 0 }; key = 0 }

abbrev NoKey : Folded
NoKey = record { code = []; key = []; change = Keep }

-- the place of the first row
abbrev pub first_place : List Wanted → Place
first_place wanted = (get_or wanted 0 Zero).place

within : {X : Type 0} (xs : List X) (i : ℕ) (x : X) → slice_get xs i ≡ Some x → i < length xs
within [] i x h = cc
within (y ∷ ys) zero x h = omega arith
within (y ∷ ys) (suc i) x h = let more = within ys i x h in omega arith

pub part-there : (ps : List PartView) (file i : ℕ) → IsPartOfFile ps file i → i < length ps
part-there ps file i is = within ps i is.part is.there

pub some-part : (ps : List PartView) (file i : ℕ) (P : PartView → Type 0) (is : IsPartOfFile ps file i) → IfSome (slice_get ps i) P → P is.part
some-part ps file i P is h = subst (λ o. IfSome o P) is.there h

pub to-part : (ps : List PartView) (file i : ℕ) (P : PartView → Type 0) (is : IsPartOfFile ps file i) → P is.part → IfSome (slice_get ps i) P
to-part ps file i P is h = subst (λ o. IfSome o P) (sym is.there) h

-- the block of a row that the file has
pub block-there : (v : SnapshotView) (wanted : List Wanted) (i : ℕ) (is : IsPartOfFile v.parts (first_place wanted).segment i) (footer : Footer) → footer ≡ is.part.footer → is_footer footer ≡ true
    → (first_place wanted).row < footer.rows → IfSome (slice_get v.parts i) (λ part. (first_place wanted).row / 1024 < length part.footer.blocks)
block-there v wanted i is footer same valid lt =
    to-part v.parts (first_place wanted).segment i (λ part. (first_place wanted).row / 1024 < length part.footer.blocks) is
    (subst (λ (f : Footer). (first_place wanted).row / 1024 < length f.blocks) same (row_inside footer (first_place wanted).row valid lt).0)

pub on-damage : (e : ReadFault) (P : Damaged → Type 0) → e ≡ read.Damaged index_damage → P index_damage → OnDamage e P
on-damage e P is h = subst (λ x. OnDamage x P) (sym is) h

module _ (v : SnapshotView) (keys : List Folded) (wanted : List Wanted) (some : 0 < length wanted) (have : HaveKeys keys wanted) where
  lost-first : ((key : List Value) → IsWrongPlace v (first_place wanted) key)
      → ((stored : Files) → TellsRows v stored → (key : List Value) → HasKey v.schema (live_at stored v) (first_place wanted) key → ⊥) → IsReadingDamage v keys wanted index_damage
  lost-first wrong lost = inl (record {
    told = refl;
    at = 0;
    row = get_or wanted 0 Zero;
    among = slice_get-get_or wanted 0 Zero some;
    key = get_or keys (get_or wanted 0 Zero).key NoKey;
    is = slice_get-get_or keys (get_or wanted 0 Zero).key NoKey (have 0 Zero some);
    wrong = wrong (get_or keys (get_or wanted 0 Zero).key NoKey).key;
    lost = λ stored tells has. lost stored tells (get_or keys (get_or wanted 0 Zero).key NoKey).key has;
  })

  -- no part is of the file
  pub no-file : (found : PartsByFile) → FindsParts found v.parts → found_part found (first_place wanted).segment ≡ None → IsReadingDamage v keys wanted index_damage
  no-file found finds none =
      lost-first (λ key. inl (none-of v found finds (first_place wanted).segment none)) (λ stored tells key has. no-part v found stored finds (first_place wanted) key none has)

  -- the file has fewer rows
  pub past-file : (i : ℕ) (is : IsPartOfFile v.parts (first_place wanted).segment i) → is.part.footer.rows ≤ (first_place wanted).row → IsReadingDamage v keys wanted index_damage
  past-file i is past =
      lost-first (λ key. inr (i, is.part, is.there, is.number, inl past)) (λ stored tells key has. past-end v i is.part is.there stored tells (first_place wanted) key is.number past has)

  -- its block is damaged
  pub broken-block : (i : ℕ) (is : IsPartOfFile v.parts (first_place wanted).segment i) (e : ReadFault) → OnDamage e (IsBlockDamage v.schema is.part ((first_place wanted).row / 1024))
      → ToldOfNoPiece v.schema is.part e → OnDamage e (IsReadingDamage v keys wanted)
  broken-block i is (read.Damaged d) damage none = inr (record {
    i = i;
    part = is.part;
    there = is.there;
    at = 0;
    row = get_or wanted 0 Zero;
    among = slice_get-get_or wanted 0 Zero some;
    file = is.number;
    damage = damage;
    none = none;
  })
  broken-block i is read.StoreFault damage none = tt
  broken-block i is read.Memory damage none = tt

  -- all stand in one block
  at-row : (ws : List Wanted) (at : ℕ) (u : Wanted) → slice_get ws at ≡ Some u → (P : Wanted → Type 0) → All P ws → P u
  at-row [] at u h P all = cc
  at-row (w ∷ ws) zero u h P all = subst P (some_same w u h) (all 0 w (omega arith))
    where
      some_same : (x y : Wanted) → Some x ≡ Some y → x ≡ y
      some_same x y e = cc
  at-row (w ∷ ws) (suc at) u h P all = at-row ws at u h P (λ j d lt. all (suc j) d (omega arith))

  module _ (one : InOneBlock wanted) (i : ℕ) (is : IsPartOfFile v.parts (first_place wanted).segment i) (rows : List (List Value))
      (are : AreWrittenIn v.schema is.part ((first_place wanted).row / 1024) rows) (bytes : IsBlockOf v.schema is.part ((first_place wanted).row / 1024) rows)
      (inside : (first_place wanted).row / 1024 < length is.part.footer.blocks) where
    block-is : (at : ℕ) (u : Wanted) → slice_get wanted at ≡ Some u → block_of u.place ≡ block_of (first_place wanted)
    block-is at u h = go wanted refl
      where
        go : (ws : List Wanted) → wanted ≡ ws → block_of u.place ≡ block_of (first_place wanted)
        go [] e = absurd (let none : length wanted ≡ 0 = ap length e in omega (arith, some, none))
        go (w ∷ ws) e = at-row wanted at u h (λ x. block_of x.place ≡ block_of w.place) (one w ws e) ∙ ap (λ xs. block_of (get_or xs 0 Zero).place) (sym e)

    file-is : (at : ℕ) (u : Wanted) → slice_get wanted at ≡ Some u → is.part.number ≡ u.place.segment
    file-is at u h = is.number ∙ sym (ap (λ b. b.0) (block-is at u h))

    place-is : (at : ℕ) (u : Wanted) → slice_get wanted at ≡ Some u → (first_place wanted).row / 1024 ≡ u.place.row / 1024
    place-is at u h = sym (ap (λ b. b.1) (block-is at u h))

    pub fills : (old new : Olds) → FillsMore v.schema rows is.part.dead keys wanted old new → (done : List Wanted) → AreFilled v keys done old → AreFilled v keys (done ++ wanted) new
    fills old new more done filled =
        more v done (λ j w f row at there taken. old-row v i is.part is.there ((first_place wanted).row / 1024) rows are w.place f.key row inside bytes (file-is j w at) (place-is j w at) taken) filled

    pub misses : (e : ReadFault) → MayMiss v.schema rows is.part.dead keys wanted e → OnDamage e (IsReadingDamage v keys wanted)
    misses (read.Damaged d) may =
        let m = may.damage in
        inl (record {
          told = m.told;
          at = m.at;
          row = m.row;
          among = m.among;
          key = m.key;
          is = m.is;
          wrong = inr (i, is.part, is.there, file-is m.at m.row m.among, wrong-there v i is.part is.there ((first_place wanted).row / 1024) rows are m.row.place m.key.key (place-is m.at m.row m.among) bytes m.missing);
          lost = λ stored tells has. not-there v i is.part is.there ((first_place wanted).row / 1024) rows are stored tells m.row.place m.key.key (file-is m.at m.row m.among) (place-is m.at m.row m.among) m.missing has;
        })
    misses read.StoreFault may = tt
    misses read.Memory may = tt
