-- Damage that is found in segments, in the words of the records that name them.
use Rattle.std.proofs.Common.{◌≡◌, ◌⊎◌, inl, inr, refl, ap, sym, subst, ◌∙◌, ℕ, zero, suc, ◌+◌, ◌<◌, List, [], ◌∷◌, ◌++◌, map, length, slice_get, Option, Some, None, IsSome, Result, Ok, Err, Bool, true, false, ◌==◌, ◌||◌, if◌then◌else◌, arith}
use Rattle.std.specs.List.{AllByRecursion, list_any}
use Rattle.std.proofs.lemmas.Bool.{eqb-true}
use Rattle.pk_values.specs.Schemas.{Layout}
use Rattle.column_page.specs.declared.footers.BlockMark.{BlockMark}
use Rattle.column_page.specs.declared.footers.Footer.{Footer}
use Rattle.dev_traits.specs.Image.{Image, file}
use Rattle.dev_traits.specs.Reader.{ReaderView}
use Rattle.dev_traits.specs.View.{View, Told}
use Rattle.dev_traits.specs.declared.faults.Damaged.{Damaged}
use Rattle.dev_traits.specs.declared.faults.ReadFault.{ReadFault}
use Rattle.dev_traits.specs.declared.faults.ReadFault.TheVariants as read
use Rattle.segment_read.specs.Reads.{KnowsFooter, OnDamage}
use Rattle.segment_read.specs.declared.segments.Segment.{Segment}
use Rattle.rowsets.specs.Marks.{Rises}
use Rattle.journal_form.specs.declared.records.NewFile.{NewFile}
use Rattle.journal_form.specs.declared.records.ListedFile.{ListedFile}
use Rattle.journal_form.specs.Versions.{Rowset as ListedRowset, files_of}
use Rattle.version_journal.specs.Reading.{damage_of}
use Rattle.store_files.specs.Keys.{IsKeyDamage, IsKeysDamage}
use Rattle.store_files.specs.Named.{AreAttached, FileShown, IsDamageOfOne}
use Rattle.store_files.specs.Named as stored_files
use Rattle.store_files.specs.declared.attaching.NamedFile.{NamedFile}
use Rattle.tablet_state.specs.Seen.{segment_seen, segments_of}
use Rattle.tablet_state.specs.Stands.{told_file}
use Rattle.tablet_state.specs.State.{IsAttached, IsInHand, SameSegments, SegmentView, footer_at, footers_of, segment_of}
use Rattle.core_recover.specs.Damages.{HasBadBlock, HasNoSegment, IsLiveBlockDamage, IsFooterDamage, StandsIn, IsLiveDamage, IsNamedDamage}
use Rattle.core_recover.specs.Faults.{of_read}
use Rattle.core_recover.specs.Indexing.{numbers_in}
use Rattle.core_recover.specs.Keeping.{IsThere}
use Rattle.core_recover.specs.Naming.{AreNamed, Clash, IsAmong, IsListed}
use Rattle.core_recover.specs.Reading.{HasFiles, IsReading, named}
use Rattle.core_recover.specs.declared.faults.OpenFault.{OpenFault}
use Rattle.core_recover.specs.declared.faults.OpenFault.TheVariants as fault
use Rattle.core_recover.specs.declared.replaying.Replayed.{Replayed}
use Rattle.core_recover.proofs.AttachFacts.{all_one, attached_one, footer_found}
use Rattle.core_recover.proofs.FindingFacts.{segment_is}
use Rattle.core_recover.proofs.IndexingFacts.{OneByOne, OneFile, found_same, on_damage, one_by_one}
use Rattle.core_recover.proofs.ReadingFacts.{current_files}

some_one : {X : Type 0} (x y : X) → Some x ≡ Some y → x ≡ y
some_one x y e = cc

-- ---- a file's segment

no_segment : (gs : List SegmentView) (n : ℕ) → list_any (λ m. m == n) (numbers_in gs) ≡ false → segment_of gs n ≡ None
no_segment [] n h = refl
no_segment (g ∷ gs) n h = go (g.number == n) h (no_segment gs n)
  where
    go : (b : Bool) → (b || list_any (λ m. m == n) (numbers_in gs)) ≡ false → (list_any (λ m. m == n) (numbers_in gs) ≡ false → segment_of gs n ≡ None) → (if b then Some g else segment_of gs n) ≡ None
    go true k more = absurd (cc k)
    go false k more = more k

pub missing_live : (s : Layout) (segs : List SegmentView) (f : ListedFile) (damaged : Damaged) → list_any (λ m. m == f.file) (numbers_in segs) ≡ false → IsLiveDamage s (f ∷ []) segs damaged
missing_live s segs f damaged none = record { named = f; among = (0, refl); is = inl (record { none = no_segment segs f.file none }) }

pub bad_block : {R : Type 0} (view : R → ReaderView) (s : Layout) (segs : List (Segment R)) (i : ℕ) (g : Segment R) (f : ListedFile) (dead : List ℕ) (e : ReadFault) → Rises (numbers_in (segments_of view segs))
    → slice_get segs i ≡ Some g → g.number ≡ f.file → dead ≡ f.dead → OnDamage e (IsKeysDamage s g.footer g.number dead (view g.reader)) → OnDamage e (IsLiveDamage s (f ∷ []) (segments_of view segs))
bad_block view s segs i g f dead e rise at number dead_is h =
    on_damage e (IsKeysDamage s g.footer g.number dead (view g.reader)) (IsLiveDamage s (f ∷ []) (segments_of view segs))
    (λ d is. record {
      named = f;
      among = (0, refl);
      is = inr (record {
        segment = segment_seen view g;
        there = ap (segment_of (segments_of view segs)) (sym number) ∙ segment_is view segs i g rise at;
        is = subst (λ (ds : List ℕ). IsKeysDamage s g.footer f.file ds (view g.reader) d) dead_is (subst (λ (n : ℕ). IsKeysDamage s g.footer n dead (view g.reader) d) number is);
      });
    }) h

-- ---- the same segments before

keys_reader : (s : Layout) (f : Footer) (n : ℕ) (dead : List ℕ) (r q : ReaderView) (d : Damaged) → r.bytes ≡ q.bytes → IsKeysDamage s f n dead r d → IsKeysDamage s f n dead q d
keys_reader s f n dead r q d same w =
    (w.0, record { there = w.1.there; live = w.1.live; is = record { file_is = w.1.is.file_is; part_is = w.1.is.part_is; shows = λ file told. w.1.is.shows file (same ∙ told) } })

same_back : (old new : List SegmentView) → SameSegments old new → SameSegments new old
same_back old new same = record { footers = sym same.footers; bytes = sym same.bytes }

none_back : (old mid : List SegmentView) (n : ℕ) → OneByOne old mid → segment_of mid n ≡ None → segment_of old n ≡ None
none_back old mid n same none = go (segment_of old n) refl
  where
    apart : (h : SegmentView) → segment_of mid n ≡ None → segment_of mid n ≡ Some h → ⊥
    apart h a b = cc

    go : (o : Option SegmentView) → segment_of old n ≡ o → segment_of old n ≡ None
    go None e = e
    go (Some g) e = let w = found_same old mid n g same e in absurd (apart w.0 none w.1.0)

bad_back : (s : Layout) (old mid : List SegmentView) (f : ListedFile) (d : Damaged) → SameSegments old mid → HasBadBlock s mid f d → HasBadBlock s old f d
bad_back s old mid f d same bad =
    let w = found_same mid old f.file bad.segment (one_by_one mid old (same_back old mid same)) bad.there in
    record {
      segment = w.0;
      there = w.1.0;
      is = keys_reader s w.0.footer f.file f.dead bad.segment.reader w.0.reader d (sym w.1.1.bytes) (subst (λ (x : Footer). IsKeysDamage s x f.file f.dead bad.segment.reader d) (sym w.1.1.footer) bad.is);
    }

pub live_back : (s : Layout) (files more : List ListedFile) (old mid : List SegmentView) (d : Damaged) → SameSegments old mid → ((f : ListedFile) → StandsIn files f → StandsIn more f) → IsLiveDamage s files mid d → IsLiveDamage s more old d
live_back s files more old mid d same within damage =
    record { named = damage.named; among = within damage.named damage.among; is = go damage.is }
  where
    go : HasNoSegment mid damage.named ⊎ HasBadBlock s mid damage.named d → HasNoSegment old damage.named ⊎ HasBadBlock s old damage.named d
    go (inl none) = inl (record { none = none_back old mid damage.named.file (one_by_one old mid same) none.none })
    go (inr bad) = inr (bad_back s old mid damage.named d same bad)

-- ---- among files

pub one_within : (files : List ListedFile) (i : ℕ) (f : ListedFile) → slice_get files i ≡ Some f → (g : ListedFile) → StandsIn (f ∷ []) g → StandsIn files g
one_within files i f at g (zero, e) = (i, at ∙ e)
one_within files i f at g (suc k, e) = absurd (cc e)

in_front : (xs ys : List ListedFile) (i : ℕ) (x : ListedFile) → slice_get xs i ≡ Some x → StandsIn (xs ++ ys) x
in_front [] ys i x e = absurd (cc e)
in_front (y ∷ xs) ys zero x e = (0, e)
in_front (y ∷ xs) ys (suc i) x e = let w = in_front xs ys i x e in (suc w.0, w.1)

in_back : (xs ys : List ListedFile) (x : ListedFile) → StandsIn ys x → StandsIn (xs ++ ys) x
in_back [] ys x w = w
in_back (y ∷ xs) ys x w = let v = in_back xs ys x w in (suc v.0, v.1)

pub rowset_within : (rowsets : List ListedRowset) (j : ℕ) (files : ListedRowset) → slice_get rowsets j ≡ Some files → (g : ListedFile) → StandsIn files g → StandsIn (files_of rowsets) g
rowset_within [] j files at g w = absurd (cc at)
rowset_within (fs ∷ rowsets) zero files at g w =
    let same : files ≡ fs = sym (some_one fs files at) in
    in_front fs (files_of rowsets) w.0 g (ap (λ (xs : List ListedFile). slice_get xs w.0) (sym same) ∙ w.1)
rowset_within (fs ∷ rowsets) (suc j) files at g w = in_back fs (files_of rowsets) g (rowset_within rowsets j files at g w)

-- ---- files that were attached

module _ {R : Type 0} (view : R → ReaderView) (s : Layout) (v : View) where
  pub all_reading : (files : List NamedFile) (segs : List (Segment R)) (image : Image) → v.seen ≡ Some image → AreAttached view s v files segs → AllByRecursion (IsReading image) (segments_of view segs)
  all_reading [] [] image told are = tt
  all_reading [] (g ∷ segs) image told are = absurd are
  all_reading (x ∷ files) [] image told are = absurd are
  all_reading (x ∷ files) (g ∷ segs) image told are =
      (record { bytes = are.0.bytes image told ∙ ap (file image) (sym are.0.number) }, all_reading files segs image told are.1)

  there_of : (o : Option (List ℕ)) → IsSome o → (bytes : List ℕ) × (o ≡ Some bytes)
  there_of (Some bytes) is = (bytes, refl)
  there_of None is = absurd (cc is)

  one_there : (files : List NamedFile) (segs : List (Segment R)) (image : Image) (f : NewFile) → v.seen ≡ Some image → AreAttached view s v files segs → IsListed files f → IsThere s image f
  one_there files segs image f told are (i, at) =
      let w = attached_one view s v files segs i (record { number = f.file; rows = f.rows }) are at in
      let b = there_of (file image f.file) (w.1.1.there image told) in
      record { bytes = b.0; there = b.1; footer = w.0.footer; has = w.1.1.footer b.0 (w.1.1.bytes image told ∙ b.1); rows = w.1.1.counted }

  pub all_there : (files : List NamedFile) (segs : List (Segment R)) (image : Image) (fs : List NewFile) → v.seen ≡ Some image → AreAttached view s v files segs → AllByRecursion (IsListed files) fs → AllByRecursion (IsThere s image) fs
  all_there files segs image [] told are has = tt
  all_there files segs image (f ∷ fs) told are has = (one_there files segs image f told are has.0, all_there files segs image fs told are has.1)

-- ---- faults

pub read_damage : (e : ReadFault) (d : Damaged) → of_read e ≡ fault.Damaged d → e ≡ read.Damaged d
read_damage (read.Damaged x) d is = cc
read_damage read.StoreFault d is = absurd (cc is)
read_damage read.Memory d is = absurd (cc is)

pub memory_whole : (d : Damaged) → fault.Memory ≡ fault.Damaged d → ⊥
memory_whole d is = cc

pub store_whole : (d : Damaged) → fault.StoreFault ≡ fault.Damaged d → ⊥
store_whole d is = cc

pub damage_here : (e : ReadFault) (d : Damaged) (P : Damaged → Type 0) → e ≡ read.Damaged d → OnDamage e P → P d
damage_here e d P is h = subst (λ (x : ReadFault). OnDamage x P) is h

-- ---- damage of a footer

pub footer_damage : (s : Layout) (v : View) (fs : List NewFile) (files : List NamedFile) (image : Image) (d : Damaged) → v.seen ≡ Some image → AllByRecursion (λ (x : NamedFile). IsAmong fs x.number x.rows) files
    → IsDamageOfOne s v files d → IsFooterDamage s fs image d
footer_damage s v fs files image d told only (i, f, at, is) =
    let among = all_one (λ (x : NamedFile). IsAmong fs x.number x.rows) files i f only at in
    record {
      rows = f.rows;
      named = subst (λ (n : ℕ). IsAmong fs n f.rows) (sym is.file_is) among;
      part_is = is.part_is;
      shows = subst (λ (n : ℕ). FileShown s f.rows (file image n) d.shown) (sym is.file_is) (is.shows image told);
    }

-- ---- damage of a block

found_all : (P : SegmentView → Type 0) (gs : List SegmentView) (n : ℕ) (g : SegmentView) → segment_of gs n ≡ Some g → AllByRecursion P gs → P g × (g.number ≡ n)
found_all P [] n g is h = absurd (cc is)
found_all P (x ∷ gs) n g is h = go (x.number == n) refl is (found_all P gs n g)
  where
    go : (b : Bool) → (x.number == n) ≡ b → (if b then Some x else segment_of gs n) ≡ Some g → (segment_of gs n ≡ Some g → AllByRecursion P gs → P g × (g.number ≡ n)) → P g × (g.number ≡ n)
    go true e k more = let same = some_one x g k in (subst P same h.0, ap (λ (y : SegmentView). y.number) (sym same) ∙ eqb-true x.number n e)
    go false e k more = more k h.1

hand_found : (gs : List SegmentView) (n : ℕ) (f : Footer) → footer_at (footers_of gs) n ≡ Some f → segment_of gs n ≡ None → ⊥
hand_found [] n f at none = cc
hand_found (g ∷ gs) n f at none = go (g.number == n) at none (hand_found gs n f)
  where
    go : (b : Bool) → (if b then Some g.footer else footer_at (footers_of gs) n) ≡ Some f → (if b then Some g else segment_of gs n) ≡ None → (footer_at (footers_of gs) n ≡ Some f → segment_of gs n ≡ None → ⊥) → ⊥
    go true a k more = cc
    go false a k more = more a k

mark_at : (marks : List BlockMark) (b : ℕ) → b < length marks → (mark : BlockMark) × (slice_get marks b ≡ Some mark)
mark_at [] b lt = absurd (omega arith)
mark_at (m ∷ marks) zero lt = (m, refl)
mark_at (m ∷ marks) (suc b) lt = mark_at marks b (omega arith)

module _ (r : Replayed) (segs : List SegmentView) (image : Image) (has : HasFiles r segs) (reading : AllByRecursion (IsReading image) segs) (there : AllByRecursion (IsThere r.schema image) (named r)) where
  live_block : (f : ListedFile) (d : Damaged) → StandsIn (files_of r.current) f → IsInHand (footers_of segs) (told_file f) → IsThere r.schema image (told_file f) → HasBadBlock r.schema segs f d → IsLiveBlockDamage r.schema (files_of r.current) image d
  live_block f d among hand is bad =
      let known = found_all (IsAttached r.schema) segs f.file bad.segment bad.there has.attached in
      let reads = found_all (IsReading image) segs f.file bad.segment bad.there reading in
      let told = reads.0.bytes ∙ ap (file image) reads.1 ∙ is.there in
      let footer = footer_found segs f.file bad.segment bad.there in
      let mark = mark_at bad.segment.footer.blocks bad.is.0 bad.is.1.there in
      record {
        named = f;
        among = among;
        file_is = bad.is.1.is.file_is;
        bytes = is.bytes;
        there = is.there;
        footer = bad.segment.footer;
        has = known.0.known is.bytes told;
        rows = ap (λ (x : Footer). x.rows) (some_one bad.segment.footer hand.footer (sym footer ∙ hand.there)) ∙ hand.rows;
        block = bad.is.0;
        mark = mark.0;
        marked = mark.1;
        part_is = bad.is.1.is.part_is;
        live = bad.is.1.live;
        shows = bad.is.1.is.shows is.bytes told mark.0 mark.1;
      }

  pub live_damage : (d : Damaged) → IsLiveDamage r.schema (files_of r.current) segs d → IsNamedDamage r.schema (named r) (files_of r.current) image d
  live_damage d live = go live.is
    where
      hand : IsInHand (footers_of segs) (told_file live.named)
      hand = all_one (λ (f : ListedFile). IsInHand (footers_of segs) (told_file f)) (files_of r.current) live.among.0 live.named (current_files (IsInHand (footers_of segs)) r has.in_hand) live.among.1

      is : IsThere r.schema image (told_file live.named)
      is = all_one (λ (f : ListedFile). IsThere r.schema image (told_file f)) (files_of r.current) live.among.0 live.named (current_files (IsThere r.schema image) r there) live.among.1

      go : HasNoSegment segs live.named ⊎ HasBadBlock r.schema segs live.named d → IsNamedDamage r.schema (named r) (files_of r.current) image d
      go (inl none) = absurd (hand_found segs live.named.file hand.footer hand.there none.none)
      go (inr bad) = inr (live_block live.named d live.among hand is bad)

pub named_damage : (r : Replayed) (image : Image) (d : Damaged) → IsFooterDamage r.schema (named r) image d ⊎ ((d ≡ damage_of 0) × Clash (named r))
    → IsNamedDamage r.schema (named r) (files_of r.current) image d ⊎ Clash (named r)
named_damage r image d (inl footer) = inl (inl footer)
named_damage r image d (inr clash) = inr clash.1
