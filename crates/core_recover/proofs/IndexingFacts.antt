-- Segments whose live rows come into an index.
use Rattle.std.proofs.Common.{◌≡◌, refl, ap, sym, subst, ◌∙◌, ℕ, zero, suc, ◌+◌, ◌<◌, ◌≤◌, ◌^◌, ◌-◌, List, [], ◌∷◌, ◌++◌, map, length, min, take, get_or, set, slice_get, Option, Some, None, Result, Ok, Err, OnOk, IfErr, Bool, true, false, ◌==◌, if◌then◌else◌, arith, append_assoc}
use Rattle.std.specs.List.{AllByRecursion, list_any}
use Rattle.std.proofs.lemmas.Bool.{eq-eqb, ne_eqb, eqb-true}
use Rattle.std.proofs.lemmas.List.{map-append}
use Rattle.pk_values.specs.Schemas.{Layout}
use Rattle.pk_values.specs.declared.cells.Value.{Value}
use Rattle.column_page.specs.declared.footers.Footer.{Footer}
use Rattle.dev_traits.specs.Causes.{Counts, HasReadCause}
use Rattle.dev_traits.specs.Reader.{ReaderView, SameFile}
use Rattle.dev_traits.specs.declared.faults.Damaged.{Damaged}
use Rattle.dev_traits.specs.declared.faults.ReadFault.{ReadFault}
use Rattle.dev_traits.specs.declared.faults.ReadFault.TheVariants as read
use Rattle.segment_form.specs.Segments.{footer_of, segment_file}
use Rattle.segment_read.specs.Reads.{KnowsFooter, OfFile, OnDamage}
use Rattle.segment_read.specs.Rows.{IsSegmentOf}
use Rattle.segment_read.specs.declared.segments.Segment.{Segment}
use Rattle.rowsets.specs.Live.{Files, Part}
use Rattle.rowsets.specs.Marks.{Rises}
use Rattle.rowsets.specs.Indexing.{CodeMap, CodeMove, put_all}
use Rattle.journal_form.specs.declared.records.NewFile.{NewFile}
use Rattle.journal_form.specs.declared.records.ListedFile.{ListedFile}
use Rattle.journal_form.specs.Versions.{Rowset as ListedRowset, files_of}
use Rattle.journal_form.proofs.GoodFiles.{files_of-append}
use Rattle.store_files.specs.Indexes.{all_codes}
use Rattle.store_files.specs.Keys.{HaveShortCodes, IsNoShortSegment, live_codes}
use Rattle.tablet_state.specs.Stands.{part_of, told_file}
use Rattle.tablet_state.specs.Seen.{segment_seen, segments_of}
use Rattle.tablet_state.specs.State.{IsAttached, IsReadAs, SameSegments, SegmentView, footers_of, reader_faults, segment_of}
use Rattle.tablet_state.proofs.FileFacts.{all-append, all-first, all-last}
use Rattle.core_recover.specs.Indexing.{HasNoIndex, HasReaderCause, Indexes, ReadsRows, numbers_in}

some_one : {X : Type 0} (x y : X) → Some x ≡ Some y → x ≡ y
some_one x y e = cc

-- ---- the same segments

pub same_none : (gs : List SegmentView) → SameSegments gs gs
same_none gs = record { footers = refl; bytes = refl }

pub same_then : (a b c : List SegmentView) → SameSegments a b → SameSegments b c → SameSegments a c
same_then a b c first second = record { footers = second.footers ∙ first.footers; bytes = second.bytes ∙ first.bytes }

pub numbers_same : (old new : List SegmentView) → footers_of new ≡ footers_of old → numbers_in new ≡ numbers_in old
numbers_same old new same = sym (firsts new) ∙ ap (map (λ (p : ℕ × Footer). p.0)) same ∙ firsts old
  where
    firsts : (gs : List SegmentView) → map (λ (p : ℕ × Footer). p.0) (footers_of gs) ≡ numbers_in gs
    firsts [] = refl
    firsts (g ∷ gs) = ap (λ (ns : List ℕ). g.number ∷ ns) (firsts gs)

-- two segments of one file
pub record OneFile (g h : SegmentView) : Type 0 where
  pub number : h.number ≡ g.number
  pub footer : h.footer ≡ g.footer
  pub bytes : h.reader.bytes ≡ g.reader.bytes

abbrev pub OneByOne : List SegmentView → List SegmentView → Type 0
OneByOne [] [] = Unit {0}
OneByOne [] (h ∷ hs) = ⊥
OneByOne (g ∷ gs) [] = ⊥
OneByOne (g ∷ gs) (h ∷ hs) = OneFile g h × OneByOne gs hs

pub one_by_one : (old new : List SegmentView) → SameSegments old new → OneByOne old new
one_by_one [] [] same = tt
one_by_one [] (h ∷ hs) same = let e = same.bytes in absurd (cc e)
one_by_one (g ∷ gs) [] same = let e = same.bytes in absurd (cc e)
one_by_one (g ∷ gs) (h ∷ hs) same =
    let f : (h.number, h.footer) ∷ footers_of hs ≡ (g.number, g.footer) ∷ footers_of gs = same.footers in
    let b : h.reader.bytes ∷ map (λ (x : SegmentView). x.reader.bytes) hs ≡ g.reader.bytes ∷ map (λ (x : SegmentView). x.reader.bytes) gs = same.bytes in
    let pair : (h.number, h.footer) ≡ (g.number, g.footer) = head_one f in
    (record { number = ap (λ (p : ℕ × Footer). p.0) pair; footer = ap (λ (p : ℕ × Footer). p.1) pair; bytes = head_one b }, one_by_one gs hs (record { footers = tail_one f; bytes = tail_one b }))
  where
    head_one : {X : Type 0} {x y : X} {xs ys : List X} → x ∷ xs ≡ y ∷ ys → x ≡ y
    head_one e = cc

    tail_one : {X : Type 0} {x y : X} {xs ys : List X} → x ∷ xs ≡ y ∷ ys → xs ≡ ys
    tail_one e = cc

pub attached_same : (s : Layout) (old new : List SegmentView) → OneByOne old new → AllByRecursion (IsAttached s) old → AllByRecursion (IsAttached s) new
attached_same s [] [] same h = tt
attached_same s [] (y ∷ ys) same h = absurd same
attached_same s (x ∷ xs) [] same h = absurd same
attached_same s (x ∷ xs) (y ∷ ys) same h = (
  subst (λ (f : Footer). IsAttached s (record y { footer = f })) (sym same.0.footer)
      (record { is = h.0.is; known = λ file told. h.0.known file (sym same.0.bytes ∙ told) }),
  attached_same s xs ys same.1 h.1,
)

pub found_same : (old new : List SegmentView) (n : ℕ) (g : SegmentView) → OneByOne old new → segment_of old n ≡ Some g → (h : SegmentView) × ((segment_of new n ≡ Some h) × OneFile g h)
found_same [] [] n g same is = absurd (cc is)
found_same [] (y ∷ ys) n g same is = absurd same
found_same (x ∷ xs) [] n g same is = absurd same
found_same (x ∷ xs) (y ∷ ys) n g same is = go (x.number == n) refl is (found_same xs ys n g same.1)
  where
    at : (y.number == n) ≡ (x.number == n)
    at = ap (λ (k : ℕ). k == n) same.0.number

    go : (b : Bool) → (x.number == n) ≡ b → (if b then Some x else segment_of xs n) ≡ Some g → (segment_of xs n ≡ Some g → (h : SegmentView) × ((segment_of ys n ≡ Some h) × OneFile g h)) → (h : SegmentView) × ((segment_of (y ∷ ys) n ≡ Some h) × OneFile g h)
    go true e f more = (y, (ap (λ (b : Bool). if b then Some y else segment_of ys n) (at ∙ e), subst (λ (z : SegmentView). OneFile z y) (some_one x g f) same.0))
    go false e f more = let w = more f in (w.0, (ap (λ (b : Bool). if b then Some y else segment_of ys n) (at ∙ e) ∙ w.1.0, w.1.1))

pub read_as_same : (s : Layout) (stored : Files) (old new : List SegmentView) (f : NewFile) → OneByOne old new → IsReadAs s stored old f → IsReadAs s stored new f
read_as_same s stored old new f same is =
    let w = found_same old new f.file is.segment same is.there in
    record { segment = w.0; there = w.1.0; bytes = w.1.1.bytes ∙ is.bytes; footer = w.1.1.footer ∙ is.footer }

pub all_read_same : (s : Layout) (stored : Files) (old new : List SegmentView) (fs : List ListedFile) → OneByOne old new → AllByRecursion (ReadsRows s stored old) fs → AllByRecursion (ReadsRows s stored new) fs
all_read_same s stored old new [] same h = tt
all_read_same s stored old new (f ∷ fs) same h = (record { lawful = h.0.lawful; read = read_as_same s stored old new (told_file f) same h.0.read }, all_read_same s stored old new fs same h.1)

-- ---- codes one after the other

put_all-append : (xs ys : List CodeMove) (m : CodeMap) → put_all (xs ++ ys) m ≡ put_all ys (put_all xs m)
put_all-append [] ys m = refl
put_all-append (x ∷ xs) ys m = put_all-append xs ys _

all_codes-append : (s : Layout) (stored : Files) (xs ys : List Part) → all_codes s stored (xs ++ ys) ≡ all_codes s stored xs ++ all_codes s stored ys
all_codes-append s stored [] ys = refl
all_codes-append s stored (x ∷ xs) ys =
    ap (λ (cs : List CodeMove). live_codes s x.file x.dead 0 (stored x.file) ++ cs) (all_codes-append s stored xs ys) ∙ sym (append_assoc (live_codes s x.file x.dead 0 (stored x.file)) (all_codes s stored xs) (all_codes s stored ys))

pub indexes_none : (s : Layout) (segs : List SegmentView) (m : CodeMap) → Indexes s [] segs m m
indexes_none s segs m stored h = refl

pub indexes_then : (s : Layout) (xs ys : List ListedFile) (old mid : List SegmentView) (a b c : CodeMap) → SameSegments old mid → Indexes s xs old a b → Indexes s ys mid b c → Indexes s (xs ++ ys) old a c
indexes_then s xs ys old mid a b c same first second stored h =
    let one = first stored (all-first (ReadsRows s stored old) xs ys h) in
    let two = second stored (all_read_same s stored old mid ys (one_by_one old mid same) (all-last (ReadsRows s stored old) xs ys h)) in
    two ∙ ap (put_all (all_codes s stored (map part_of ys))) one ∙ sym (put_all-append (all_codes s stored (map part_of xs)) (all_codes s stored (map part_of ys)) a)
    ∙ ap (λ (cs : List CodeMove). put_all cs a) (sym (all_codes-append s stored (map part_of xs) (map part_of ys)) ∙ ap (all_codes s stored) (sym (map-append part_of xs ys)))

-- what can't be indexed among files
pub no_index_among : (s : Layout) (xs ys zs : List ListedFile) (old mid : List SegmentView) → SameSegments old mid → HasNoIndex s ys mid → HasNoIndex s (xs ++ (ys ++ zs)) old
no_index_among s xs ys zs old mid same against stored reads short =
    against stored (all_read_same s stored old mid ys (one_by_one old mid same) (all-first (ReadsRows s stored old) ys zs (all-last (ReadsRows s stored old) xs (ys ++ zs) reads)))
    (all-first (λ (f : ListedFile). HaveShortCodes s f.dead 0 (stored f.file)) ys zs (all-last (λ (f : ListedFile). HaveShortCodes s f.dead 0 (stored f.file)) xs (ys ++ zs) short))

-- ---- in a loop over files

pub take_got : {X : Type 0} (xs : List X) (i : ℕ) (x : X) → slice_get xs i ≡ Some x → take (i + 1) xs ≡ take i xs ++ x ∷ []
take_got [] i x is = cc
take_got (y ∷ xs) zero x is = ap (λ z. z ∷ []) (some_one y x is)
take_got (y ∷ xs) (suc i) x is = let e : suc i + 1 ≡ suc (i + 1) = omega arith in ap (λ n. take n (y ∷ xs)) e ∙ ap (λ zs. y ∷ zs) (take_got xs i x is)

split_at : {X : Type 0} (xs : List X) (i : ℕ) (x : X) → slice_get xs i ≡ Some x → (rest : List X) × (xs ≡ take i xs ++ (x ∷ rest))
split_at [] i x is = absurd (cc is)
split_at (y ∷ xs) zero x is = (xs, ap (λ z. z ∷ xs) (some_one y x is))
split_at (y ∷ xs) (suc i) x is = let w = split_at xs i x is in (w.0, ap (λ zs. y ∷ zs) w.1)

pub next_file : (s : Layout) (fs : List ListedFile) (i : ℕ) (f : ListedFile) (old mid : List SegmentView) (a b c : CodeMap) → slice_get fs i ≡ Some f → SameSegments old mid → Indexes s (take i fs) old a b → Indexes s (f ∷ []) mid b c
    → Indexes s (take (i + 1) fs) old a c
next_file s fs i f old mid a b c at same first second = subst (λ (xs : List ListedFile). Indexes s xs old a c) (sym (take_got fs i f at)) (indexes_then s (take i fs) (f ∷ []) old mid a b c same first second)

pub no_file_at : (s : Layout) (fs : List ListedFile) (i : ℕ) (f : ListedFile) (old mid : List SegmentView) → slice_get fs i ≡ Some f → SameSegments old mid → HasNoIndex s (f ∷ []) mid → HasNoIndex s fs old
no_file_at s fs i f old mid at same against =
    let w = split_at fs i f at in
    subst (λ (xs : List ListedFile). HasNoIndex s xs old) (sym w.1) (no_index_among s (take i fs) (f ∷ []) w.0 old mid same against)

files_got : (rs : List ListedRowset) (i : ℕ) (fs : ListedRowset) → slice_get rs i ≡ Some fs → files_of (take (i + 1) rs) ≡ files_of (take i rs) ++ fs
files_got rs i fs at = ap files_of (take_got rs i fs at) ∙ files_of-append (take i rs) (fs ∷ []) ∙ ap (λ (xs : List ListedFile). files_of (take i rs) ++ xs) (nil_last fs)
  where
    nil_last : (xs : List ListedFile) → xs ++ [] ≡ xs
    nil_last [] = refl
    nil_last (x ∷ xs) = ap (λ (ys : List ListedFile). x ∷ ys) (nil_last xs)

pub next_rowset : (s : Layout) (rs : List ListedRowset) (i : ℕ) (fs : ListedRowset) (old mid : List SegmentView) (a b c : CodeMap) → slice_get rs i ≡ Some fs → SameSegments old mid → Indexes s (files_of (take i rs)) old a b → Indexes s fs mid b c
    → Indexes s (files_of (take (i + 1) rs)) old a c
next_rowset s rs i fs old mid a b c at same first second = subst (λ (xs : List ListedFile). Indexes s xs old a c) (sym (files_got rs i fs at)) (indexes_then s (files_of (take i rs)) fs old mid a b c same first second)

pub no_rowset_at : (s : Layout) (rs : List ListedRowset) (i : ℕ) (fs : ListedRowset) (old mid : List SegmentView) → slice_get rs i ≡ Some fs → SameSegments old mid → HasNoIndex s fs mid → HasNoIndex s (files_of rs) old
no_rowset_at s rs i fs old mid at same against =
    let w = split_at rs i fs at in
    subst (λ (xs : List ListedFile). HasNoIndex s xs old) (sym (ap files_of w.1 ∙ files_of-append (take i rs) (fs ∷ w.0)))
    (no_index_among s (files_of (take i rs)) fs (files_of w.0) old mid same against)

-- ---- damage

pub on_damage : (e : ReadFault) (P Q : Damaged → Type 0) → ((d : Damaged) → P d → Q d) → OnDamage e P → OnDamage e Q
on_damage (read.Damaged d) P Q f h = f d h
on_damage read.StoreFault P Q f h = tt
on_damage read.Memory P Q f h = tt

pub if_err_damage : {T : Type 0} (r : Result T ReadFault) (P Q : Damaged → Type 0) → ((d : Damaged) → P d → Q d) → IfErr r (λ e. OnDamage e P) → IfErr r (λ e. OnDamage e Q)
if_err_damage (Ok x) P Q f h = tt
if_err_damage (Err e) P Q f h = on_damage e P Q f h

-- ---- faults of readers

not_err : {T E : Type 0} (x : T) (e : E) → Ok x ≡ Err e → ⊥
not_err x e is = cc

pub cause_then : {T U : Type 0} (old mid new : List SegmentView) (x : T) (r : Result U ReadFault) → HasReaderCause old mid (Ok x) → HasReaderCause mid new r → HasReaderCause old new r
cause_then old mid new x r first second none = second ((first none).well (λ e. not_err x read.StoreFault e))

pub cause_none : {T : Type 0} (segs : List SegmentView) (x : T) → HasReaderCause segs segs (Ok x)
cause_none segs x none = record { well = λ not. none; failed = λ is. absurd (not_err x read.StoreFault is) }

err_one : {T E : Type 0} (x y : E) → ◌≡◌ {A = Result T E} (Err x) (Err y) → x ≡ y
err_one {T} {E} x y e = cc

pub cause_over : {T U : Type 0} (old new : List SegmentView) (e : ReadFault) → HasReaderCause {T = T} old new (Err e) → HasReaderCause {T = U} old new (Err e)
cause_over old new e cause none = record {
  well = λ not. (cause none).well (λ is. not (ap Err (err_one e read.StoreFault is)));
  failed = λ is. (cause none).failed (ap Err (err_one e read.StoreFault is));
}

pub cause_ok : {T U : Type 0} (old new : List SegmentView) (x : T) (y : U) → HasReaderCause old new (Ok x) → HasReaderCause old new (Ok y)
cause_ok old new x y cause none = record { well = λ not. (cause none).well (λ is. not_err x read.StoreFault is); failed = λ is. absurd (not_err y read.StoreFault is) }

no_memory : read.Memory ≡ read.StoreFault → ⊥
no_memory e = cc

pub cause_memory : {T U : Type 0} (old new : List SegmentView) (x : T) → HasReaderCause old new (Ok x) → HasReaderCause {T = U} old new (Err read.Memory)
cause_memory old new x cause none = record { well = λ not. (cause none).well (λ is. not_err x read.StoreFault is); failed = λ is. absurd (no_memory (err_one read.Memory read.StoreFault is)) }

pub well_zero : {T : Type 0} (old new : List SegmentView) (x : T) → HasReaderCause old new (Ok x) → reader_faults old ≡ 0 → reader_faults new ≡ 0
well_zero old new x cause none = (cause none).well (λ is. not_err x read.StoreFault is)

pub take_whole : {X : Type 0} (n : ℕ) (xs : List X) → length xs ≤ n → take n xs ≡ xs
take_whole zero [] le = refl
take_whole zero (x ∷ xs) le = absurd (omega arith)
take_whole (suc n) [] le = refl
take_whole (suc n) (x ∷ xs) le = ap (λ (ys : List _). x ∷ ys) (take_whole n xs (omega arith))
