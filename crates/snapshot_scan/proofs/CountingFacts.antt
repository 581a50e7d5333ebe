-- How often a scan reads.
use Rattle.std.proofs.Common.{◌≡◌, refl, ap, sym, ◌∙◌, ℕ, zero, suc, ◌+◌, ◌-◌, ◌<◌, ◌≤◌, List, [], ◌∷◌, length, slice_get, slice_set, Option, Some, None, Result, Ok, Err, IfSome, arith}
use Rattle.dev_traits.specs.Reader.{ReaderView}
use Rattle.dev_traits.specs.declared.faults.ReadFault.{ReadFault}
use Rattle.pk_values.specs.Schemas.{Layout}
use Rattle.segment_read.specs.Reads.{Reading}
use Rattle.row_merge.specs.Cursors.{CursorView}
use Rattle.snapshot_scan.specs.Parts.{PartView, read_by}
use Rattle.dev_traits.specs.declared.faults.ReadFault.TheVariants as read
use Rattle.snapshot_scan.specs.Scans.{block_count, blocks_ahead, blocks_left, IsCounted, IsDue, ReadOn, reads_in_all, Taken}
use Rattle.snapshot_scan.specs.Snapshots.{fault_count, read_count, ReadsPart}
use Rattle.snapshot_scan.proofs.ListFacts.{none_some, some_one}
use Rattle.snapshot_scan.proofs.LeftFacts.{got_within, get_there, one_less}

read_set : (ps : List PartView) (i : ℕ) (p : PartView) (reader : ReaderView) → slice_get ps i ≡ Some p → read_count (slice_set ps i (read_by reader p)) + p.reader.reads ≡ read_count ps + reader.reads
read_set [] i p reader e = absurd (none_some p e)
read_set (x ∷ ps) zero p reader e = let same = ap (λ (q : PartView). q.reader.reads) (some_one x p e) in omega arith
read_set (x ∷ ps) (suc i) p reader e = let more = read_set ps i p reader e in omega arith

left_read : (ps : List PartView) (cs : List CursorView) (i : ℕ) (p : PartView) (reader : ReaderView) → slice_get ps i ≡ Some p → blocks_left (slice_set ps i (read_by reader p)) cs ≡ blocks_left ps cs
left_read [] cs i p reader e = absurd (none_some p e)
left_read (x ∷ ps) [] zero p reader e = refl
left_read (x ∷ ps) [] (suc i) p reader e = refl
left_read (x ∷ ps) (c ∷ cs) zero p reader e = ap (λ (q : PartView). blocks_ahead c.ahead (length q.footer.blocks) + blocks_left ps cs) (sym (some_one x p e))
left_read (x ∷ ps) (c ∷ cs) (suc i) p reader e = ap (λ n. blocks_ahead c.ahead (length x.footer.blocks) + n) (left_read ps cs i p reader e)

left_set : (ps : List PartView) (cs : List CursorView) (i : ℕ) (p : PartView) (old new : CursorView) → slice_get ps i ≡ Some p → slice_get cs i ≡ Some old
    → blocks_left ps (slice_set cs i new) + blocks_ahead old.ahead (length p.footer.blocks) ≡ blocks_left ps cs + blocks_ahead new.ahead (length p.footer.blocks)
left_set [] cs i p old new e f = absurd (none_some p e)
left_set (x ∷ ps) [] i p old new e f = absurd (none_some old f)
left_set (x ∷ ps) (c ∷ cs) zero p old new e f =
    let parts = ap (λ (q : PartView). blocks_ahead new.ahead (length q.footer.blocks)) (some_one x p e) in
    let olds = ap (λ (q : PartView). blocks_ahead old.ahead (length q.footer.blocks)) (some_one x p e) in
    let same = ap (λ (d : CursorView). blocks_ahead d.ahead (length x.footer.blocks)) (some_one c old f) in
    omega arith
left_set (x ∷ ps) (c ∷ cs) (suc i) p old new e f = let more = left_set ps cs i p old new e f in omega arith

reads_more : {T : Type 0} (old new : ReaderView) (result : Result T ReadFault) → Reading 1 old new result → new.reads ≤ old.reads + 1
reads_more old new (Ok x) h = let reads = h.reads in omega arith
reads_more old new (Err e) h = h.reads

-- a read of one part
pub part_most : (s : Layout) (old new : List PartView) (i b : ℕ) (result : Result CursorView ReadFault) → ReadsPart i old new (λ part reader. ReadOn s part b reader result) → read_count new ≤ read_count old + 1
part_most s old new i b result reads =
    let count = read_set old i reads.part reads.reader reads.there in
    let now = ap read_count reads.now in
    let more = reads_more reads.part.reader reads.reader result reads.how.reading in
    omega arith

fewer : (o : Option ℕ) (b n : ℕ) → IfSome o (λ m. b < m) → b < n → blocks_ahead o n + 1 ≤ n - b
fewer None b n h lt = omega arith
fewer (Some m) b n h lt = omega arith

-- where it goes well, the block is passed
pub part_once : (s : Layout) (old new : List PartView) (cs : List CursorView) (i b : ℕ) (c : CursorView) → IsDue cs i b → ReadsPart i old new (λ part reader. ReadOn s part b reader (Ok c))
    → reads_in_all new (slice_set cs i c) ≤ reads_in_all old cs
part_once s old new cs i b c due reads =
    let count = read_set old i reads.part reads.reader reads.there in
    let now = ap read_count reads.now in
    let more = reads_more reads.part.reader reads.reader (Ok c) reads.how.reading in
    let left = left_set old cs i reads.part (record { rows = []; ahead = Some b }) c reads.there due in
    let moved = ap (λ ps. blocks_left ps (slice_set cs i c)) reads.now ∙ left_read old (slice_set cs i c) i reads.part reads.reader reads.there in
    let less = fewer c.ahead b (length reads.part.footer.blocks) reads.how.onward reads.how.within in
    omega arith

-- a row that is taken passes no block
pub taken_once : (ps : List PartView) (cs new : List CursorView) (w : ℕ) → length cs ≡ length ps → Taken cs w new → reads_in_all ps new ≡ reads_in_all ps cs
taken_once ps cs new w long taken =
    let lt = got_within cs w taken.cursor taken.there in
    let p = get_there ps w (omega arith) in
    let left = left_set ps cs w p.0 taken.cursor (one_less taken.cursor) p.1 taken.there in
    let now = ap (blocks_left ps) taken.now in
    omega arith

pub left_few : (ps : List PartView) (cs : List CursorView) → blocks_left ps cs ≤ block_count ps
left_few [] cs = omega arith
left_few (p ∷ ps) [] = omega arith
left_few (p ∷ ps) (c ∷ cs) = let more = left_few ps cs in let few = ahead_few c.ahead (length p.footer.blocks) in omega arith
  where
    ahead_few : (o : Option ℕ) (n : ℕ) → blocks_ahead o n ≤ n
    ahead_few None n = omega arith
    ahead_few (Some b) n = omega arith

-- ---- a failure is counted

faults_set : (ps : List PartView) (i : ℕ) (p : PartView) (reader : ReaderView) → slice_get ps i ≡ Some p → reader.faults ≤ fault_count (slice_set ps i (read_by reader p))
faults_set [] i p reader e = absurd (none_some p e)
faults_set (x ∷ ps) zero p reader e = omega arith
faults_set (x ∷ ps) (suc i) p reader e = let more = faults_set ps i p reader e in omega arith

pub part_counted : (s : Layout) (old new : List PartView) (i b : ℕ) (fault : ReadFault) → ReadsPart i old new (λ part reader. ReadOn s part b reader (Err fault)) → IsCounted new fault
part_counted s old new i b fault reads e =
    let one = reads.how.reading.failed e in
    let most = faults_set old i reads.part reads.reader reads.there in
    let now = ap fault_count reads.now in
    omega arith

-- where no fault lasts there is none to be counted
pub none_counted : (o : Option ReadFault) (parts : List PartView) → ((e : ReadFault) → o ≡ Some e → ⊥) → IfSome o (IsCounted parts)
none_counted None parts h = tt
none_counted (Some e) parts h = absurd (h e refl)
