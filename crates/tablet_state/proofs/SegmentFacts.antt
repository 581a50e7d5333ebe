-- Segments in hand, and those of new files behind them.
use Rattle.std.proofs.Common.{◌≡◌, refl, ap, sym, subst, ◌∙◌, ℕ, ◌+◌, ◌<◌, ◌≤◌, List, [], ◌∷◌, ◌++◌, map, length, Some, None, Bool, true, false, ◌==◌, cond, if◌then◌else◌, arith, append_assoc}
use Rattle.std.specs.List.{AllByRecursion}
use Rattle.std.proofs.lemmas.Bool.{eq-eqb, ne_eqb}
use Rattle.pk_values.specs.Schemas.{Layout}
use Rattle.pk_values.specs.declared.cells.Value.{Value}
use Rattle.column_page.specs.declared.footers.Footer.{Footer}
use Rattle.segment_form.specs.Segments.{footer_of, segment_file}
use Rattle.rowsets.specs.Live.{Files}
use Rattle.rowsets.specs.Marks.{Rises}
use Rattle.rowsets.specs.Merging.{with_files}
use Rattle.journal_form.specs.declared.records.NewFile.{NewFile}
use Rattle.tablet_state.specs.Holding.{told_files}
use Rattle.tablet_state.specs.State.{IsAttached, IsInHand, IsReadAs, SegmentView, footer_at, footers_of, segment_of}
use Rattle.tablet_state.specs.Readies.{AreSealed, IsMadeOf, NewSegment, new_files}
use Rattle.tablet_state.specs.Adopting.{AreAdopted}

pub all_by : {X : Type 0} (P Q : X → Type 0) (xs : List X) → ((x : X) → P x → Q x) → AllByRecursion P xs → AllByRecursion Q xs
all_by P Q [] f h = tt
all_by P Q (x ∷ xs) f h = (f x h.0, all_by P Q xs f h.1)

nothing : {X Y : Type 0} (y : Y) → None ≡ Some y → X
nothing y e = absurd (cc e)

abbrev pub Below : ℕ → List SegmentView → Type 0
Below n segments = AllByRecursion (λ (g : SegmentView). g.number < n) segments

-- ---- what was found is found still

pub segment_kept : (old more : List SegmentView) (n : ℕ) (g : SegmentView) → segment_of old n ≡ Some g → segment_of (old ++ more) n ≡ Some g
segment_kept [] more n g is = nothing g is
segment_kept (h ∷ old) more n g is = go (h.number == n) is (segment_kept old more n g)
  where
    go : (t : Bool) → (if t then Some h else segment_of old n) ≡ Some g → (segment_of old n ≡ Some g → segment_of (old ++ more) n ≡ Some g) → (if t then Some h else segment_of (old ++ more) n) ≡ Some g
    go true e next = e
    go false e next = next e

pub footer_kept : (old more : List SegmentView) (n : ℕ) (f : Footer) → footer_at (footers_of old) n ≡ Some f → footer_at (footers_of (old ++ more)) n ≡ Some f
footer_kept [] more n f is = nothing f is
footer_kept (h ∷ old) more n f is = go (h.number == n) is (footer_kept old more n f)
  where
    go : (t : Bool) → (if t then Some h.footer else footer_at (footers_of old) n) ≡ Some f → (footer_at (footers_of old) n ≡ Some f → footer_at (footers_of (old ++ more)) n ≡ Some f)
        → (if t then Some h.footer else footer_at (footers_of (old ++ more)) n) ≡ Some f
    go true e next = e
    go false e next = next e

-- and behind lower numbers the next one is
pub segment_past : (old more : List SegmentView) (n : ℕ) (g : SegmentView) → Below n old → g.number ≡ n → segment_of (old ++ g ∷ more) n ≡ Some g
segment_past [] more n g below is = ap (λ (t : Bool). if t then Some g else segment_of more n) (eq-eqb g.number n is)
segment_past (h ∷ old) more n g below is =
    let lt : h.number < n = below.0 in
    ap (λ (t : Bool). if t then Some h else segment_of (old ++ g ∷ more) n) (ne_eqb h.number n (λ e. absurd (omega arith))) ∙ segment_past old more n g below.1 is

pub footer_past : (old more : List SegmentView) (n : ℕ) (g : SegmentView) → Below n old → g.number ≡ n → footer_at (footers_of (old ++ g ∷ more)) n ≡ Some g.footer
footer_past [] more n g below is = ap (λ (t : Bool). if t then Some g.footer else footer_at (footers_of more) n) (eq-eqb g.number n is)
footer_past (h ∷ old) more n g below is =
    let lt : h.number < n = below.0 in
    ap (λ (t : Bool). if t then Some h.footer else footer_at (footers_of (old ++ g ∷ more)) n) (ne_eqb h.number n (λ e. absurd (omega arith))) ∙ footer_past old more n g below.1 is

below_more : (n : ℕ) (old : List SegmentView) (g : SegmentView) → Below n old → g.number ≡ n → Below (n + 1) (old ++ g ∷ [])
below_more n [] g below is = (omega (arith, is), tt)
below_more n (h ∷ old) g below is = let lt : h.number < n = below.0 in (omega arith, below_more n old g below.1 is)

one_by_one : (old more : List SegmentView) (g : SegmentView) → (old ++ g ∷ []) ++ more ≡ old ++ g ∷ more
one_by_one old more g = append_assoc old (g ∷ []) more

-- ---- segments of new files

pub joined_hand : (first : ℕ) (made : List NewSegment) (old more : List SegmentView) → Below first old → AreAdopted first made more
    → AllByRecursion (IsInHand (footers_of (old ++ more))) (new_files first made)
joined_hand first [] old more below are = tt
joined_hand first (m ∷ made) old [] below are = absurd are
joined_hand first (m ∷ made) old (g ∷ more) below are = (
  record { footer = g.footer; there = footer_past old more first g below are.0.number_is; rows = ap (λ (f : Footer). f.rows) are.0.footer },
  subst (λ (gs : List SegmentView). AllByRecursion (IsInHand (footers_of gs)) (new_files (first + 1) made)) (one_by_one old more g)
      (joined_hand (first + 1) made (old ++ g ∷ []) more (below_more first old g below are.0.number_is) are.1),
)

pub joined_below : (first : ℕ) (made : List NewSegment) (old more : List SegmentView) → Below first old → AreAdopted first made more → Below (first + length made) (old ++ more)
joined_below first [] old [] below are = all_first (old) below
  where
    all_first : (gs : List SegmentView) → Below first gs → Below (first + 0) (gs ++ [])
    all_first [] h = tt
    all_first (g ∷ gs) h = let lt : g.number < first = h.0 in (omega arith, all_first gs h.1)
joined_below first [] old (g ∷ more) below are = absurd are
joined_below first (m ∷ made) old [] below are = absurd are
joined_below first (m ∷ made) old (g ∷ more) below are =
    let n : first + 1 + length made ≡ first + length (m ∷ made) = omega arith in
    subst (λ (k : ℕ). Below k (old ++ g ∷ more)) n
    (subst (Below (first + 1 + length made)) (one_by_one old more g) (joined_below (first + 1) made (old ++ g ∷ []) more (below_more first old g below are.0.number_is) are.1))

numbers : List SegmentView → List ℕ
numbers gs = map (λ (g : SegmentView). g.number) gs

rises_more : (n : ℕ) (old : List SegmentView) (g : SegmentView) → Below n old → g.number ≡ n → Rises (map (λ (g : SegmentView). g.number) old) → Rises (map (λ (g : SegmentView). g.number) (old ++ g ∷ []))
rises_more n [] g below is rise = tt
rises_more n (h ∷ []) g below is rise = let lt : h.number < n = below.0 in (omega (arith, is), tt)
rises_more n (h ∷ i ∷ old) g below is rise = (rise.0, rises_more n (i ∷ old) g below.1 is rise.1)

pub joined_rise : (first : ℕ) (made : List NewSegment) (old more : List SegmentView) → Below first old → AreAdopted first made more → Rises (map (λ (g : SegmentView). g.number) old) → Rises (map (λ (g : SegmentView). g.number) (old ++ more))
joined_rise first [] old [] below are rise = subst (λ (gs : List SegmentView). Rises (map (λ (g : SegmentView). g.number) gs)) (sym (end old)) rise
  where
    end : (gs : List SegmentView) → gs ++ [] ≡ gs
    end [] = refl
    end (g ∷ gs) = ap (λ (hs : List SegmentView). g ∷ hs) (end gs)
joined_rise first [] old (g ∷ more) below are rise = absurd are
joined_rise first (m ∷ made) old [] below are rise = absurd are
joined_rise first (m ∷ made) old (g ∷ more) below are rise =
    subst (λ (gs : List SegmentView). Rises (map (λ (g : SegmentView). g.number) gs)) (one_by_one old more g)
    (joined_rise (first + 1) made (old ++ g ∷ []) more (below_more first old g below are.0.number_is) are.1 (rises_more first old g below are.0.number_is rise))

pub adopted_attached : (s : Layout) (first : ℕ) (made : List NewSegment) (more : List SegmentView) → AllByRecursion (IsMadeOf s) made → AreAdopted first made more → AllByRecursion (IsAttached s) more
adopted_attached s first [] [] known are = tt
adopted_attached s first [] (g ∷ more) known are = absurd are
adopted_attached s first (m ∷ made) [] known are = absurd are
adopted_attached s first (m ∷ made) (g ∷ more) known are = (attached, adopted_attached s (first + 1) made more known.1 are.1)
  where
    attached : IsAttached s g
    attached =
        let same : m.1 ≡ g.footer = sym are.0.footer in
        subst (λ (f : Footer). IsAttached s (record g { footer = f })) same
        (record { is = known.0.is; known = λ file told. known.0.known file (sym are.0.bytes ∙ told) })

-- ---- which rows they read

from_on : (least first : ℕ) (files : List (List (List Value))) → least ≤ first → AllByRecursion (λ (f : NewFile). least ≤ f.file) (told_files first files)
from_on least first [] le = tt
from_on least first (rows ∷ files) le = (le, from_on least (first + 1) files (omega arith))

read_by : (s : Layout) (segments : List SegmentView) (stored others : Files) (f : NewFile) → stored f.file ≡ others f.file → IsReadAs s stored segments f → IsReadAs s others segments f
read_by s segments stored others f same r = record {
  segment = r.segment;
  there = r.there;
  bytes = r.bytes ∙ ap (λ (rows : List (List Value)). Some (segment_file s rows)) same;
  footer = r.footer ∙ ap (footer_of s) same;
}

pub joined_read : (s : Layout) (stored : Files) (first : ℕ) (files : List (List (List Value))) (made : List NewSegment) (old more : List SegmentView) → AreSealed s files made → Below first old → AreAdopted first made more
    → AllByRecursion (IsReadAs s (with_files first files stored) (old ++ more)) (told_files first files)
joined_read s stored first [] made old more sealed below are = tt
joined_read s stored first (rows ∷ files) [] old more sealed below are = absurd sealed
joined_read s stored first (rows ∷ files) (m ∷ made) old [] sealed below are = absurd are
joined_read s stored first (rows ∷ files) (m ∷ made) old (g ∷ more) sealed below are =
    let at : rows ≡ with_files first (rows ∷ files) stored first = sym (ap (λ (t : Bool). cond t rows (with_files (first + 1) files stored first)) (eq-eqb first first refl)) in (
      record {
        segment = g;
        there = segment_past old more first g below are.0.number_is;
        bytes = are.0.bytes ∙ sealed.1 ∙ ap (λ (x : List (List Value)). Some (segment_file s x)) at;
        footer = are.0.footer ∙ sealed.2 ∙ ap (footer_of s) at;
      },
      all_by (λ (f : NewFile). (first + 1 ≤ f.file) × IsReadAs s (with_files (first + 1) files stored) (old ++ g ∷ more) f) (IsReadAs s (with_files first (rows ∷ files) stored) (old ++ g ∷ more)) (told_files (first + 1) files)
          (λ f h. let le : first + 1 ≤ f.file = h.0 in
          read_by s (old ++ g ∷ more) (with_files (first + 1) files stored) (with_files first (rows ∷ files) stored) f (sym (ap (λ (t : Bool). cond t rows (with_files (first + 1) files stored f.file)) (ne_eqb f.file first (λ e. absurd (omega arith))))) h.1)
          (both (told_files (first + 1) files) (from_on (first + 1) (first + 1) files (omega arith))
          (subst (λ (gs : List SegmentView). AllByRecursion (IsReadAs s (with_files (first + 1) files stored) gs) (told_files (first + 1) files)) (one_by_one old more g)
          (joined_read s stored (first + 1) files made (old ++ g ∷ []) more sealed.3 (below_more first old g below are.0.number_is) are.1))),
    )
  where
    both : (fs : List NewFile) → AllByRecursion (λ (f : NewFile). first + 1 ≤ f.file) fs → AllByRecursion (IsReadAs s (with_files (first + 1) files stored) (old ++ g ∷ more)) fs
        → AllByRecursion (λ (f : NewFile). (first + 1 ≤ f.file) × IsReadAs s (with_files (first + 1) files stored) (old ++ g ∷ more) f) fs
    both [] a b = tt
    both (f ∷ fs) a b = ((a.0, b.0), both fs a.1 b.1)

-- what was read is read still
pub read_still : (s : Layout) (stored others : Files) (old more : List SegmentView) (fs : List NewFile) → AllByRecursion (λ (f : NewFile). stored f.file ≡ others f.file) fs → AllByRecursion (IsReadAs s stored old) fs
    → AllByRecursion (IsReadAs s others (old ++ more)) fs
read_still s stored others old more [] same h = tt
read_still s stored others old more (f ∷ fs) same h = (
  read_by s (old ++ more) stored others f same.0 (record { segment = h.0.segment; there = segment_kept old more f.file h.0.segment h.0.there; bytes = h.0.bytes; footer = h.0.footer }),
  read_still s stored others old more fs same.1 h.1,
)

pub hand_still : (old more : List SegmentView) (fs : List NewFile) → AllByRecursion (IsInHand (footers_of old)) fs → AllByRecursion (IsInHand (footers_of (old ++ more))) fs
hand_still old more [] h = tt
hand_still old more (f ∷ fs) h = (record { footer = h.0.footer; there = footer_kept old more f.file h.0.footer h.0.there; rows = h.0.rows }, hand_still old more fs h.1)
