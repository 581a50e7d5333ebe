-- One part of a snapshot.
use Rattle.std.proofs.Common.{◌≡◌, ap, sym, subst, ◌∙◌, ℕ, ◌<◌, List, map, length, slice_get, slice_set, get_or, Option, Some, Result, Ok, Err, IfSome, IfErr, arith}
use Rattle.std.proofs.lemmas.List.{length-map}
use Rattle.pk_values.specs.Schemas.{Layout}
use Rattle.dev_traits.specs.Reader.{ReaderView}
use Rattle.segment_read.specs.declared.segments.Segment.{Segment}
use Rattle.snapshot_scan.specs.Parts.{PartView, IsPart, read_by, seen}
use Rattle.snapshot_scan.specs.Snapshots.{AreParts, ReadsPart}
use Rattle.snapshot_scan.proofs.ListFacts.{all_get, all_set, at_index, length-set, map_get, map_set}

pub if_at : {X : Type 0} (o : Option X) (x : X) (P : X → Type 0) → o ≡ Some x → P x → IfSome o P
if_at o x P e p = subst (λ q. IfSome q P) (sym e) p

pub from_at : {X : Type 0} (o : Option X) (x : X) (P : X → Type 0) → o ≡ Some x → IfSome o P → P x
from_at o x P e p = subst (λ q. IfSome q P) e p

pub if_err_so : {T E : Type 0} (result : Result T E) (P Q : E → Type 0) → ((e : E) → P e → Q e) → IfErr result P → IfErr result Q
if_err_so (Ok x) P Q f p = tt
if_err_so (Err e) P Q f p = f e p

module _ {R : Type 0} (view : R → ReaderView) (items : List (Segment R × List ℕ)) (i : ℕ) (x : Segment R × List ℕ)
    (lt : i < length (map (seen view) items)) (is : x ≡ get_or items i x) where
  pub item_at : slice_get items i ≡ Some x
  item_at = at_index items i x (let n = length-map items (seen view) in omega arith) is

  pub part_at : slice_get (map (seen view) items) i ≡ Some (seen view x)
  part_at = map_get (seen view) items i x item_at

  pub part_is : (s : Layout) → AreParts s (map (seen view) items) → IsPart s (seen view x)
  part_is s are = all_get (IsPart s) (map (seen view) items) i (seen view x) are.each part_at

  pub parts_are : (s : Layout) (y : Segment R × List ℕ) → AreParts s (map (seen view) items) → IsPart s (seen view y) → AreParts s (map (seen view) (slice_set items i y))
  parts_are s y are new = subst (AreParts s) (sym (map_set (seen view) items i y)) (record {
    each = all_set (IsPart s) (map (seen view) items) i (seen view y) are.each new;
    few = let n = length-set (map (seen view) items) i (seen view y) in let few = are.few in omega arith;
  })

  pub reads_part : (y : Segment R × List ℕ) (How : PartView → ReaderView → Type 0) → seen view y ≡ read_by (view y.0.reader) (seen view x) → How (seen view x) (view y.0.reader)
      → ReadsPart i (map (seen view) items) (map (seen view) (slice_set items i y)) How
  reads_part y How kept how = record {
    part = seen view x;
    there = part_at;
    reader = view y.0.reader;
    now = map_set (seen view) items i y ∙ ap (slice_set (map (seen view) items) i) kept;
    how = how;
  }
