-- One part more.
use Rattle.std.proofs.Common.{◌≡◌, sym, subst, ◌∙◌, ap, ℕ, ◌+◌, ◌<◌, ◌^◌, List, [], ◌∷◌, ◌++◌, map, length, arith}
use Rattle.std.specs.List.{AllByRecursion}
use Rattle.std.proofs.lemmas.List.{length-append, length-map, map_push}
use Rattle.pk_values.specs.Schemas.{Layout}
use Rattle.dev_traits.specs.Reader.{ReaderView}
use Rattle.segment_read.specs.declared.segments.Segment.{Segment}
use Rattle.snapshot_scan.specs.Parts.{IsPart, PartView, seen}
use Rattle.snapshot_scan.specs.Snapshots.{AreParts}

all_push : {X : Type 0} (P : X → Type 0) (xs : List X) (x : X) → AllByRecursion P xs → P x → AllByRecursion P (xs ++ x ∷ [])
all_push P [] x h g = (g, tt)
all_push P (y ∷ xs) x h g = (h.0, all_push P xs x h.1 g)

pub parts_push : {R : Type 0} (view : R → ReaderView) (s : Layout) (items now : List (Segment R × List ℕ)) (x : Segment R × List ℕ) → now ≡ items ++ x ∷ []
    → AreParts s (map (seen view) items) → IsPart s (seen view x) → length items < 1000 → AreParts s (map (seen view) now)
parts_push {R} view s items now x e are is few =
    subst (λ (parts : List PartView). AreParts s parts) (sym (ap (map (seen view)) e ∙ map_push (seen view) items x))
    (record {
      each = all_push (IsPart s) (map (seen view) items) (seen view x) are.each is;
      few = let long = length-append (map (seen view) items) (seen view x ∷ []) in let mapped = length-map items (seen view) in omega arith;
    })
