-- The first row of all, taken by the bracket.
use Rattle.std.proofs.Common.{◌≡◌, ap, sym, subst, ℕ, ◌<◌, List, [], ◌∷◌, length, slice_get, slice_set, get_or, Option, All, IfSome, IsTrue}
use Rattle.std.proofs.lemmas.List.Elements.{All-head}
use Rattle.pk_values.specs.Schemas.{Layout, fits_row}
use Rattle.pk_values.specs.declared.cells.Value.{Value}
use Rattle.rowsets.specs.Scans.{Piece}
use Rattle.row_merge.specs.Brackets.{end, IsBracket, IsLeading, leader, start}
use Rattle.row_merge.specs.Cursors.{AllFit, CursorView, Fit, front_at}
use Rattle.row_merge.specs.Merge.{head_of, merge_all}
use Rattle.row_merge.specs.declared.brackets.Bracket.{Bracket}
use Rattle.row_merge.proofs.BracketFacts.{leader_there, leads_all}
use Rattle.snapshot_scan.specs.Scans.{Gives, IsPlayed, NoneDue, rows_left, Taken}
use Rattle.snapshot_scan.proofs.ListFacts.{all_get, at_index}
use Rattle.snapshot_scan.proofs.LeftFacts.{gives_first, no_front, one_less}
use Rattle.snapshot_scan.proofs.StepFacts.{taken_played}

head_fits : (s : Layout) (rows : List (List Value)) → All (λ row. IsTrue (fits_row s row)) rows → IfSome (head_of rows) (λ row. IsTrue (fits_row s row))
head_fits s [] h = tt
head_fits s (row ∷ rows) h = All-head (λ row. IsTrue (fits_row s row)) row rows h

module _ (s : Layout) (cs : List CursorView) (b : Bracket) (w : ℕ) (is : IsBracket s (front_at cs) (length cs) b) (from : start b ≡ 0) (to : end b ≡ length cs) (first : w ≡ leader b) where
  pub first_there : w < length cs
  first_there = subst (λ i. i < length cs) (sym first) (leader_there s (length cs) (front_at cs) b is)

  first_leads : IsLeading s (front_at cs) w
  first_leads = subst (IsLeading s (front_at cs)) (sym first) (leads_all s (length cs) (front_at cs) b is from to (no_front cs))

  module _ (x new : CursorView) (at : x ≡ get_or cs w x) (less : new ≡ one_less x) where
    pub first_taken : Taken cs w (slice_set cs w new)
    first_taken = record { cursor = x; there = at_index cs w x first_there at; now = ap (slice_set cs w) less }

    pub first_gives : (row : Option (List Value)) → row ≡ head_of x.rows → NoneDue cs → (pieces : List Piece) → length pieces ≡ length cs
        → Gives row (merge_all s (rows_left cs pieces)) (λ rest. rest ≡ merge_all s (rows_left (slice_set cs w new) pieces))
    first_gives row is_head none pieces long =
        subst (λ r. Gives r (merge_all s (rows_left cs pieces)) (λ rest. rest ≡ merge_all s (rows_left (slice_set cs w new) pieces))) (sym is_head)
        (subst (λ c. Gives (head_of x.rows) (merge_all s (rows_left cs pieces)) (λ rest. rest ≡ merge_all s (rows_left (slice_set cs w c) pieces))) (sym less)
        (gives_first s cs pieces w x long none first_leads (at_index cs w x first_there at)))

    pub first_played : IsPlayed s (slice_set cs w new) w b
    first_played = taken_played cs (slice_set cs w new) w first_taken s b is from to first_there

    pub first_fits : AllFit s cs → (row : Option (List Value)) → row ≡ head_of x.rows → IfSome row (λ row. IsTrue (fits_row s row))
    first_fits fit row is_head =
        let here : Fit s x = all_get (Fit s) cs w x fit (at_index cs w x first_there at) in
        subst (λ r. IfSome r (λ row. IsTrue (fits_row s row))) (sym is_head) (head_fits s x.rows here)
