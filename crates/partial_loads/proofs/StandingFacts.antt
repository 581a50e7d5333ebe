-- What the codes of located keys tell of where they stand.
use Rattle.std.proofs.Common.{◌≡◌, refl, ap, sym, ◌∙◌, ℕ, ◌+◌, List, [], ◌∷◌, Bool as Truth, true, cond, Option, None}
use Rattle.std.specs.List.{fold}
use Rattle.std.specs.Prelude.{map}
use Rattle.pk_values.specs.Schemas.{Layout, fits_key}
use Rattle.pk_values.specs.declared.cells.Value.{Value}
use Rattle.key_code.specs.KeyCode.{key_code}
use Rattle.index_level0.specs.declared.place.Place.{Place}
use Rattle.partial_loads.specs.declared.standings.Standing.{Standing}
use Rattle.partial_loads.specs.Moves.{Located, has_moved}
use Rattle.partial_loads.specs.Standings.{CodesTellStandings, HaveKeysThatFit, StandingsCount, Stored, index_by, located_codes, standings_of}

-- the index answers what is stored at the code of a key that fits
stored-at : (s : Layout) (stored : Stored) (k : List Value) → fits_key s k ≡ true → stored (key_code s k) ≡ index_by s stored k
stored-at s stored k fits = ap (λ b. cond b (stored (key_code s k)) None) (sym fits)

abbrev found : Option Place → (Place → Truth) → Option Place → Standing
found now stays was = record { place = now; moved = has_moved stays was now }

pub codes_tell_standings : CodesTellStandings
codes_tell_standings s stored stays [] fit = refl
codes_tell_standings s stored stays (e ∷ es) fit =
    let first = ap (λ now. found now stays e.place) (stored-at s stored e.key fit.0) in
    let rest = codes_tell_standings s stored stays es fit.1 in
    λ i. first i ∷ rest i

count-found : (s : Layout) (stored : Stored) (stays : Place → Truth) (located : List Located) (n : ℕ) → HaveKeysThatFit s located
    → fold (λ a standing. a + cond standing.moved 1 0) n (standings_of stored stays (located_codes s located))
    ≡ fold (λ a e. a + cond (has_moved stays e.place (index_by s stored e.key)) 1 0) n located
count-found s stored stays [] n fit = refl
count-found s stored stays (e ∷ es) n fit =
    count-found s stored stays es (n + cond (has_moved stays e.place (stored (key_code s e.key))) 1 0) fit.1
    ∙ ap (λ now. fold (λ a e. a + cond (has_moved stays e.place (index_by s stored e.key)) 1 0) (n + cond (has_moved stays e.place now) 1 0) es)
    (stored-at s stored e.key fit.0)

pub standings_count : StandingsCount
standings_count s stored stays located fit = count-found s stored stays located 0 fit
