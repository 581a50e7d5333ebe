-- An index from the codes of keys to places, as contracts see it.
use Rattle.std.specs.Prelude.{ℕ, refl}
use Rattle.std.specs.Coded.{Coded, code_by, coded×, coded_ℕ, coded_list}
use Rattle.std.specs.FinMap.{code}
use Rattle.index_level0.specs.Levels.{coded_place}
use Rattle.rowsets.specs.Indexing.{CodeMap}

-- where each key stands, and for how many new keys there is room
pub record IndexRoom : Type 0 where
  pub map : CodeMap
  pub spare : ℕ

abbrev pub coded_codes : Coded CodeMap
coded_codes = code (coded_list coded_ℕ) coded_place

abbrev pub coded_index_room : Coded IndexRoom
coded_index_room = code_by (CodeMap × ℕ) (coded× coded_codes coded_ℕ) (λ v. (v.map, v.spare)) (λ p. record { map = p.0; spare = p.1 }) (λ _. refl)
