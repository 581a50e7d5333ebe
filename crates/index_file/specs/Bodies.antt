-- A body of the index log as bytes.
use Rattle.std.specs.Prelude.{ℕ, ◌^◌, ◌<◌, List, ◌++◌}
use Rattle.std.specs.List.{AllByRecursion, flat_map}
use Rattle.std.specs.FinMap.{entries, len}
use Rattle.index_levels.specs.IndexLog.{Body}
use Rattle.index_file.specs.Buckets.{PairFits, entry_bytes, u32_bytes, u64_bytes}

-- the edit, the number of changes, and the changes in the order of their keys
abbrev pub body_bytes : Body → List ℕ
body_bytes body = u64_bytes body.edit ++ (u32_bytes (len body.changes) ++ flat_map entry_bytes (entries body.changes))

pub record BodyFits (body : Body) : Type 0 where
  pub edit : body.edit < 2 ^ 64
  pub each : AllByRecursion PairFits (entries body.changes)
  pub few : len body.changes < 2 ^ 32
