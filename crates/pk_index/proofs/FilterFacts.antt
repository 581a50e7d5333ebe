-- Some of the entries, which stay in the order of their keys.
use Rattle.std.proofs.Common.{◌≡◌, ◌∙◌, List, [], ◌∷◌, Bool as Truth, true, false, cond, T, ◌&&◌, ℕ}
use Rattle.std.specs.List.{filter}
use Rattle.std.specs.FinMap.{entries, entries-from_sorted, from_sorted, is_sorted, same_entries_map}
use Rattle.std.specs.FinMap.Entries.{below_all}
use Rattle.std.specs.Cmp.Lexicographic.{slice_cmp}
use Rattle.std.specs.Ordering.{is_lt, nat_cmp}
use Rattle.index_level0.specs.Levels.{Entry, Level}
use Rattle.pk_index.proofs.MergeFacts.{Pairs}

first : (a b : Truth) → T (a && b) → T a
first true b p = tt
first false b p = p

second : (a b : Truth) → T (a && b) → T b
second true b p = p
second false b p = absurd p

both : (a b : Truth) → T a → T b → T (a && b)
both true b p q = q
both false b p q = absurd p

below_some : (p : List ℕ × Entry → Truth) (k : List ℕ) (es : Pairs) → T (below_all (slice_cmp nat_cmp) k es) → T (below_all (slice_cmp nat_cmp) k (filter p es))
below_some p k [] below = tt
below_some p k (e ∷ es) below =
    go (p e) (first (is_lt (slice_cmp nat_cmp k e.0)) (below_all (slice_cmp nat_cmp) k es) below) (below_some p k es (second (is_lt (slice_cmp nat_cmp k e.0)) (below_all (slice_cmp nat_cmp) k es) below))
  where
    go : (t : Truth) → T (is_lt (slice_cmp nat_cmp k e.0)) → T (below_all (slice_cmp nat_cmp) k (filter p es)) → T (below_all (slice_cmp nat_cmp) k (cond t (e ∷ filter p es) (filter p es)))
    go true less rest = both (is_lt (slice_cmp nat_cmp k e.0)) (below_all (slice_cmp nat_cmp) k (filter p es)) less rest
    go false less rest = rest

pub filter_rises : (p : List ℕ × Entry → Truth) (es : Pairs) → T (is_sorted (slice_cmp nat_cmp) es) → T (is_sorted (slice_cmp nat_cmp) (filter p es))
filter_rises p [] rise = tt
filter_rises p (e ∷ es) rise =
    go (p e) (below_some p e.0 es (first (below_all (slice_cmp nat_cmp) e.0 es) (is_sorted (slice_cmp nat_cmp) es) rise)) (filter_rises p es (second (below_all (slice_cmp nat_cmp) e.0 es) (is_sorted (slice_cmp nat_cmp) es) rise))
  where
    go : (t : Truth) → T (below_all (slice_cmp nat_cmp) e.0 (filter p es)) → T (is_sorted (slice_cmp nat_cmp) (filter p es)) → T (is_sorted (slice_cmp nat_cmp) (cond t (e ∷ filter p es) (filter p es)))
    go true below rest = both (below_all (slice_cmp nat_cmp) e.0 (filter p es)) (is_sorted (slice_cmp nat_cmp) (filter p es)) below rest
    go false below rest = rest

-- the level that has these entries
pub level_is : (es : Pairs) (level : Level) → T (is_sorted (slice_cmp nat_cmp) es) → es ≡ entries level → from_sorted {R = slice_cmp nat_cmp} es ≡ level
level_is es level rise is = same_entries_map (from_sorted es) level (entries-from_sorted (slice_cmp nat_cmp) es rise ∙ is)
