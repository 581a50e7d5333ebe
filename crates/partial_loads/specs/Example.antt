-- A partial load of two keys, of which one is loaded again between its two turns.
use Rattle.std.specs.Prelude.{◌≡◌, ℕ, List, [], ◌∷◌, ◌++◌, Some, None, pos, cond, ◌==◌, false}
use Rattle.std.specs.Ordering.{eq_by_cmp}
use Rattle.pk_values.specs.Order.{key_cmp}
use Rattle.pk_values.specs.Schemas.{Layout}
use Rattle.pk_values.specs.declared.cells.Column.{Column}
use Rattle.pk_values.specs.declared.cells.Kind.TheVariants.{Int}
use Rattle.pk_values.specs.declared.cells.Value.{Value}
use Rattle.pk_values.specs.declared.cells.Value.TheVariants.{Num}
use Rattle.pk_model.specs.declared.calls.Op.{Op}
use Rattle.pk_model.specs.declared.calls.Op.TheVariants.{Upsert}
use Rattle.index_level0.specs.declared.place.Place.{Place}
use Rattle.rowsets.specs.Live.{Files, Index, Version, live, parts_of}
use Rattle.rowsets.specs.Changes.{published}
use Rattle.rowsets.specs.Merging.{all_live}
use Rattle.partial_loads.specs.Folds.{apply, change_at}
use Rattle.partial_loads.specs.Moves.{Located, keys_of, moved, stays_live}

abbrev one : List Value
one = Num (pos 1) ∷ []

abbrev two : List Value
two = Num (pos 2) ∷ []

abbrev column : Column
column = record { name = []; kind = Int; nullable = false; default = Some (Num (pos 0)) }

-- a key and two columns, both with the default 0
abbrev pub example_layout : Layout
example_layout = record { columns = column ∷ column ∷ column ∷ []; keys = 1 }

abbrev row : List Value → ℕ → ℕ → List Value
row key v n = key ++ Num (pos v) ∷ Num (pos n) ∷ []

-- the load carries the second column alone
abbrev pub example_lines : List Op
example_lines = Upsert one (Num (pos 5) ∷ []) ∷ Upsert two (Num (pos 6) ∷ []) ∷ []

-- file 1 was there when the load was located, file 2 came since, file 3 was made before the turn and file 4 in it
abbrev pub example_rows : Files
example_rows n =
    cond (n == 1) (row one 3 7 ∷ []) (cond (n == 2) (row one 4 9 ∷ []) (cond (n == 3) (row one 5 7 ∷ row two 6 0 ∷ []) (cond (n == 4) (row one 5 9 ∷ []) [])))

abbrev at : ℕ → ℕ → Place
at n r = record { segment = n; row = r }

abbrev pub example_located : List Located
example_located = record { key = one; place = Some (at 1 0) } ∷ record { key = two; place = None } ∷ []

abbrev pub then_version : Version
then_version = (all_live 1 ∷ []) ∷ []

abbrev pub now_version : Version
now_version = (record { file = 1; dead = 0 ∷ [] } ∷ []) ∷ (all_live 2 ∷ []) ∷ []

abbrev pub now_index : Index
now_index k = cond (eq_by_cmp key_cmp k one) (Some (at 2 0)) None

-- Key 1 moved, and key 2 didn't. Each file has the rows that its changes make.
abbrev pub OneMoved : Type 0
OneMoved = (keys_of (moved (stays_live example_rows (Some then_version)) now_index example_located) ≡ one ∷ [])
    × (apply example_layout (1 ∷ []) None one (change_at (1 ∷ []) None example_lines one) (Some (row one 3 7)) ≡ Some (row one 5 7))
    × (apply example_layout (1 ∷ []) None two (change_at (1 ∷ []) None example_lines two) None ≡ Some (row two 6 0))
    × (apply example_layout (1 ∷ []) None one (change_at (1 ∷ []) None example_lines one) (Some (row one 4 9)) ≡ Some (row one 5 9))

-- the version after it, with these places dead
abbrev pub example_after : List Place → Version
example_after dead = published dead (all_live 3 ∷ all_live 4 ∷ []) now_version

-- With the row of now and the superseded one dead, each key has one live row, key 1 the one that was made again.
abbrev pub RightSettling : Type 0
RightSettling = (live example_rows (parts_of (example_after (at 2 0 ∷ at 3 0 ∷ []))) (at 2 0) ≡ None)
    × (live example_rows (parts_of (example_after (at 2 0 ∷ at 3 0 ∷ []))) (at 3 0) ≡ None)
    × (live example_rows (parts_of (example_after (at 2 0 ∷ at 3 0 ∷ []))) (at 3 1) ≡ Some (row two 6 0))
    × (live example_rows (parts_of (example_after (at 2 0 ∷ at 3 0 ∷ []))) (at 4 0) ≡ Some (row one 5 9))

-- where the superseded row is left live, the key stands twice
abbrev pub TwiceAtWrongSettling : Type 0
TwiceAtWrongSettling = (live example_rows (parts_of (example_after (at 2 0 ∷ []))) (at 3 0) ≡ Some (row one 5 7))
    × (live example_rows (parts_of (example_after (at 2 0 ∷ []))) (at 4 0) ≡ Some (row one 5 9))

-- a condition on the second column holds a lower cell back, and a delete before it doesn't ask
abbrev pub HeldBack : Type 0
HeldBack = (apply example_layout (1 ∷ 2 ∷ []) (Some 1) one (change_at (1 ∷ 2 ∷ []) (Some 1) (Upsert one (Num (pos 2) ∷ Num (pos 8) ∷ []) ∷ Upsert one (Num (pos 1) ∷ Num (pos 9) ∷ []) ∷ []) one) (Some (row one 3 7)) ≡ Some (row one 3 7))
    × (apply example_layout (1 ∷ 2 ∷ []) (Some 1) one (change_at (1 ∷ 2 ∷ []) (Some 1) (Upsert one (Num (pos 4) ∷ Num (pos 8) ∷ []) ∷ Upsert one (Num (pos 1) ∷ Num (pos 9) ∷ []) ∷ []) one) (Some (row one 3 7)) ≡ Some (row one 4 8))
