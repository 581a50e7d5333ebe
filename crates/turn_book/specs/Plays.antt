-- What each step tells.
use Rattle.std.specs.Prelude.{◌≡◌, ◌≢◌, ℕ, ◌+◌, ◌-◌, ◌^◌, ◌<◌, ◌≤◌, List, [], ◌∷◌, ◌++◌, length, Option, Some}
use mathlib.Core.List.{IsPrefix}
use Rattle.atomic_table.specs.Table.{Me, Step}
use Rattle.turn_book.specs.declared.rule.PassState.{PassState}
use native.Mathlib.Decide.{dec_le}
use Rattle.turn_book.specs.Places.{RiseUpTo, pick, merged}

module _ {E : Type 0} where
  abbrev pub longer : List E → List E → List E
  longer xs ys = pick (dec_le (length xs) (length ys)) ys xs

  abbrev pub shorter_of : List E → List E → List E
  shorter_of xs ys = pick (dec_le (length xs) (length ys)) xs ys

module _ {E O : Type 0} where
  abbrev pub kept_part : ℕ → PassState E O → PassState E O
  kept_part n v = record v { left = v.left - n }

  abbrev pub given_part : ℕ → PassState E O → PassState E O
  given_part n v = record {
    opening = v.opening;
    seen = v.seen;
    shorter = [];
    mine = [];
    left = n;
    stage = 0;
    ticket = 0;
  }

  abbrev pub joined : PassState E O → PassState E O → PassState E O
  joined v w = record {
    opening = v.opening;
    seen = longer v.seen w.seen;
    shorter = shorter_of v.seen w.seen;
    mine = merged v.mine w.mine;
    left = v.left + w.left;
    stage = v.stage;
    ticket = v.ticket;
  }

  abbrev pub waiting : PassState E O → ℕ → PassState E O
  waiting v t = record v { left = v.left - 1; stage = 1; ticket = t }

  abbrev pub turning : PassState E O → List E → PassState E O
  turning v log = record v { seen = log; shorter = []; stage = 2 }

  abbrev pub ending : PassState E O → List E → PassState E O
  ending v more = record v { seen = v.seen ++ more; mine = v.mine ++ (length v.seen + 1) ∷ []; stage = 0; ticket = 0 }

abbrev pub Sat : Type 0 → Type 0 → Type 0 → Type 0
Sat T E O = Me (Option T) (PassState E O)

module _ {T E O : Type 0} where
  abbrev pub drew : Step (Option T) → Sat T E O → ℕ → Sat T E O → Type 0
  drew st m n m' = (m' ≡ (waiting m.0 n, m.1)) × (n < 2 ^ 62)

  -- the slot has x, which is the outcome of all that was done
  abbrev pub HasTurn : (O → List E → Type 0) → (O → List E → T → Type 0) → Sat T E O → ℕ → Sat T E O → Type 0
  HasTurn legal outcome m n m' = (x : T) × (log : List E) × (m' ≡ (turning m.0 log, (0, Some x) ∷ []))
      × IsPrefix m.0.seen log × (length log ≡ n)
      × ((o : O) → m.0.opening ≡ Some o → legal o log × outcome o log x)

  abbrev pub awaited : (O → List E → Type 0) → (O → List E → T → Type 0) → Step (Option T) → Sat T E O → ℕ
      → Sat T E O → Type 0
  awaited legal outcome st m n m' = (n ≢ m.0.ticket → m' ≡ m) × (n ≡ m.0.ticket → HasTurn legal outcome m n m')

  abbrev pub ended : List E → Step (Option T) → Sat T E O → ℕ → Sat T E O → Type 0
  ended more st m n m' = (m' ≡ (ending m.0 more, [])) × (length m'.0.mine ≤ 2 ^ 62)
      × RiseUpTo (length m'.0.seen) m'.0.mine

  -- one turn: the history begins with all that was seen, is legal, and ends with the entry
  abbrev pub Turned : (O → List E → Type 0) → (O → List E → Type 0) → E → ℕ → Sat T E O → Sat T E O → Type 0
  Turned legal told e seq m m' = (between : List E) × (m'.0.seen ≡ m.0.seen ++ between ++ e ∷ [])
      × (length m'.0.seen ≡ seq) × (m'.0.mine ≡ m.0.mine ++ seq ∷ [])
      × (m'.0.left + 1 ≡ m.0.left) × (m'.0.opening ≡ m.0.opening) × (m'.0.stage ≡ 0) × (m'.1 ≡ [])
      × ((o : O) → m.0.opening ≡ Some o → legal o m'.0.seen × told o m'.0.seen)

  -- what the history says of a pass that stands still
  abbrev pub looked : (O → List E → Type 0) → Step (Option T) → Sat T E O → ℕ → Sat T E O → Type 0
  looked legal st m n m' = (m' ≡ m) × ((o : O) → m.0.opening ≡ Some o → legal o m.0.seen)
      × IsPrefix m.0.shorter m.0.seen × RiseUpTo (length m.0.seen) m.0.mine × (m.0.left ≤ 2 ^ 62)
      × (length m.0.mine ≤ 2 ^ 62)
