-- The rule of the table. A pass rests (stage 0), waits with its ticket (stage 1), or has the value in
-- its turn (stage 2).
use Rattle.std.specs.Prelude.{◌≡◌, ◌≢◌, ◌⊎◌, ℕ, ◌+◌, ◌^◌, ◌<◌, ◌≤◌, List, [], ◌∷◌, length, Option, Some, None}
use mathlib.Core.Option.{some, none}
use mathlib.Core.List.{IsPrefix}
use lib.ListN.{get_elem?}
use Rattle.atomic_table.specs.Table.{State}
use Rattle.turn_book.specs.declared.rule.PassState.{PassState}
use Rattle.turn_book.specs.Places.{Rises, Has}

module _ {E O : Type 0} where
  -- the first pass, which has all turns
  abbrev pub newcomer : O → ℕ → PassState E O
  newcomer o left = record { opening = Some o; seen = []; shorter = []; mine = []; left = left; stage = 0; ticket = 0 }

  -- what is left of a pass that another took in
  abbrev pub spent : PassState E O
  spent = record { opening = None; seen = []; shorter = []; mine = []; left = 0; stage = 0; ticket = 0 }

  abbrev pub lefts : List (PassState E O) → ℕ
  lefts [] = 0
  lefts (v ∷ vs) = v.left + lefts vs

  -- what holds of one pass: it knows a beginning of the history and its own calls there, and its ticket is still to
  -- be served
  pub record Known (o : O) (log : List E) (next : ℕ) (v : PassState E O) : Type 0 where
    pub opened : (x : O) → v.opening ≡ Some x → x ≡ o
    pub begins : IsPrefix v.seen log
    pub short : IsPrefix v.shorter v.seen
    pub rising : Rises 0 v.mine
    pub within : (p : ℕ) → Has v.mine p → p ≤ length v.seen
    pub waits : v.stage ≢ 0 → (length log ≤ v.ticket) × (v.ticket < next)
    pub turn : v.stage ≡ 2 → (v.ticket ≡ length log) × (v.seen ≡ log)

  -- no two passes have one ticket or one place
  pub record Apart (v w : PassState E O) : Type 0 where
    pub tickets : v.stage ≢ 0 → w.stage ≢ 0 → v.ticket ≢ w.ticket
    pub places : (p : ℕ) → Has v.mine p → Has w.mine p → ⊥

module _ {T E O : Type 0} (outcome : O → List E → T → Type 0) (o : O) (log : List E)
    (views : List (PassState E O)) where
  -- the slot is home with the value, or with the pass whose turn it is
  abbrev pub AtHome : List (mathlib.Core.Option.Option (Option T)) → Type 0
  AtHome homes = (x : T) × (homes ≡ some (Some x) ∷ []) × outcome o log x × ((j : ℕ) (v : PassState E O)
      → get_elem? views j ≡ some v → v.stage ≢ 2)

  abbrev pub AtTurn : List (mathlib.Core.Option.Option (Option T)) → Type 0
  AtTurn homes = (homes ≡ none ∷ []) × (j : ℕ) × (v : PassState E O) × (get_elem? views j ≡ some v) × (v.stage ≡ 2)

-- the word `next` counts the tickets, the word `serving` the entries of the history, and no more turns are drawn than
-- there are
pub record Kept {T E O : Type 0} (legal : O → List E → Type 0) (outcome : O → List E → T → Type 0)
    (turns : ℕ) (o : O) (s : State (Option T) (PassState E O)) : Type 0 where
  pub log : List E
  pub next : ℕ
  pub words : s.words ≡ next ∷ length log ∷ []
  pub behind : length log ≤ next
  pub lawful : legal o log
  pub each : (j : ℕ) (v : PassState E O) → get_elem? s.views j ≡ some v → Known o log next v
  pub apart : (i j : ℕ) (v w : PassState E O) → i ≢ j → get_elem? s.views i ≡ some v → get_elem? s.views j ≡ some w
      → Apart v w
  pub budget : next + lefts s.views ≤ turns
  pub few : turns ≤ 2 ^ 62
  pub slot : AtHome outcome o log s.views s.homes ⊎ AtTurn outcome o log s.views s.homes
