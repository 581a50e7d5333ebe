-- What contracts see of a book and of a pass.
use Rattle.std.specs.Prelude.{◌≡◌, ◌⊎◌, ℕ, ◌+◌, ◌-◌, List, [], length, Option, Some}
use mathlib.Core.List.{IsPrefix}
use Rattle.atomic_table.specs.Seated.{TableId}
use Rattle.turn_book.specs.Places.{Has, merged}

-- which book it is, the opening of its history, and the turns of all its passes
pub record Booking (O : Type 0) : Type 0 where
  pub id : TableId
  pub opening : O
  pub turns : ℕ

-- the history that was seen, the places of one's own calls in it, and the turns that are left
pub record Holding (E O : Type 0) : Type 0 where
  pub book : TableId
  pub opening : Option O
  pub seen : List E
  pub mine : List ℕ
  pub left : ℕ

module _ {E O : Type 0} where
  -- the pass is of this book
  abbrev pub IsOf : Booking O → Holding E O → Type 0
  IsOf b p = (p.book ≡ b.id) × (p.opening ≡ Some b.opening)

  -- with nothing seen
  abbrev pub blank : Booking O → ℕ → Holding E O
  blank b turns = record { book = b.id; opening = Some b.opening; seen = []; mine = []; left = turns }

  -- its part of n turns, with no call of its own
  abbrev pub share : ℕ → Holding E O → Holding E O
  share n p = record p { mine = []; left = n }

  -- with n turns less
  abbrev pub less : ℕ → Holding E O → Holding E O
  less n p = record p { left = p.left - n }

  -- c has seen what a or b has seen, and both begin it; it has the calls and the turns of both, and no call is of both
  pub record Both (a b c : Holding E O) : Type 0 where
    pub one : (c.seen ≡ a.seen) ⊎ (c.seen ≡ b.seen)
    pub first : IsPrefix a.seen c.seen
    pub second : IsPrefix b.seen c.seen
    pub calls : c.mine ≡ merged a.mine b.mine
    pub used : length c.mine ≡ length a.mine + length b.mine
    pub apart : (p : ℕ) → Has a.mine p → Has b.mine p → ⊥
    pub turns : c.left ≡ a.left + b.left
