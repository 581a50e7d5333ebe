use Rattle.std.proofs.Common.{◌≡◌, ◌+◌, ◌≤◌, ℕ, Bool, true, false, not, sym, ◌∙◌, arith, refl, subst, length}
use Rattle.std.specs.Prelude.{if◌then◌else◌}
use Rattle.column_page.proofs.WordFacts.{known_more}
use Rattle.column_page.proofs.words.Words.add.Goals as goal

-- a new word adds its bytes
when_new : (b is_new : Bool) (len more cell : ℕ) → is_new ≡ not b → is_new ≡ true → more ≤ len + cell → more ≤ (if b then len else len + cell)
when_new true is_new len more cell e t le = cc
when_new false is_new len more cell e t le = le

when_old : (b is_new : Bool) (len cell : ℕ) → is_new ≡ not b → is_new ≡ false → len ≤ (if b then len else len + cell)
when_old true is_new len cell e t = omega arith
when_old false is_new len cell e t = cc

pub returns-then-is_new-clause-knows : goal.returns-then-is_new-clause-knows
returns-then-is_new-clause-knows c =
    let inserted = c.in_ok-place.ensures in
    let more : c.saturating_add-self.result ≤ c.args.self.now.len + length c.args.cell.now = omega (arith, c.saturating_add-self.ensures) in
    known_more _ (λ a b. refl) c.args.cell c.args.self.now.words.keys c.insert_full.new.self.keys c.args.self.now.places.items c.put_u16.new.out.items c.args.self.now.len c.saturating_add-self.result c.in_ok-place.place
    inserted.keys inserted.index c.in_ok-put_u16.ensures (when_new _ c.in_ok-place.is_new _ _ _ inserted.added c.if-is_new.true more)

pub returns-else-is_new-clause-knows : goal.returns-else-is_new-clause-knows
returns-else-is_new-clause-knows c =
    let inserted = c.in_ok-place.ensures in
    known_more _ (λ a b. refl) c.args.cell c.args.self.now.words.keys c.insert_full.new.self.keys c.args.self.now.places.items c.put_u16.new.out.items c.args.self.now.len c.args.self.now.len c.in_ok-place.place
    inserted.keys inserted.index c.in_ok-put_u16.ensures (when_old _ c.in_ok-place.is_new _ _ inserted.added c.if-is_new.false)
