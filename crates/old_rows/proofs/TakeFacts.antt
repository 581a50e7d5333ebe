-- Rows of one block are taken one after the other.
use Rattle.std.proofs.Common.{◌≡◌, inr, refl, ap, sym, subst, ◌∙◌, ℕ, zero, suc, ◌+◌, ◌<◌, ◌≤◌, ◌%◌, ◌==◌, Bool as Truth, true, false, List, [], ◌∷◌, ◌++◌, length, take, get_or, Some, slice_get, slice_set, append_assoc, append-nil, arith}
use Rattle.std.proofs.lemmas.List.{take_more}
use Rattle.std.proofs.lemmas.Option.{slice_get-get_or}
use Rattle.std.specs.Prelude.{All, IsTrue}
use Rattle.std.specs.List.{list_any}
use Rattle.std.specs.Cmp.{eq_by_cmp_equiv}
use Rattle.std.specs.Ordering.{eq_by_cmp}
use Rattle.std.proofs.lemmas.Map.Views.{tells_apart}
use Rattle.dev_traits.specs.declared.faults.ReadFault.{ReadFault}
use Rattle.dev_traits.specs.declared.faults.ReadFault.TheVariants as read
use Rattle.pk_values.specs.Order.{key_cmp}
use Rattle.pk_values.specs.OrderFacts.{key_exact, key_total}
use Rattle.pk_values.specs.Schemas.{Layout, fits_row, key_of}
use Rattle.pk_values.specs.declared.cells.Value.{Value}
use Rattle.snapshot_scan.specs.Snapshots.{SnapshotView}
use Rattle.partial_loads.specs.declared.folds.Folded.{Folded}
use Rattle.old_rows.specs.Reading.{AreFilled, Olds, index_damage}
use Rattle.old_rows.specs.Taking.{AreGiven, IsMissing, IsTaken}
use Rattle.old_rows.specs.declared.wanted.Wanted.{Wanted}
use Rattle.old_rows.proofs.FillFacts.{filled-more}

some_same : {X : Type 0} (x y : X) → Some x ≡ Some y → x ≡ y
some_same x y e = cc

clash : (b : Truth) → b ≡ true → b ≡ false → ⊥
clash b e f = cc (sym e ∙ f)

pub at-index : {X : Type 0} (xs : List X) (i : ℕ) (x : X) → i < length xs → x ≡ get_or xs i x → slice_get xs i ≡ Some x
at-index xs i x lt is = slice_get-get_or xs i x lt ∙ ap Some (sym is)

pub taken-key : (s : Layout) (rows : List (List Value)) (dead : List ℕ) (row : ℕ) (f g : Folded) (found : List Value) → f ≡ g → IsTaken s rows dead row g.key found → IsTaken s rows dead row f.key found
taken-key s rows dead row f g found e h = subst (λ (x : Folded). IsTaken s rows dead row x.key found) (sym e) h

-- the first of these are filled in
abbrev pub FillsFirst : Layout → List (List Value) → List ℕ → List Folded → List Wanted → List Wanted → Olds → Olds → Type 0
FillsFirst s rows dead keys wanted first old new = (v : SnapshotView) (done : List Wanted)
    → AreGiven s rows dead keys wanted v → AreFilled v keys done old → AreFilled v keys (done ++ first) new

pub fills-none : (s : Layout) (rows : List (List Value)) (dead : List ℕ) (keys : List Folded) (wanted : List Wanted) (olds : Olds) → FillsFirst s rows dead keys wanted [] olds olds
fills-none s rows dead keys wanted olds v done given filled = subst (λ ws. AreFilled v keys ws olds) (sym (append-nil done)) filled

pub fills-next : (s : Layout) (rows : List (List Value)) (dead : List ℕ) (keys : List Folded) (wanted : List Wanted) (i : ℕ) (d : Wanted) (f : Folded) (row : List Value) (old mid : Olds)
    → i < length wanted → (get_or wanted i d).key < length keys → slice_get keys (get_or wanted i d).key ≡ Some f → IsTaken s rows dead (get_or wanted i d).place.row f.key row
    → FillsFirst s rows dead keys wanted (take i wanted) old mid → FillsFirst s rows dead keys wanted (take (i + 1) wanted) old (slice_set mid (get_or wanted i d).key (Some row))
fills-next s rows dead keys wanted i d f row old mid lt within there taken fills v done given filled =
    let w : Wanted = get_or wanted i d in
    let more = filled-more v keys (done ++ take i wanted) mid w f row (fills v done given filled) within there (given i w f row (slice_get-get_or wanted i d lt) there taken) in
    subst (λ ws. AreFilled v keys ws (slice_set mid w.key (Some row))) (append_assoc done (take i wanted) (w ∷ []) ∙ ap (λ ws. done ++ ws) (sym (take_more wanted i d lt))) more

pub fills-all : (s : Layout) (rows : List (List Value)) (dead : List ℕ) (keys : List Folded) (wanted : List Wanted) (i : ℕ) (old new : Olds) → length wanted ≤ i
    → FillsFirst s rows dead keys wanted (take i wanted) old new → FillsFirst s rows dead keys wanted wanted old new
fills-all s rows dead keys wanted i old new le fills = subst (λ ws. FillsFirst s rows dead keys wanted ws old new) (all i wanted le) fills
  where
    all : (n : ℕ) (ws : List Wanted) → length ws ≤ n → take n ws ≡ ws
    all zero [] le = refl
    all zero (w ∷ ws) le = absurd (omega arith)
    all (suc n) [] le = refl
    all (suc n) (w ∷ ws) le = ap (λ vs. w ∷ vs) (all n ws (omega arith))

-- ---- one row

pub is-missing : (s : Layout) (rows : List (List Value)) (dead : List ℕ) (row : ℕ) (key : List Value) (e : ReadFault) → e ≡ read.Damaged index_damage → (there : List Value)
    → slice_get rows (row % 1024) ≡ Some there → eq_by_cmp key_cmp (key_of s there) key ≡ false → IsMissing s rows dead row key e
is-missing s rows dead row key e is there at other = subst (IsMissing s rows dead row key) (sym is) (record {
  unfailed = λ same. cc;
  damage = (
    refl,
    inr (λ found has same.
        let row_is : there ≡ found = some_same there found (sym at ∙ has) in
        clash (eq_by_cmp key_cmp (key_of s there) key) (ap (λ k. eq_by_cmp key_cmp k key) (ap (key_of s) row_is ∙ same) ∙ (eq_by_cmp_equiv key_total).refl key) other),
  );
})

pub is-taken : (s : Layout) (rows : List (List Value)) (dead : List ℕ) (row : ℕ) (key there found : List Value) → All (λ row. IsTrue (fits_row s row)) rows
    → slice_get rows (row % 1024) ≡ Some there → list_any (λ r. r == row) dead ≡ false → eq_by_cmp key_cmp (key_of s there) key ≡ true → found ≡ there → IsTaken s rows dead row key found
is-taken s rows dead row key there found fit at lives same is = subst (IsTaken s rows dead row key) (sym is) (record {
  fits = fits-at rows (row % 1024) there fit at;
  key_is = tells_apart key_exact (key_of s there) key same;
  there = at;
  lives = lives;
})
  where
    fits-at : (xs : List (List Value)) (i : ℕ) (x : List Value) → All (λ row. IsTrue (fits_row s row)) xs → slice_get xs i ≡ Some x → IsTrue (fits_row s x)
    fits-at [] i x h e = cc
    fits-at (y ∷ ys) zero x h e = subst (λ (r : List Value). IsTrue (fits_row s r)) (some_same y x e) (h 0 y (omega arith))
    fits-at (y ∷ ys) (suc i) x h e = fits-at ys i x (λ j d lt. h (suc j) d (omega arith)) e
