-- What was found is prepared: the rows that its keys get, over every reader and over the map for which it stands.
use Rattle.std.proofs.Common.{◌≡◌, refl, ap, sym, subst, ◌∙◌, ℕ, zero, suc, ◌+◌, ◌-◌, ◌^◌, min, List, [], ◌∷◌, map, length, Option, Some, None, slice_get, T, arith}
use Rattle.std.specs.Prelude.{All, IfSome, IsTrue}
use Rattle.std.specs.List.{AllByRecursion}
use Rattle.std.specs.FinMap.{get}
use Rattle.std.proofs.lemmas.List.Elements.{All-nil}
use Rattle.dev_traits.specs.declared.faults.Damaged.{Damaged}
use Rattle.dev_traits.specs.declared.faults.ReadFault.{ReadFault}
use Rattle.dev_traits.specs.declared.faults.ReadFault.TheVariants as read
use Rattle.segment_read.specs.Reads.{OnDamage}
use Rattle.pk_values.specs.Schemas.{Layout, schema_fault}
use Rattle.pk_values.specs.declared.cells.Value.{Value}
use Rattle.key_code.specs.KeyCode.{key_code}
use Rattle.index_level0.specs.declared.place.Place.{Place}
use Rattle.pk_model.specs.Tables.{Rows}
use Rattle.pk_model.specs.declared.calls.Load.{Load}
use Rattle.pk_model.specs.declared.calls.Op.{Op}
use Rattle.rowsets.specs.Indexing.{CodeMove, place_stored}
use Rattle.rowsets.specs.Live.{Files, FilesOnce, StandsFor, live}
use Rattle.rowsets.specs.Scans.{AreRowsOf, Piece, listed}
use Rattle.snapshot_scan.specs.Parts.{IsPieceOf, PartView}
use Rattle.snapshot_scan.specs.Snapshots.{ArePieces, IsSnapshotOf, SnapshotView}
use Rattle.partial_loads.specs.declared.folds.Folded.{Folded}
use Rattle.partial_loads.specs.Folded.{AreFolded, HasCode, folded_keys, rise_strictly}
use Rattle.partial_loads.specs.Making.{HaveChanges, made_rows}
use Rattle.partial_loads.specs.Moves.{IsPlaceOf}
use Rattle.partial_loads.specs.Olds.{AreAllOf, AreOlds, AreOldsOf, made_of as rows_made, map_of}
use Rattle.partial_loads.proofs.MakeFacts.{folded_have_changes}
use Rattle.partial_loads.proofs.OldFacts.{olds_have_map, olds_make_rows}
use Rattle.old_rows.specs.Reading.{AreOldsRead, Olds, SameButCounts, still}
use Rattle.old_rows.proofs.StillFacts.{none-read as nothing-read, seen-same}
use Rattle.core_partial.specs.Found.{AreTold, FoundView, IsFoundOf, IsLocated, codes_of, part_seen}
use Rattle.core_partial.specs.Making.{AreMadeKeys, was_of}
use Rattle.tablet_state.specs.Readies.{NewSegment}
use Rattle.core_publish.specs.Prepared.{AreSealedOf, files_of}
use Rattle.core_partial.specs.Prepared.{IsMadeOver, IsPreparedPartial, PreparedPartialView, folded_of, located_move}
use Rattle.core_partial.specs.Preparing.{AreFoundKeys, IsMadeOfRead, ReadsFound, found_in}
use Rattle.core_partial.specs.declared.keys.PreparedKey.{PreparedKey}
use Rattle.core_partial.specs.declared.making.MadeKeys.{MadeKeys}
use Rattle.core_partial.proofs.MakingFacts.{located-are, made-fit, made-moves, made-rise}
use Rattle.core_partial.proofs.OldFacts.{code-of-each, no-row, none-read, olds-of-map, olds-read, same-codes}

some_same : {X : Type 0} (x y : X) → Some x ≡ Some y → x ≡ y
some_same x y e = cc

none_some : {X : Type 0} (x : X) → None ≡ Some x → ⊥
none_some x e = cc

-- ---- lists by their places

by-places : (P : PreparedKey → Type 0) (ks : List PreparedKey) → ((i : ℕ) (k : PreparedKey) → slice_get ks i ≡ Some k → P k) → AllByRecursion P ks
by-places P [] h = tt
by-places P (k ∷ ks) h = (h 0 k refl, by-places P ks (λ i. h (suc i)))

at-map : {X Y : Type 0} (f : X → Y) (xs : List X) (i : ℕ) (x : X) → slice_get xs i ≡ Some x → slice_get (map f xs) i ≡ Some (f x)
at-map f [] i x h = cc
at-map f (y ∷ ys) zero x h = ap Some (ap f (some_same y x h))
at-map f (y ∷ ys) (suc i) x h = at-map f ys i x h

from-map : {X Y : Type 0} (f : X → Y) (xs : List X) (i : ℕ) (y : Y) → slice_get (map f xs) i ≡ Some y → (x : X) × (slice_get xs i ≡ Some x) × (f x ≡ y)
from-map f [] i y h = cc
from-map f (x ∷ xs) zero y h = (x, refl, some_same (f x) y h)
from-map f (x ∷ xs) (suc i) y h = from-map f xs i y h

codes-of-keys : (ks : List PreparedKey) → map (λ (k : PreparedKey). k.code) ks ≡ map (λ (g : Folded). g.code) (map folded_of ks)
codes-of-keys [] = refl
codes-of-keys (k ∷ ks) = ap (λ cs. k.code ∷ cs) (codes-of-keys ks)

-- an old row of a key is that of the map that has all of them
old-at : (m : Rows) (fs : List Folded) (os : Olds) (i : ℕ) (g : Folded) → AreAllOf m fs os → slice_get fs i ≡ Some g → (o : Option (List Value)) × (slice_get os i ≡ Some o) × (o ≡ get m g.key)
old-at m [] os i g h there = cc
old-at m (f ∷ fs) [] i g h there = absurd h
old-at m (f ∷ fs) (o ∷ os) zero g h there = (o, refl, h.0 ∙ ap (λ (x : Folded). get m x.key) (some_same f g there))
old-at m (f ∷ fs) (o ∷ os) (suc i) g h there = old-at m fs os i g h.1 there

-- ---- the keys with their rows

module _ (f : FoundView) (clean : schema_fault f.snapshot.schema.columns f.snapshot.schema.keys ≡ None) (located : IsLocated f.snapshot.schema f.load f.located)
    (fs : List Folded) (folds : AreFolded f.snapshot.schema f.load.given None f.load.ops fs) (os : Olds) (read : AreOldsRead f.snapshot fs f.located os)
    (made : MadeKeys) (folded : map folded_of made.keys.items ≡ fs) (places : map was_of made.keys.items ≡ map (λ (e : CodeMove). e.1) f.located)
    (are : AreMadeKeys f.snapshot.schema f.load.given os made) where
  abbrev s : Layout
  s = f.snapshot.schema

  abbrev ks : List PreparedKey
  ks = made.keys.items

  olds : AreOlds s fs os
  olds = olds-read f clean located fs folds os read

  folds_of : AreFolded s f.load.given None f.load.ops (map folded_of ks)
  folds_of = subst (AreFolded s f.load.given None f.load.ops) (sym folded) folds

  olds_of : AreOlds s (map folded_of ks) os
  olds_of = subst (λ gs. AreOlds s gs os) (sym folded) olds

  have : HaveChanges f.load (map folded_of ks)
  have = folded_have_changes s f.load (map folded_of ks) folds_of

  made_places : map located_move ks ≡ f.located
  made_places =
      located-are ks f.located (codes-of-keys ks ∙ ap (map (λ (g : Folded). g.code)) folded ∙ code-of-each s fs folds.coded ∙ sym (same-codes f fs located folds)) places

  -- each key with its entry and the place that was found for it
  at-key : (i : ℕ) (k : PreparedKey) → slice_get ks i ≡ Some k → (e : CodeMove) × (slice_get f.located i ≡ Some e) × (e.1 ≡ k.was) × (slice_get fs i ≡ Some (folded_of k))
  at-key i k there =
      let entry = from-map (λ (e : CodeMove). e.1) f.located i k.was (ap (λ ps. slice_get ps i) (sym places) ∙ at-map was_of ks i k there) in
      (entry.0, entry.1, entry.2, ap (λ gs. slice_get gs i) (sym folded) ∙ at-map folded_of ks i k there)

  rows_over : (m : Rows) → AreOldsOf m fs os → made.results.rows.items ≡ made_rows s f.load.given m (map folded_of ks)
  rows_over m of =
      are.rows ∙ olds_make_rows s f.load.given m (map folded_of ks) os (subst (λ gs. AreOldsOf m gs os) (sym folded) of)

  -- they were made over the map of the old rows
  over-olds : IsMadeOver s f.load ks made.results.rows.items (map_of fs os)
  over-olds =
      let all = olds_have_map s f.load fs os folds olds in
      record {
        rows_are = rows_over (map_of fs os) all.1;
        absent = by-places (λ k. k.was ≡ None → get (map_of fs os) k.key ≡ None) ks (λ i k there gone. go i k there gone (old-at (map_of fs os) fs os i (folded_of k) all.2 (at-key i k there).3));
      }
    where
      go : (i : ℕ) (k : PreparedKey) → slice_get ks i ≡ Some k → k.was ≡ None → (o : Option (List Value)) × (slice_get os i ≡ Some o) × (o ≡ get (map_of fs os) k.key) → get (map_of fs os) k.key ≡ None
      go i k there gone (None, got, is) = sym is
      go i k there gone (Some row, got, is) =
          let at = at-key i k there in
          absurd (none-read f clean located fs folds os read i (folded_of k) at.0 at.3 at.1 (at.2 ∙ gone) row got)

  pub found-keys : AreFoundKeys f made
  found-keys = record {
    lawful = located.lawful;
    folds = folds_of;
    places = made_places;
    fit = made-fit s f.load clean located.lawful made os have folds_of.coded folds_of.rise olds_of are;
    rise = made-rise s f.load clean located.lawful made os have folds_of.coded folds_of.rise olds_of are;
    moves = made-moves s f.load clean located.lawful made os have folds_of.coded folds_of.rise olds_of are;
    was = map_of fs os;
    first = (olds_have_map s f.load fs os folds olds).0;
    over = over-olds;
  }

  pub made-of-read : IsMadeOfRead f (map folded_of ks) made.results.rows.items
  made-of-read = record {
    olds = os;
    read = subst (λ gs. AreOldsRead f.snapshot gs f.located os) (sym folded) read;
    rows_are = are.rows;
  }

  -- and over that for which what was found stands
  pub over-found : (m : Rows) → IsFoundOf f m → IsMadeOver s f.load ks made.results.rows.items m
  over-found m stands = record {
    rows_are = rows_over m (olds-of-map f clean located fs folds m stands os read);
    absent = by-places (λ k. k.was ≡ None → get m k.key ≡ None) ks (λ i k there gone.
        let at = at-key i k there in
        no-row f clean located fs folds m stands i (folded_of k) at.0 at.3 at.1 (at.2 ∙ gone));
  }

-- ---- what was found stays

piece-still : (s : Layout) (a b : PartView) (piece : Piece) → still a ≡ still b → IsPieceOf s a piece → IsPieceOf s b piece
piece-still s a b piece e h =
    let there : IsPieceOf s (still b) piece = subst (λ (p : PartView). IsPieceOf s p piece) e (record { file = h.file; told = h.told; is = h.is; dead = h.dead }) in
    record { file = there.file; told = there.told; is = there.is; dead = there.dead }

first_still : (a b : PartView) (xs ys : List PartView) → a ∷ xs ≡ b ∷ ys → a ≡ b
first_still a b xs ys e = cc

rest_still : (a b : PartView) (xs ys : List PartView) → a ∷ xs ≡ b ∷ ys → xs ≡ ys
rest_still a b xs ys e = cc

pieces-still : (s : Layout) (ps qs : List PartView) (pieces : List Piece) → map still ps ≡ map still qs → ArePieces s ps pieces → ArePieces s qs pieces
pieces-still s [] [] pieces e h = h
pieces-still s [] (q ∷ qs) pieces e h = cc
pieces-still s (p ∷ ps) [] pieces e h = cc
pieces-still s (p ∷ ps) (q ∷ qs) [] e h = h
pieces-still s (p ∷ ps) (q ∷ qs) (piece ∷ pieces) e h = (
  piece-still s p q piece (first_still (still p) (still q) (map still ps) (map still qs) e) h.0,
  pieces-still s ps qs pieces (rest_still (still p) (still q) (map still ps) (map still qs) e) h.1,
)

told-still : (s : Layout) (stored : Files) (ps qs : List PartView) → map still ps ≡ map still qs → AreTold s stored ps → AreTold s stored qs
told-still s stored [] [] e h = h
told-still s stored [] (q ∷ qs) e h = cc
told-still s stored (p ∷ ps) [] e h = cc
told-still s stored (p ∷ ps) (q ∷ qs) e h =
    let same : still p ≡ still q = first_still (still p) (still q) (map still ps) (map still qs) e in
    let dead : q.dead ≡ p.dead = sym (ap (λ (x : PartView). x.dead) same) in
    let number : q.number ≡ p.number = sym (ap (λ (x : PartView). x.number) same) in
    let piece : IsPieceOf s q (record { rows = stored p.number; dead = p.dead }) = piece-still s p q (record { rows = stored p.number; dead = p.dead }) same h.0 in (
      subst (λ (x : Piece). IsPieceOf s q x) (λ i. record { rows = stored (sym number i); dead = sym dead i }) piece,
      told-still s stored ps qs (rest_still (still p) (still q) (map still ps) (map still qs) e) h.1,
    )

pub found-stays : (f g : FoundView) → SameButCounts f.snapshot g.snapshot → g.load ≡ f.load → g.located ≡ f.located → (m : Rows) → IsFoundOf f m → IsFoundOf g m
found-stays f g same load located m h =
    subst (λ (x : FoundView). IsFoundOf x m) (λ i. record { load = sym load i; snapshot = g.snapshot; located = sym located i }) (record {
      snapshot = record {
        pieces = h.snapshot.pieces;
        told = subst (λ s. ArePieces s g.snapshot.parts h.snapshot.pieces) (sym same.schema) (pieces-still f.snapshot.schema f.snapshot.parts g.snapshot.parts h.snapshot.pieces (sym same.parts) h.snapshot.told);
        rows = subst (λ s. AreRowsOf s (listed h.snapshot.pieces) m) (sym same.schema) h.snapshot.rows;
      };
      stored = h.stored;
      told = subst (λ s. AreTold s h.stored g.snapshot.parts) (sym same.schema) (told-still f.snapshot.schema h.stored f.snapshot.parts g.snapshot.parts (sym same.parts) h.told);
      once = subst FilesOnce seen h.once;
      stands = subst (λ ps. StandsFor g.snapshot.schema (live h.stored ps) m) seen (subst (λ s. StandsFor s (live h.stored (map part_seen f.snapshot.parts)) m) (sym same.schema) h.stands);
      places = λ k among.
          subst (λ ps. IsPlaceOf g.snapshot.schema (live h.stored ps) k (place_stored f.located (key_code g.snapshot.schema k) None)) seen
          (subst (λ s. IsPlaceOf s (live h.stored (map part_seen f.snapshot.parts)) k (place_stored f.located (key_code s k) None)) (sym same.schema) (h.places k among));
    })
  where
    seen : map part_seen f.snapshot.parts ≡ map part_seen g.snapshot.parts
    seen = sym (seen-same f.snapshot g.snapshot same)

-- ---- what is told

pub on-damage : (e : ReadFault) (P Q : Damaged → Type 0) → ((d : Damaged) → P d → Q d) → OnDamage e P → OnDamage e Q
on-damage (read.Damaged d) P Q f h = f d h
on-damage read.StoreFault P Q f h = tt
on-damage read.Memory P Q f h = tt

-- nothing was read
pub none-asked : (f : FoundView) → ReadsFound f f
none-asked f = record { blocks = []; once = tt; asked_for = All-nil _; read = nothing-read [] f.snapshot.parts }

-- ---- what is counted

-- a fault of the maker or of a reader, in the sum of both
pub one-of-both : (cap old new other : ℕ) → new ≡ old + min 1 (cap - old) → min (new + other) cap ≡ min (old + other) cap + min 1 (cap - min (old + other) cap)
one-of-both cap old new other counts = omega (arith, counts)

-- ---- the view of what was found

pub found-is : (f : FoundView) (load : Load) (snapshot : SnapshotView) (located entries : List CodeMove) (given : List ℕ) (ops : List Op) → located ≡ entries
    → Path FoundView (record { load = load; snapshot = snapshot; located = entries }) f → f.load ≡ record { given = given; ops = ops } → found_in given ops snapshot located ≡ f
found-is f load snapshot located entries given ops same view is =
    let whole : load ≡ record { given = given; ops = ops } = ap (λ (x : FoundView). x.load) view ∙ is in
    (λ i. record { load = sym whole i; snapshot = snapshot; located = same i }) ∙ view

-- ---- what is prepared

pub is-prepared : (f : FoundView) (made : MadeKeys) (p : PreparedPartialView) → AreFoundKeys f made → p.schema ≡ f.snapshot.schema → p.load ≡ f.load → p.keys ≡ made.keys.items
    → p.rows ≡ made.results.rows.items → AreSealedOf f.snapshot.schema (files_of made.results.rows.items) p.files → IsPreparedPartial p
is-prepared f made p keys schema load ks rows sealed =
    subst IsPreparedPartial path (record { lawful = keys.lawful; folds = keys.folds; files = record { sealed = sealed; moves_are = keys.moves }; made = keys.was; first = keys.first; over = keys.over })
  where
    base : PreparedPartialView
    base = record { schema = f.snapshot.schema; load = f.load; version = p.version; keys = made.keys.items; rows = made.results.rows.items; files = p.files; again = p.again; spent = p.spent }

    path : base ≡ p
    path = λ i. record { schema = sym schema i; load = sym load i; version = p.version; keys = sym ks i; rows = sym rows i; files = p.files; again = p.again; spent = p.spent }

pub over-same : (s t : Layout) (l k : Load) (ks : List PreparedKey) (xs ys : List (List Value)) (m : Rows) → s ≡ t → l ≡ k → xs ≡ ys → IsMadeOver t k ks ys m → IsMadeOver s l ks xs m
over-same s t l k ks xs ys m schema load rows h =
    subst (λ x. IsMadeOver x l ks xs m) (sym schema) (subst (λ x. IsMadeOver t x ks xs m) (sym load) (subst (λ x. IsMadeOver t k ks x m) (sym rows) h))

pub sealed-same : (s t : Layout) (xs ys : List (List Value)) (files : List NewSegment) → s ≡ t → xs ≡ ys → AreSealedOf s (files_of xs) files → AreSealedOf t (files_of ys) files
sealed-same s t xs ys files schema rows h = subst (λ x. AreSealedOf x (files_of ys) files) schema (subst (λ rs. AreSealedOf s (files_of rs) files) rows h)
