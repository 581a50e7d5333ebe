-- A prepared partial load, with what was made again of it, is the change of its load over a book.
use Rattle.std.proofs.Common.{◌≡◌, refl, ap, sym, subst, ◌∙◌, ℕ, suc, ◌+◌, ◌/◌, ◌≤◌, List, [], ◌∷◌, ◌++◌, map, length, Option, Some, None, option_to_list, Bool as Truth, true, false, ◌&&◌, not, cond, is_some, arith}
use Rattle.std.specs.Prelude.{IsTrue}
use Rattle.std.specs.List.{AllByRecursion, filter}
use Rattle.std.specs.FinMap.{get}
use Rattle.std.proofs.lemmas.List.{map-append}
use Rattle.index_level0.specs.declared.place.Place.{Place}
use Rattle.key_code.specs.KeyCode.{key_code}
use Rattle.pk_values.specs.Schemas.{Layout, fits_key}
use Rattle.pk_values.specs.declared.cells.Value.{Value}
use Rattle.pk_model.specs.Books.{rows_at}
use Rattle.pk_model.specs.Laws.{KeysStandFirst}
use Rattle.pk_model.specs.Tables.{Rows, after}
use Rattle.pk_model.specs.declared.books.Book.{Book}
use Rattle.rowsets.specs.Live.{Index, is_among}
use Rattle.rowsets.specs.Marks.{same_place, stands_in}
use Rattle.rowsets.specs.Merging.{all_rows}
use Rattle.rowsets.specs.Indexing.{CodeMove, Move, code_moves, places_of}
use Rattle.rowsets.specs.Steps.{HaveSame}
use Rattle.rowsets.proofs.LiveFacts.{same_place-exact}
use Rattle.tablet_state.specs.Contents.{Contents, index_of}
use Rattle.tablet_state.specs.Moving.{TellsKey, keeps_live}
use Rattle.tablet_state.specs.Readies.{IsChangeOf, NewSegment}
use Rattle.partial_loads.specs.declared.folds.Folded.{Folded}
use Rattle.partial_loads.specs.Folded.{HasCode, folded_keys}
use Rattle.partial_loads.specs.Folds.{change_at}
use Rattle.partial_loads.specs.Making.{HaveChanges, made_rows}
use Rattle.partial_loads.specs.Moves.{has_moved}
use Rattle.partial_loads.specs.Publications.{AreMadeTwice, HaveRows, IsReadyLoad, superseded}
use Rattle.partial_loads.proofs.MakeFacts.{folded_have_changes, rising_once}
use Rattle.partial_loads.proofs.ReadyFacts.{twice_made_is_ready}
use Rattle.core_publish.specs.Prepared.{AreSealedOf, files_of, moves_to, place_in}
use Rattle.core_publish.specs.Publication.{entry_from, placed_from}
use Rattle.core_publish.specs.Publishing.{stored_places}
use Rattle.core_publish.proofs.ChangeFacts.{sealed-told}
use Rattle.core_publish.proofs.EntryFacts.{entries-on, place-in}
use Rattle.core_publish.proofs.KeyFacts.{as-many}
use Rattle.core_publish.proofs.PlaceFacts.{all-in-files, enough}
use Rattle.core_partial.specs.Moving.{IsAgain, is_moved_key, made_places, moved_keys}
use Rattle.core_partial.specs.Prepared.{AgainView, AreFilesOf, IsPreparedPartial, PreparedPartialView, WasLocatedIn, WasMadeOver, folded_of, made_move}
use Rattle.core_partial.specs.Publishing.{dead_places, moves_after, place_from}
use Rattle.core_partial.specs.declared.keys.PreparedKey.{PreparedKey}
use Rattle.core_partial.proofs.SubFacts.{all-filtered, among-filtered, keys_in, left-out, rises-filtered}

never : {X : Type 0} → true ≡ false → X
never e = cc

some_one : {X : Type 0} (x y : X) → Some x ≡ Some y → x ≡ y
some_one x y e = cc

none_some : {X : Type 0} (x : X) → None ≡ Some x → ⊥
none_some x e = cc

-- ---- keys and their codes

abbrev pub AreCoded : Layout → List PreparedKey → Type 0
AreCoded s ks = AllByRecursion (λ k. HasCode s (folded_of k)) ks

pub coded-of : (s : Layout) (ks : List PreparedKey) → AllByRecursion (HasCode s) (map folded_of ks) → AreCoded s ks
coded-of s [] h = tt
coded-of s (k ∷ ks) h = (h.0, coded-of s ks h.1)

pub index-at : (c : Contents) (k : PreparedKey) → HasCode c.schema (folded_of k) → index_of c k.key ≡ get c.codes k.code
index-at c k h = ap (λ (t : Truth). cond t (get c.codes (key_code c.schema k.key)) None) h.key.fits ∙ ap (get c.codes) (sym h.code)

-- where the index has them
pub stored-found : (c : Contents) (ks : List PreparedKey) → AreCoded c.schema ks → stored_places c.codes (map made_move ks) ≡ places_of (index_of c) (keys_in ks)
stored-found c [] h = refl
stored-found c (k ∷ ks) h = λ i. option_to_list (sym (index-at c k h.0) i) ++ stored-found c ks h.1 i

keys-fit : (s : Layout) (ks : List PreparedKey) → AreCoded s ks → AllByRecursion (λ k. fits_key s k ≡ true) (keys_in ks)
keys-fit s [] h = tt
keys-fit s (k ∷ ks) h = (h.0.key.fits, keys-fit s ks h.1)

moves-fit : (s : Layout) (f : Index) (keys : List (List Value)) → AllByRecursion (λ k. fits_key s k ≡ true) keys
    → AllByRecursion (λ c. fits_key s c.key ≡ true) (map (λ k. let m : Move = record { key = k; place = f k } in m) keys)
moves-fit s f [] h = tt
moves-fit s f (k ∷ keys) h = (h.0, moves-fit s f keys h.1)

all-both : {X : Type 0} (P : X → Type 0) (xs ys : List X) → AllByRecursion P xs → AllByRecursion P ys → AllByRecursion P (xs ++ ys)
all-both P [] ys h g = g
all-both P (x ∷ xs) ys h g = (h.0, all-both P xs ys h.1 g)

-- ---- where their rows were made

abbrev first_place : List CodeMove → Option Place → Option Place
first_place [] o = o
first_place (e ∷ es) o = e.1

abbrev rest_of : List CodeMove → List CodeMove
rest_of [] = []
rest_of (e ∷ es) = es

abbrev AreAt : Index → List PreparedKey → Type 0
AreAt f ks = AllByRecursion (λ k. k.made ≡ f k.key) ks

stale-found : (s : Layout) (first : ℕ) (files : List (List (List Value))) (ks : List PreparedKey) → AreAt (place_in s 0 files) ks
    → map (place_from first) (made_places ks) ≡ places_of (place_in s first files) (keys_in ks)
stale-found s first files [] h = refl
stale-found s first files (k ∷ ks) h =
    map-append (place_from first) (option_to_list k.made) (made_places ks)
    ∙ (λ i. (ap (λ (o : Option Place). map (place_from first) (option_to_list o)) h.0 ∙ by (place_in s 0 files k.key) ∙ ap option_to_list (sym (place-in s first files k.key))) i ++ stale-found s first files ks h.1 i)
  where
    by : (o : Option Place) → map (place_from first) (option_to_list o) ≡ option_to_list (placed_from first o)
    by None = refl
    by (Some p) = refl

each-at : (s : Layout) (f : Index) (ks : List PreparedKey)
    → map made_move ks ≡ code_moves (key_code s) (map (λ k. let m : Move = record { key = k; place = f k } in m) (keys_in ks)) → AreAt f ks
each-at s f [] e = tt
each-at s f (k ∷ ks) e = (ap (λ (es : List CodeMove). first_place es k.made) e, each-at s f ks (ap rest_of e))

-- ---- files

have-rows : (s : Layout) (files : List (List (List Value))) (made : List NewSegment) → AreSealedOf s files made → HaveRows files
have-rows s [] [] h = tt
have-rows s [] (m ∷ made) h = absurd h
have-rows s (rows ∷ files) [] h = absurd h
have-rows s (rows ∷ files) (m ∷ made) h = (h.0.some, have-rows s files made h.3)

pub sealed-both : (s : Layout) (xs ys : List (List (List Value))) (ms ns : List NewSegment) → AreSealedOf s xs ms → AreSealedOf s ys ns → AreSealedOf s (xs ++ ys) (ms ++ ns)
sealed-both s [] ys [] ns h g = g
sealed-both s [] ys (m ∷ ms) ns h g = absurd h
sealed-both s (x ∷ xs) ys [] ns h g = absurd h
sealed-both s (x ∷ xs) ys (m ∷ ms) ns h g = (h.0, h.1, h.2, sealed-both s xs ys ms ns h.3 g)

in-files : (rows : List (List Value)) → all_rows (files_of rows) ≡ rows
in-files rows = all-in-files ((length rows + 65535) / 65536) rows (enough (length rows))

-- ---- the map over which the rows were made

-- the rows were made over this map, which is that of the version where the book keeps it
record IsWas (b : Book) (p : PreparedPartialView) (was : Rows) : Type 0 where
  over : WasMadeOver p was
  first : KeysStandFirst p.schema was
  kept : (m : Rows) → rows_at b p.version ≡ Some m → m ≡ was

was-of : (b : Book) (p : PreparedPartialView) → IsPreparedPartial p → WasLocatedIn b p → ((m : Rows) → rows_at b p.version ≡ Some m → KeysStandFirst p.schema m) → (was : Rows) × IsWas b p was
was-of b p is located firsts = go (rows_at b p.version) refl
  where
    go : (o : Option Rows) → rows_at b p.version ≡ o → (was : Rows) × IsWas b p was
    go None e = (is.made, record { over = is.over; first = is.first; kept = λ m f. absurd (none_some m (sym e ∙ f)) })
    go (Some m) e = (m, record { over = located m e; first = firsts m e; kept = λ n f. some_one n m (sym f ∙ e) })

-- ---- a key that didn't move

both-true : (a b : Truth) → not (a && b) ≡ false → (a ≡ true) × (b ≡ true)
both-true true true e = (refl, refl)
both-true true false e = never e
both-true false b e = never e

module _ (c : Contents) (b : Book) (p : PreparedPartialView) (was : Rows) (is_was : IsWas b p was) (told : (k : List Value) → TellsKey c b k) where
  unmoved : (x : PreparedKey) → HasCode c.schema (folded_of x) → (x.was ≡ None → get was x.key ≡ None) → is_moved_key c p.version x ≡ false → get b.current x.key ≡ get was x.key
  unmoved x code absent = go x.was (get c.codes x.code) refl refl
    where
      go : (o n : Option Place) → x.was ≡ o → get c.codes x.code ≡ n → has_moved (keeps_live c p.version) o n ≡ false → get b.current x.key ≡ get was x.key
      go None None e f h = (told x.key).absent (index-at c x code ∙ f) ∙ sym (absent e)
      go None (Some q) e f h = never h
      go (Some q) None e f h = never h
      go (Some q) (Some r) e f h =
          let both = both-true (same_place q r) (keeps_live c p.version q) h in
          let same : r ≡ q = same_place-exact q r both.0 in
          let stood = (told x.key).stood p.version q (index-at c x code ∙ f ∙ ap Some same) both.1 in
          stood.2 ∙ ap (λ (m : Rows). get m x.key) (is_was.kept stood.0 stood.1)

-- ---- the change

abbrev IsUnmoved : Layout → Rows → PreparedKey → Type 0
IsUnmoved s was x = HasCode s (folded_of x) × (x.was ≡ None → get was x.key ≡ None)

with-absent : (s : Layout) (was : Rows) (ks : List PreparedKey) → AreCoded s ks → AllByRecursion (λ k. k.was ≡ None → get was k.key ≡ None) ks → AllByRecursion (IsUnmoved s was) ks
with-absent s was [] h g = tt
with-absent s was (k ∷ ks) h g = ((h.0, g.0), with-absent s was ks h.1 g.1)

abbrev HasChange : PreparedPartialView → PreparedKey → Type 0
HasChange p k = k.change ≡ change_at p.load.given None p.load.ops k.key

changes-of : (p : PreparedPartialView) (ks : List PreparedKey) → HaveChanges p.load (map folded_of ks) → AllByRecursion (HasChange p) ks
changes-of p [] h = tt
changes-of p (k ∷ ks) h = (h.0, changes-of p ks h.1)

of-changes : (p : PreparedPartialView) (ks : List PreparedKey) → AllByRecursion (HasChange p) ks → HaveChanges p.load (map folded_of ks)
of-changes p [] h = tt
of-changes p (k ∷ ks) h = (h.0, of-changes p ks h.1)

pub some-changes : (p : PreparedPartialView) (test : PreparedKey → Truth) → IsPreparedPartial p → HaveChanges p.load (map folded_of (filter test p.keys))
some-changes p test is =
    of-changes p (filter test p.keys) (all-filtered (HasChange p) test p.keys (changes-of p p.keys (folded_have_changes p.schema p.load (map folded_of p.keys) is.folds)))

pub some-coded : (p : PreparedPartialView) (test : PreparedKey → Truth) → IsPreparedPartial p → AreCoded p.schema (filter test p.keys)
some-coded p test is = all-filtered (λ k. HasCode p.schema (folded_of k)) test p.keys (coded-of p.schema p.keys is.folds.coded)

module _ (c : Contents) (b : Book) (p : PreparedPartialView) (again : AgainView) (same : p.schema ≡ c.schema) (is : IsPreparedPartial p) (is_again : IsAgain p.schema (moved_keys c p.version p.keys) again)
    (over : again.rows ≡ made_rows p.schema p.load.given b.current (map folded_of (moved_keys c p.version p.keys))) (located : WasLocatedIn b p) (told : (k : List Value) → TellsKey c b k)
    (firsts : (m : Rows) → rows_at b p.version ≡ Some m → KeysStandFirst p.schema m) (now_first : KeysStandFirst p.schema b.current) where
  abbrev s : Layout
  s = p.schema

  abbrev moved : List PreparedKey
  moved = moved_keys c p.version p.keys

  abbrev made : List (List (List Value))
  made = files_of p.rows

  abbrev remade : List (List (List Value))
  remade = files_of again.rows

  abbrev first : ℕ
  first = c.next_file

  coded : AreCoded s p.keys
  coded = coded-of s p.keys is.folds.coded

  coded-here : AreCoded c.schema p.keys
  coded-here = subst (λ (x : Layout). AreCoded x p.keys) same coded

  was : (w : Rows) × IsWas b p w
  was = was-of b p is located firsts

  kept-row : (k : List Value) → is_among (keys_in p.keys) k ≡ true → is_among (keys_in moved) k ≡ false → get b.current k ≡ get was.0 k
  kept-row k there gone =
      let x = left-out (IsUnmoved c.schema was.0) (is_moved_key c p.version) p.keys k (with-absent c.schema was.0 p.keys coded-here was.1.over.absent) there gone in
      subst (λ (q : List Value). get b.current q ≡ get was.0 q) x.key (unmoved c b p was.0 was.1 told x.at x.has.0 x.has.1 x.fails)

  twice : AreMadeTwice s p.load was.0 b.current (map folded_of p.keys) (map folded_of moved) made remade
  twice = record {
    folds = is.folds;
    changes = some-changes p (is_moved_key c p.version) is;
    once = rising_once (keys_in moved) (rises-filtered (is_moved_key c p.version) p.keys is.folds.rise);
    among = among-filtered (is_moved_key c p.version) p.keys;
    same = kept-row;
    first = in-files p.rows ∙ was.1.over.rows_are;
    second = in-files again.rows ∙ over;
    made_some = have-rows s made p.files is.files.sealed;
    remade_some = have-rows s remade again.files is_again.files.sealed;
  }

  pub ready : IsReadyLoad s p.load b.current (index_of c) first (made ++ remade) (keys_in p.keys) (superseded s first made (map folded_of moved))
      (moves_to s first made (keys_in p.keys) ++ moves_to s (first + length made) remade (keys_in moved))
  ready = twice_made_is_ready s p.load was.0 b.current (index_of c) (map folded_of p.keys) (map folded_of moved) made remade first is.lawful was.1.first now_first twice

  at-made : AreAt (place_in s 0 made) moved
  at-made = all-filtered (λ k. k.made ≡ place_in s 0 made k.key) (is_moved_key c p.version) p.keys (each-at s (place_in s 0 made) p.keys is.files.moves_are)

  -- the rows that die
  pub dead-are : dead_places c p again ≡ places_of (index_of c) (keys_in p.keys) ++ superseded s first made (map folded_of moved)
  dead-are = λ i. stored-found c p.keys coded-here i ++ (ap (map (place_from first)) is_again.stale_are ∙ stale-found s first made moved at-made) i

  entries-are : moves_after first p again ≡ code_moves (key_code s) (moves_to s first made (keys_in p.keys) ++ moves_to s (first + length made) remade (keys_in moved))
  entries-are =
      let long : length p.files ≡ length made = as-many s made p.files is.files.sealed in
      (λ i. (ap (map (entry_from first)) is.files.moves_are ∙ entries-on s first made (keys_in p.keys)) i
      ++ (ap (λ (n : ℕ). map (entry_from (first + n)) again.moves) long ∙ ap (map (entry_from (first + length made))) is_again.files.moves_are ∙ entries-on s (first + length made) remade (keys_in moved)) i)
      ∙ sym (map-append (λ (m : Move). (key_code s m.key, m.place)) (moves_to s first made (keys_in p.keys)) (moves_to s (first + length made) remade (keys_in moved)))

  pub is-change : AllByRecursion (λ m. is_some m.0 ≡ true) (p.files ++ again.files) → (dead : List Place) → HaveSame dead (dead_places c p again)
      → IsChangeOf c.schema (index_of c) b p.load first (p.files ++ again.files) dead (moves_after first p again)
  is-change tells dead found = subst (λ (x : Layout). IsChangeOf x (index_of c) b p.load first (p.files ++ again.files) dead (moves_after first p again)) same (record {
    files = made ++ remade;
    sealed = sealed-told s (made ++ remade) (p.files ++ again.files) (sealed-both s made remade p.files again.files is.files.sealed is_again.files.sealed) tells;
    moves = moves_to s first made (keys_in p.keys) ++ moves_to s (first + length made) remade (keys_in moved);
    fit = all-both (λ m. fits_key s m.key ≡ true) (moves_to s first made (keys_in p.keys)) (moves_to s (first + length made) remade (keys_in moved))
        (moves-fit s (place_in s first made) (keys_in p.keys) (keys-fit s p.keys coded))
        (moves-fit s (place_in s (first + length made) remade) (keys_in moved) (keys-fit s moved (some-coded p (is_moved_key c p.version) is)));
    entries_are = entries-are;
    publication = record {
      lawful = is.lawful;
      looked_up = keys_in p.keys;
      stale = superseded s first made (map folded_of moved);
      ready = ready.ready;
      of_new = ready.of_new;
      of_rows = ready.of_rows;
      found = λ q. found q ∙ ap (λ (ps : List Place). stands_in ps q) dead-are;
      come = ready.come;
    };
  })
