-- Rows that have something behind them, as the defaults of a column that came since.
use Rattle.std.proofs.Common.{◌≡◌, refl, ap, sym, subst, ◌∙◌, ℕ, zero, suc, ◌+◌, List, [], ◌∷◌, ◌++◌, map, length, slice_get, Option, Some, None, option_map, Bool, true, false, ◌||◌, ◌==◌, cond, arith, eq-eqb}
use Rattle.std.specs.FinMap.{get}
use Rattle.std.proofs.lemmas.Bool.{eqb-true}
use Rattle.std.proofs.lemmas.List.{length-append}
use Rattle.pk_values.specs.Schemas.{Layout, key_of}
use Rattle.pk_values.specs.declared.cells.Value.{Value}
use Rattle.pk_model.specs.declared.books.Plan.{Plan}
use Rattle.pk_model.specs.Books.{version}
use Rattle.pk_model.specs.Tables.{Rows}
use Rattle.index_level0.specs.declared.place.Place.{Place}
use Rattle.rowsets.specs.Live.{Part, Version, parts_of, Files, Live, live, names, is_dead, is_among, HasKey, HasRow, FilesOnce, StandsFor, HasShortKeys, Index, IsIndex}
use Rattle.rowsets.specs.Plans.{HasPlan, base_of, top_of, untouched}
use Rattle.rowsets.specs.Books.{HoldsPlans, Widens, WideningIsHeld, WideRowsAreSame}
use Rattle.rowsets.proofs.LiveFacts.{names-append, live-named}
use Rattle.rowsets.proofs.PlanFacts.{first_and_last}
use Rattle.rowsets.proofs.BookFacts.{maps-append, all-push}

nothing_same : {X : Type 0} (x : X) → None ≡ Some x → ⊥
nothing_same x e = cc

some_same : {X : Type 0} (x y : X) → Some x ≡ Some y → x ≡ y
some_same x y e = cc

slice_get-map : (f : List Value → List Value) (xs : List (List Value)) (i : ℕ) → slice_get (map f xs) i ≡ option_map f (slice_get xs i)
slice_get-map f [] i = refl
slice_get-map f (x ∷ xs) zero = refl
slice_get-map f (x ∷ xs) (suc i) = slice_get-map f xs i

or_true : (a b : Bool) → b ≡ true → (a || b) ≡ true
or_true true b e = refl
or_true false b e = e

-- a row is live in the wider files where its narrower one is
live-wide : (wide : List Value → List Value) (rows others : Files) (parts : List Part) → ((n : ℕ) → names parts n ≡ true → others n ≡ map wide (rows n))
    → (p : Place) → live others parts p ≡ option_map wide (live rows parts p)
live-wide wide rows others [] read p = refl
live-wide wide rows others (part ∷ parts) read p =
    let here : others part.file ≡ map wide (rows part.file) = read part.file (ap (λ b. b || names parts part.file) (eq-eqb part.file part.file refl)) in
    ap (λ r. cond (part.file == p.segment) (cond (is_dead part p.row) None r) (live others parts p)) (ap (λ xs. slice_get xs p.row) here ∙ slice_get-map wide (rows part.file) p.row)
    ∙ ap (λ r. cond (part.file == p.segment) (cond (is_dead part p.row) None (option_map wide (slice_get (rows part.file) p.row))) r) (live-wide wide rows others parts (λ n e. read n (or_true (part.file == n) (names parts n) e)) p)
    ∙ both (part.file == p.segment) (is_dead part p.row) (slice_get (rows part.file) p.row) (live rows parts p)
  where
    both : (a b : Bool) (x y : Option (List Value)) → cond a (cond b None (option_map wide x)) (option_map wide y) ≡ option_map wide (cond a (cond b None x) y)
    both true true x y = refl
    both true false x y = refl
    both false b x y = refl

unmap : (f : List Value → List Value) (o : Option (List Value)) (y : List Value) → option_map f o ≡ Some y → (x : List Value) × (o ≡ Some x) × (f x ≡ y)
unmap f None y e = absurd (nothing_same y e)
unmap f (Some x) y e = (x, refl, some_same (f x) y e)

module _ (s : Layout) (wide : List Value → List Value) (old new : Live) (keys : (p : Place) (row : List Value) → old p ≡ Some row → key_of s (wide row) ≡ key_of s row)
    (at : (p : Place) → new p ≡ option_map wide (old p)) where
  -- a key stands where it stood
  key_before : (p : Place) (k : List Value) → HasKey s new p k → HasKey s old p k
  key_before p k h = let u = unmap wide (old p) h.0 (sym (at p) ∙ h.1) in (u.0, u.1, sym (keys p u.0 u.1) ∙ ap (key_of s) u.2 ∙ h.2)

  key_after : (p : Place) (k : List Value) → HasKey s old p k → HasKey s new p k
  key_after p k h = (wide h.0, at p ∙ ap (option_map wide) h.1, keys p h.0 h.1 ∙ h.2)

  -- a wider row is live exactly where one of its narrower ones was
  row_before : (k row : List Value) → HasRow s new k row → (r : List Value) × HasRow s old k r × (wide r ≡ row)
  row_before k row h = let u = unmap wide (old h.0) row (sym (at h.0) ∙ h.1) in (u.0, (h.0, u.1, sym (keys h.0 u.0 u.1) ∙ ap (key_of s) u.2 ∙ h.2), u.2)

  row_after : (k r : List Value) → HasRow s old k r → HasRow s new k (wide r)
  row_after k r h = (h.0, at h.0 ∙ ap (option_map wide) h.1, keys h.0 r h.1 ∙ h.2)

  pub stands_wide : (m n : Rows) → StandsFor s old m → ((k : List Value) → get n k ≡ option_map wide (get m k)) → StandsFor s new n
  stands_wide m n stands wider = record {
    same = λ k row. (
      λ is. let u = unmap wide (get m k) row (sym (wider k) ∙ is) in subst (HasRow s new k) u.2 (row_after k u.0 ((stands.same k u.0).0 u.1)),
      λ h. let r = row_before k row h in wider k ∙ ap (option_map wide) ((stands.same k r.0).1 r.1) ∙ ap Some r.2,
    );
    once = λ p q k h g. stands.once p q k (key_before p k h) (key_before q k g);
  }

  pub index_wide : (index : Index) → IsIndex s old index → IsIndex s new index
  index_wide index exact k p = (λ is. key_after p k ((exact k p).0 is), λ h. (exact k p).1 (key_before p k h))

untouched-wide : (s : Layout) (wide : List Value → List Value) (touched : List (List Value)) (o : Option (List Value)) → ((row : List Value) → o ≡ Some row → key_of s (wide row) ≡ key_of s row)
    → option_map wide (untouched s touched o) ≡ untouched s touched (option_map wide o)
untouched-wide s wide touched None keys = refl
untouched-wide s wide touched (Some row) keys = either (is_among touched (key_of s row)) ∙ ap (λ k. cond (is_among touched k) None (Some (wide row))) (sym (keys row refl))
  where
    either : (b : Bool) → option_map wide (cond b None (Some row)) ≡ cond b None (Some (wide row))
    either true = refl
    either false = refl

-- a live row is one that its file holds
held_row : (rows : Files) (parts : List Part) (p : Place) (row : List Value) → live rows parts p ≡ Some row → slice_get (rows p.segment) p.row ≡ Some row
held_row rows [] p row is = absurd (nothing_same row is)
held_row rows (part ∷ parts) p row is = go (part.file == p.segment) (is_dead part p.row) refl (held_row rows parts p row) is
  where
    go : (a b : Bool) → (part.file == p.segment) ≡ a → (live rows parts p ≡ Some row → slice_get (rows p.segment) p.row ≡ Some row)
        → cond a (cond b None (slice_get (rows part.file) p.row)) (live rows parts p) ≡ Some row → slice_get (rows p.segment) p.row ≡ Some row
    go true true e later is = absurd (nothing_same row is)
    go true false e later is = ap (λ n. slice_get (rows n) p.row) (sym (eqb-true part.file p.segment e)) ∙ is
    go false b e later is = later is

-- of parts among those that are read with wider rows, a live row keeps its key
live_keys : (s : Layout) (wide : List Value → List Value) (rows others : Files) (all parts : List Part) → Widens s wide rows others all → ((n : ℕ) → names parts n ≡ true → names all n ≡ true)
    → (p : Place) (row : List Value) → live rows parts p ≡ Some row → key_of s (wide row) ≡ key_of s row
live_keys s wide rows others all parts w within p row is = w.keys p.segment p.row row (within p.segment (live-named rows parts p row is)) (held_row rows parts p row is)

plan_wide : (s : Layout) (wide : List Value → List Value) (rows others : Files) (begun v : Version) (touched : List (List Value)) → Widens s wide rows others (parts_of v)
    → HasPlan s rows begun touched v → HasPlan s others begun touched v
plan_wide s wide rows others begun v touched w plan = record {
  within = plan.within;
  keeps = record {
    files = plan.keeps.files;
    apart = plan.keeps.apart;
    came = λ p k h. plan.keeps.came p k (key_before s wide (live rows (top_of begun v)) (live others (top_of begun v)) (live_keys s wide rows others (parts_of v) (top_of begun v) w in_top) (live-wide wide rows others (top_of begun v) of_top) p k h);
    left = λ p. live-wide wide rows others (base_of begun v) of_base p ∙ ap (option_map wide) (plan.keeps.left p) ∙ untouched-wide s wide touched (live rows (parts_of begun) p) (live_keys s wide rows others (parts_of v) (parts_of begun) w in_begun p)
        ∙ ap (untouched s touched) (sym (live-wide wide rows others (parts_of begun) of_begun p));
  };
}
  where
    split : (n : ℕ) → names (parts_of v) n ≡ (names (base_of begun v) n || names (top_of begun v) n)
    split n = ap (λ ps. names ps n) (first_and_last (length begun) v) ∙ names-append (base_of begun v) (top_of begun v) n

    in_base : (n : ℕ) → names (base_of begun v) n ≡ true → names (parts_of v) n ≡ true
    in_base n e = split n ∙ ap (λ b. b || names (top_of begun v) n) e

    in_top : (n : ℕ) → names (top_of begun v) n ≡ true → names (parts_of v) n ≡ true
    in_top n e = split n ∙ or_true (names (base_of begun v) n) (names (top_of begun v) n) e

    in_begun : (n : ℕ) → names (parts_of begun) n ≡ true → names (parts_of v) n ≡ true
    in_begun n e = in_base n (plan.keeps.files n ∙ e)

    of_base : (n : ℕ) → names (base_of begun v) n ≡ true → others n ≡ map wide (rows n)
    of_base n e = w.read n (in_base n e)

    of_top : (n : ℕ) → names (top_of begun v) n ≡ true → others n ≡ map wide (rows n)
    of_top n e = w.read n (in_top n e)

    of_begun : (n : ℕ) → names (parts_of begun) n ≡ true → others n ≡ map wide (rows n)
    of_begun n e = w.read n (in_begun n e)

pub widening_is_held : WideningIsHeld
widening_is_held s rows h b wide m holds w wider = record {
  older = maps-append s rows b.floor (version b) h.older b.older h.current b.current holds.older refl holds.current;
  current = subst (λ i. StandsFor s (live (rows i) (parts_of h.current)) m) one_more (stands_wide s wide old new same_keys at b.current m holds.current wider);
  exact = subst (λ i. IsIndex s (live (rows i) (parts_of h.current)) h.index) one_more (index_wide s wide old new same_keys at h.index holds.exact);
  rowsets = holds.rowsets;
  plan = subst (λ i. HoldsPlans s rows i h.current h.plan b.plan) one_more (plans h.plan b.plan holds.plan);
  older_files = all-push (λ v. FilesOnce (parts_of v)) h.older h.current holds.older_files holds.files;
  files = holds.files;
  older_short = all-push (HasShortKeys s) b.older b.current holds.older_short holds.short;
  short = λ k row is. let u = unmap wide (get b.current k) row (sym (wider k) ∙ is) in holds.short k u.0 u.1;
}
  where
    one_more : version b + 1 ≡ b.floor + length (b.older ++ b.current ∷ [])
    one_more = omega (arith, length-append b.older (b.current ∷ []))

    old : Live
    old = live (rows (version b)) (parts_of h.current)

    new : Live
    new = live (rows (version b + 1)) (parts_of h.current)

    same_keys : (p : Place) (row : List Value) → live (rows (version b)) (parts_of h.current) p ≡ Some row → key_of s (wide row) ≡ key_of s row
    same_keys = live_keys s wide (rows (version b)) (rows (version b + 1)) (parts_of h.current) (parts_of h.current) w (λ n e. e)

    at : (p : Place) → live (rows (version b + 1)) (parts_of h.current) p ≡ option_map wide (live (rows (version b)) (parts_of h.current) p)
    at = live-wide wide (rows (version b)) (rows (version b + 1)) (parts_of h.current) w.read

    plans : (o : Option Version) (p : Option Plan) → HoldsPlans s rows (version b) h.current o p → HoldsPlans s rows (version b + 1) h.current o p
    plans None None held = tt
    plans None (Some p) held = absurd held
    plans (Some begun) None held = absurd held
    plans (Some begun) (Some p) held = record {
      counted = held.counted;
      stood = held.stood;
      short = held.short;
      keeps = plan_wide s wide (rows (version b)) (rows (version b + 1)) begun h.current p.touched w held.keeps;
    }

pub wide_rows_are_same : WideRowsAreSame
wide_rows_are_same s wide rows others old new before after same_rows = record {
  same = λ k row. (
    λ h. let r = row_before s wide (live rows old) (live others old) of_keys of_old k row h in
        subst (HasRow s (live others new) k) r.2 (row_after s wide (live rows new) (live others new) new_keys of_new k r.0 ((same_rows.same k r.0).0 r.1)),
    λ h. let r = row_before s wide (live rows new) (live others new) new_keys of_new k row h in
        subst (HasRow s (live others old) k) r.2 (row_after s wide (live rows old) (live others old) of_keys of_old k r.0 ((same_rows.same k r.0).1 r.1)),
  );
  once = λ p q k h g. same_rows.once p q k
      (key_before s wide (live rows new) (live others new) new_keys of_new p k h) (key_before s wide (live rows new) (live others new) new_keys of_new q k g);
}
  where
    of_keys : (p : Place) (row : List Value) → live rows old p ≡ Some row → key_of s (wide row) ≡ key_of s row
    of_keys = live_keys s wide rows others old old before (λ n e. e)

    new_keys : (p : Place) (row : List Value) → live rows new p ≡ Some row → key_of s (wide row) ≡ key_of s row
    new_keys = live_keys s wide rows others new new after (λ n e. e)

    of_old : (p : Place) → live others old p ≡ option_map wide (live rows old p)
    of_old = live-wide wide rows others old before.read

    of_new : (p : Place) → live others new p ≡ option_map wide (live rows new p)
    of_new = live-wide wide rows others new after.read
