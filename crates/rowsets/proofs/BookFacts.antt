-- What is held stands for the book after each call.
use Rattle.std.proofs.Common.{◌≡◌, refl, ap, sym, subst, ◌∙◌, ℕ, zero, suc, ◌+◌, ◌-◌, max, List, [], ◌∷◌, ◌++◌, length, take, drop, slice_get, Option, Some, None, option_map, Bool, true, false, ◌||◌, nat_lt, if◌then◌else◌, arith}
use Rattle.std.specs.List.{list_any, AllByRecursion}
use Rattle.std.specs.FinMap.{get-empty}
use Rattle.pk_values.specs.Order.{key_cmp}
use Rattle.std.proofs.lemmas.Bool.{ltb-true, ltb-false}
use Rattle.std.proofs.lemmas.List.{length-append, length-drop, length-map}
use Rattle.pk_values.specs.Schemas.{Layout}
use Rattle.pk_values.specs.declared.cells.Value.{Value}
use Rattle.pk_model.specs.declared.books.Plan.{Plan}
use Rattle.pk_model.specs.declared.books.Book.{Book}
use Rattle.pk_model.specs.Books.{version, change_expire}
use Rattle.pk_model.specs.Tables.{Rows, after, touches}
use Rattle.index_level0.specs.declared.place.Place.{Place}
use Rattle.rowsets.specs.Live.{Part, Version, parts_of, live, names, Apart, FilesOnce, StandsFor, HasShortKeys, IsIndex}
use Rattle.rowsets.specs.Marks.{marked}
use Rattle.rowsets.specs.Changes.{IsChange, one_rowset, published}
use Rattle.rowsets.specs.Plans.{HasPlan}
use Rattle.rowsets.specs.Books.{Readings, AreMaps, HoldsPlan, HoldsPlans, HoldsBook, NewBookIsHeld, KeptAreHeld, AsManyVersions, AnswersDecide, PlanIsHeld, held_after, touch_keys, book_after, ChangeIsHeld, LoadIsHeld, BeginIsHeld, GivingUpIsHeld, EndIsHeld, ExpiryIsHeld, names_version, names_plan, OthersAreFree}
use Rattle.rowsets.proofs.LiveFacts.{live-agrees, names-append, names-marked, unnamed, parts-published, once-marked, once-append, once-last, apart-marked}
use Rattle.rowsets.proofs.LoadFacts.{new_rowset, loads_keep_short_keys}
use Rattle.rowsets.proofs.PublishFacts.{publishing_stands, stands_same, index_same}
use Rattle.rowsets.proofs.PlanFacts.{beginning_has_plan, publishing_keeps_plan, others_keep_plan, first_and_last}
use Rattle.rowsets.proofs.EndFacts.{ending_stands, ending_keeps_index, rowsets_are_counted, parts-compacted}

nothing_same : {X : Type 0} (x : X) → None ≡ Some x → ⊥
nothing_same x e = cc

some_same : {X : Type 0} (x y : X) → Some x ≡ Some y → x ≡ y
some_same x y e = cc

pub new_book_is_held : NewBookIsHeld
new_book_is_held s rows = record {
  older = tt;
  current = record { same = λ k row. ((λ e. absurd (nothing_same row (sym (get-empty key_cmp k) ∙ e))), λ h. absurd (nothing_same row h.1)); once = λ p q k h g. absurd (nothing_same h.0 h.1) };
  exact = λ k p. ((λ e. absurd (nothing_same p e)), λ h. absurd (nothing_same h.0 h.1));
  rowsets = refl;
  plan = tt;
  older_files = tt;
  files = tt;
  older_short = tt;
  short = λ k row e. absurd (nothing_same row (sym (get-empty key_cmp k) ∙ e));
}

or_left : (a b : Bool) → a ≡ true → (a || b) ≡ true
or_left true b e = refl
or_left false b e = cc

or_right : (a b : Bool) → b ≡ true → (a || b) ≡ true
or_right true b e = refl
or_right false b e = e

-- one map more, at the next number
pub maps-append : (s : Layout) (rows : Readings) (v n : ℕ) (ws : List Version) (ms : List Rows) (w : Version) (m : Rows)
    → AreMaps s rows v ws ms → n ≡ v + length ms → StandsFor s (live (rows n) (parts_of w)) m → AreMaps s rows v (ws ++ w ∷ []) (ms ++ m ∷ [])
maps-append s rows v n [] [] w m are at stands = let here : n ≡ v = omega arith in (subst (λ i. StandsFor s (live (rows i) (parts_of w)) m) here stands, tt)
maps-append s rows v n [] (x ∷ ms) w m are at stands = absurd are
maps-append s rows v n (x ∷ ws) [] w m are at stands = absurd are
maps-append s rows v n (x ∷ ws) (y ∷ ms) w m are at stands = (are.0, maps-append s rows (v + 1) n ws ms w m are.1 (omega arith) stands)

maps-drop : (s : Layout) (rows : Readings) (v n w : ℕ) (ws : List Version) (ms : List Rows) → AreMaps s rows v ws ms → w ≡ v + n → AreMaps s rows w (drop n ws) (drop n ms)
maps-drop s rows v zero w ws ms are at = let here : v ≡ w = omega arith in subst (λ i. AreMaps s rows i ws ms) here are
maps-drop s rows v (suc n) w [] [] are at = tt
maps-drop s rows v (suc n) w [] (x ∷ ms) are at = absurd are
maps-drop s rows v (suc n) w (x ∷ ws) [] are at = absurd are
maps-drop s rows v (suc n) w (x ∷ ws) (y ∷ ms) are at = maps-drop s rows (v + 1) n w ws ms are.1 (omega arith)

maps-get : (s : Layout) (rows : Readings) (v : ℕ) (ws : List Version) (ms : List Rows) (i : ℕ) → AreMaps s rows v ws ms
    → ((m : Rows) → slice_get ms i ≡ Some m → (w : Version) × (slice_get ws i ≡ Some w) × StandsFor s (live (rows (v + i)) (parts_of w)) m)
    × ((w : Version) → slice_get ws i ≡ Some w → (m : Rows) × (slice_get ms i ≡ Some m))
maps-get s rows v [] [] i are = ((λ m e. absurd (nothing_same m e)), λ w e. absurd (nothing_same w e))
maps-get s rows v [] (x ∷ ms) i are = absurd are
maps-get s rows v (x ∷ ws) [] i are = absurd are
maps-get s rows v (x ∷ ws) (y ∷ ms) zero are = (
  λ m e. let here : v ≡ v + 0 = omega arith in (x, refl, subst (λ i. StandsFor s (live (rows i) (parts_of x)) m) here (subst (λ n. StandsFor s (live (rows v) (parts_of x)) n) (some_same y m e) are.0)),
  λ w e. (y, refl),
)
maps-get s rows v (x ∷ ws) (y ∷ ms) (suc i) are =
    let more = maps-get s rows (v + 1) ws ms i are.1 in
    let at : v + 1 + i ≡ v + suc i = omega arith in (
      λ m e. let w = more.0 m e in (w.0, w.1, subst (λ j. StandsFor s (live (rows j) (parts_of w.0)) m) at w.2),
      more.1,
    )

-- what each of a list has, a list with one more has, its last ones have, and each has
module _ {X : Type 0} (P : X → Type 0) where
  pub all-push : (xs : List X) (x : X) → AllByRecursion P xs → P x → AllByRecursion P (xs ++ x ∷ [])
  all-push [] x h g = (g, tt)
  all-push (y ∷ xs) x h g = (h.0, all-push xs x h.1 g)

  all-drop : (n : ℕ) (xs : List X) → AllByRecursion P xs → AllByRecursion P (drop n xs)
  all-drop zero xs h = h
  all-drop (suc n) [] h = tt
  all-drop (suc n) (x ∷ xs) h = all-drop n xs h.1

  one_of : (xs : List X) (i : ℕ) (x : X) → AllByRecursion P xs → slice_get xs i ≡ Some x → P x
  one_of [] i x h e = absurd (nothing_same x e)
  one_of (y ∷ xs) zero x h e = subst P (some_same y x e) h.0
  one_of (y ∷ xs) (suc i) x h e = one_of xs i x h.1 e

pub kept_are_held : KeptAreHeld
kept_are_held s rows h b v holds = go (nat_lt v b.floor) refl
  where
    all : AreMaps s rows b.floor (h.older ++ h.current ∷ []) (b.older ++ b.current ∷ [])
    all = maps-append s rows b.floor (version b) h.older b.older h.current b.current holds.older refl holds.current

    every : AllByRecursion (λ v. FilesOnce (parts_of v)) (h.older ++ h.current ∷ [])
    every = all-push (λ v. FilesOnce (parts_of v)) h.older h.current holds.older_files holds.files

    all_short : AllByRecursion (HasShortKeys s) (b.older ++ b.current ∷ [])
    all_short = all-push (HasShortKeys s) b.older b.current holds.older_short holds.short

    go : (t : Bool) → nat_lt v b.floor ≡ t
        → ((m : Rows) → (if t then None else slice_get (b.older ++ b.current ∷ []) (v - b.floor)) ≡ Some m → (w : Version) × ((if t then None else slice_get (h.older ++ h.current ∷ []) (v - b.floor)) ≡ Some w) × StandsFor s (live (rows v) (parts_of w)) m × FilesOnce (parts_of w) × HasShortKeys s m)
        × ((w : Version) → (if t then None else slice_get (h.older ++ h.current ∷ []) (v - b.floor)) ≡ Some w → (m : Rows) × ((if t then None else slice_get (b.older ++ b.current ∷ []) (v - b.floor)) ≡ Some m))
    go true e = ((λ m f. absurd (nothing_same m f)), λ w f. absurd (nothing_same w f))
    go false e =
        let le = ltb-false v b.floor e in
        let at : b.floor + (v - b.floor) ≡ v = omega arith in
        let found = maps-get s rows b.floor (h.older ++ h.current ∷ []) (b.older ++ b.current ∷ []) (v - b.floor) all in
        (λ m f. let w = found.0 m f in (w.0, w.1, subst (λ j. StandsFor s (live (rows j) (parts_of w.0)) m) at w.2, one_of (λ v. FilesOnce (parts_of v)) (h.older ++ h.current ∷ []) (v - b.floor) w.0 every w.1, one_of (HasShortKeys s) (b.older ++ b.current ∷ []) (v - b.floor) m all_short f), found.1)

same_count : (s : Layout) (rows : Readings) (v : ℕ) (ws : List Version) (ms : List Rows) → AreMaps s rows v ws ms → length ws ≡ length ms
same_count s rows v [] [] are = refl
same_count s rows v [] (m ∷ ms) are = absurd are
same_count s rows v (w ∷ ws) [] are = absurd are
same_count s rows v (w ∷ ws) (m ∷ ms) are = ap suc (same_count s rows (v + 1) ws ms are.1)

pub as_many_versions : AsManyVersions
as_many_versions s rows h b holds = same_count s rows b.floor h.older b.older holds.older

pub answers_decide : AnswersDecide
answers_decide s rows h b other holds same = record {
  older = holds.older;
  current = holds.current;
  exact = λ k p. ((λ is. (holds.exact k p).0 (sym (same k) ∙ is)), λ g. same k ∙ (holds.exact k p).1 g);
  rowsets = holds.rowsets;
  plan = holds.plan;
  older_files = holds.older_files;
  files = holds.files;
  older_short = holds.older_short;
  short = holds.short;
}

pub plan_is_held : PlanIsHeld
plan_is_held s rows h b holds = ((λ p e. go p h.plan refl (subst (λ q. HoldsPlans s rows (version b) h.current h.plan q) e holds.plan)), λ e. none h.plan refl (subst (λ q. HoldsPlans s rows (version b) h.current h.plan q) e holds.plan))
  where
    go : (p : Plan) (o : Option Version) → h.plan ≡ o → HoldsPlans s rows (version b) h.current h.plan (Some p) → (begun : Version) × (h.plan ≡ Some begun) × HoldsPlan s rows (version b) h.current begun p
    go p None e held = absurd (subst (λ o. HoldsPlans s rows (version b) h.current o (Some p)) e held)
    go p (Some begun) e held = (begun, e, subst (λ o. HoldsPlans s rows (version b) h.current o (Some p)) e held)

    none : (o : Option Version) → h.plan ≡ o → HoldsPlans s rows (version b) h.current h.plan None → h.plan ≡ None
    none None e held = e
    none (Some begun) e held = absurd (subst (λ o. HoldsPlans s rows (version b) h.current o None) e held)

-- the plan after a change
plan_after : (s : Layout) (rows : Readings) (now : ℕ) (v : Version) (touched : List (List Value)) (dead : List Place) (new : List Part) (old : Option Version) (p : Option Plan)
    → HoldsPlans s rows now v old p
    → ((begun : Version) (before : List (List Value)) → HasPlan s (rows now) begun before v → HasPlan s (rows (now + 1)) begun (before ++ touched) (published dead new v))
    → HoldsPlans s rows (now + 1) (published dead new v) old (option_map (touch_keys touched) p)
plan_after s rows now v touched dead new None None held keeps = tt
plan_after s rows now v touched dead new None (Some p) held keeps = absurd held
plan_after s rows now v touched dead new (Some begun) None held keeps = absurd held
plan_after s rows now v touched dead new (Some begun) (Some p) held keeps = record { counted = held.counted; stood = held.stood; short = held.short; keeps = keeps begun p.touched held.keeps }

pub change_is_held : ChangeIsHeld
change_is_held s rows h b touched now dead new next holds alike apart new_once makes short_now = record {
  older = maps-append s rows b.floor (version b) h.older b.older h.current b.current holds.older refl holds.current;
  current = subst (λ i. StandsFor s (live (rows i) (parts_of (published dead new h.current))) now) one_more stands.1;
  exact = subst (λ i. IsIndex s (live (rows i) (parts_of (published dead new h.current))) next) one_more stands.0;
  rowsets = length-map (h.current ++ one_rowset new) (marked dead) ∙ length-append h.current (one_rowset new) ∙ ap (λ n. n + length (one_rowset new)) holds.rowsets;
  plan = subst (λ i. HoldsPlans s rows i (published dead new h.current) h.plan (option_map (touch_keys touched) b.plan)) one_more
      (plan_after s rows (version b) h.current touched dead new h.plan b.plan holds.plan keeps);
  older_files = all-push (λ v. FilesOnce (parts_of v)) h.older h.current holds.older_files holds.files;
  older_short = all-push (HasShortKeys s) b.older b.current holds.older_short holds.short;
  short = short_now;
  files = subst FilesOnce (sym (parts-published dead new h.current))
      (once-append (marked dead (parts_of h.current)) (marked dead new) (once-marked dead (parts_of h.current) holds.files) (once-marked dead new new_once) (apart-marked dead dead (parts_of h.current) new apart));
}
  where
    one_more : version b + 1 ≡ b.floor + length (b.older ++ b.current ∷ [])
    one_more = omega (arith, length-append b.older (b.current ∷ []))

    -- the current version as the next one reads it
    same : (p : Place) → live (rows (version b + 1)) (parts_of h.current) p ≡ live (rows (version b)) (parts_of h.current) p
    same p = live-agrees (rows (version b)) (rows (version b + 1)) (parts_of h.current) alike p

    makes_now : IsChange s (live (rows (version b + 1)) (parts_of h.current)) h.index b.current touched now (live (rows (version b + 1)) (marked dead new)) dead next
    makes_now = record {
      others = makes.others;
      new_rows = makes.new_rows;
      old_rows = λ p k has. makes.old_rows p k (has.0, sym (same p) ∙ has.1, has.2);
      places = makes.places;
    }

    stands : IsIndex s (live (rows (version b + 1)) (parts_of (published dead new h.current))) next × StandsFor s (live (rows (version b + 1)) (parts_of (published dead new h.current))) now
    stands =
        publishing_stands s (rows (version b + 1)) h.current new dead h.index next touched b.current now
        (index_same s (live (rows (version b)) (parts_of h.current)) (live (rows (version b + 1)) (parts_of h.current)) h.index same holds.exact)
        (stands_same s (live (rows (version b)) (parts_of h.current)) (live (rows (version b + 1)) (parts_of h.current)) b.current same holds.current)
        apart makes_now

    keeps : (begun : Version) (before : List (List Value)) → HasPlan s (rows (version b)) begun before h.current → HasPlan s (rows (version b + 1)) begun (before ++ touched) (published dead new h.current)
    keeps begun before plan =
        publishing_keeps_plan s (rows (version b + 1)) begun h.current new dead before touched now
        (others_keep_plan s (rows (version b)) (rows (version b + 1)) begun h.current before alike plan) apart makes_now.old_rows makes.new_rows

pub load_is_held : LoadIsHeld
load_is_held s rows h b load dead new next holds alike apart new_once makes come lawful =
    subst (λ more. HoldsBook s rows (held_after dead new next h) (book_after (touches load.ops) (after s load b.current) more b))
    (new_rowset s load b.current (rows (version b + 1)) dead new makes.new_rows come)
    (change_is_held s rows h b (touches load.ops) (after s load b.current) dead new next holds alike apart new_once makes (loads_keep_short_keys s load b.current lawful holds.short))

pub begin_is_held : BeginIsHeld
begin_is_held s rows h b place holds = record {
  older = holds.older;
  current = holds.current;
  exact = holds.exact;
  rowsets = holds.rowsets;
  plan = record { counted = holds.rowsets; stood = holds.current; short = holds.short; keeps = beginning_has_plan s (rows (version b)) h.current };
  older_files = holds.older_files;
  files = holds.files;
  older_short = holds.older_short;
  short = holds.short;
}

pub giving_up_is_held : GivingUpIsHeld
giving_up_is_held s rows h b p holds = record { older = holds.older; current = holds.current; exact = holds.exact; rowsets = holds.rowsets; plan = tt; older_files = holds.older_files; files = holds.files; older_short = holds.older_short; short = holds.short }

pub end_is_held : EndIsHeld
end_is_held s rows h b begun p merged dead next holds at_held at_book ends = record {
  older = holds.older;
  current = ending_stands s (rows (version b)) begun h.current p.touched merged dead b.current holds.current plan.keeps ends.same_rows ends.apart ends.late;
  exact = ending_keeps_index s (rows (version b)) begun h.current p.touched merged dead b.current h.index ends.placed next holds.current holds.exact plan.keeps ends.same_rows ends.apart ends.late ends.exact ends.places;
  rowsets = rowsets_are_counted b p begun h.current dead merged (sym holds.rowsets) (sym plan.counted) ends.empty;
  plan = tt;
  older_files = holds.older_files;
  older_short = holds.older_short;
  short = holds.short;
  files = subst FilesOnce (sym (parts-compacted dead merged (length begun) h.current))
      (once-append (marked dead merged) later (once-marked dead merged ends.files) (once-last (parts_of (take (length begun) h.current)) later (subst FilesOnce split holds.files)) merged_apart);
}
  where
    later : List Part
    later = parts_of (drop (length begun) h.current)

    split : parts_of h.current ≡ parts_of (take (length begun) h.current) ++ parts_of (drop (length begun) h.current)
    split = first_and_last (length begun) h.current

    merged_apart : Apart (marked dead merged) (parts_of (drop (length begun) h.current))
    merged_apart n named =
        unnamed (parts_of (drop (length begun) h.current)) merged
        (λ i e. ends.apart i (ap (λ ps. names ps i) split ∙ names-append (parts_of (take (length begun) h.current)) (parts_of (drop (length begun) h.current)) i ∙ or_right (names (parts_of (take (length begun) h.current)) i) (names (parts_of (drop (length begun) h.current)) i) e))
        n (sym (names-marked dead merged n) ∙ named)

    plan : HoldsPlan s rows (version b) h.current begun p
    plan = subst (λ q. HoldsPlans s rows (version b) h.current (Some begun) q) at_book (subst (λ o. HoldsPlans s rows (version b) h.current o b.plan) at_held holds.plan)

pub expiry_is_held : ExpiryIsHeld
expiry_is_held s rows h b v holds le = subst (HoldsBook s rows (record h { older = drop (v - b.floor) h.older })) (sym expired) after_it
  where
    after : Book
    after = record b { floor = max b.floor v; older = drop (v - b.floor) b.older }

    expired : change_expire b v ≡ record b { floor = max b.floor v; older = drop (v - b.floor) b.older }
    expired = elim (nat_lt (version b) v) as (λ t. nat_lt (version b) v ≡ t → (if t then b else record b { floor = max b.floor v; older = drop (v - b.floor) b.older }) ≡ record b { floor = max b.floor v; older = drop (v - b.floor) b.older }) [
      | true ↦ λ e. let lt = ltb-true (version b) v e in absurd (omega arith)
      | false ↦ λ e. refl
    ] refl

    same : version b ≡ max b.floor v + length (drop (v - b.floor) b.older)
    same = let n = length-drop (v - b.floor) b.older in omega arith

    after_it : HoldsBook s rows (record h { older = drop (v - b.floor) h.older }) (record b { floor = max b.floor v; older = drop (v - b.floor) b.older })
    after_it = record {
      older = maps-drop s rows b.floor (v - b.floor) (max b.floor v) h.older b.older holds.older (omega arith);
      current = subst (λ i. StandsFor s (live (rows i) (parts_of h.current)) b.current) same holds.current;
      exact = subst (λ i. IsIndex s (live (rows i) (parts_of h.current)) h.index) same holds.exact;
      rowsets = holds.rowsets;
      plan = subst (λ i. HoldsPlans s rows i h.current h.plan b.plan) same holds.plan;
      older_files = all-drop (λ v. FilesOnce (parts_of v)) (v - b.floor) h.older holds.older_files;
      files = holds.files;
      older_short = all-drop (HasShortKeys s) (v - b.floor) b.older holds.older_short;
      short = holds.short;
    }

maps_same : (s : Layout) (rows others : Readings) (v : ℕ) (ws : List Version) (ms : List Rows) → ((i n : ℕ) → list_any (λ w. names_version w n) ws ≡ true → others i n ≡ rows i n)
    → AreMaps s rows v ws ms → AreMaps s others v ws ms
maps_same s rows others v [] [] agree are = tt
maps_same s rows others v [] (m ∷ ms) agree are = absurd are
maps_same s rows others v (w ∷ ws) [] agree are = absurd are
maps_same s rows others v (w ∷ ws) (m ∷ ms) agree are = (
  stands_same s (live (rows v) (parts_of w)) (live (others v) (parts_of w)) m (λ p. live-agrees (rows v) (others v) (parts_of w) (λ n e. agree v n (or_left (names_version w n) (list_any (λ w. names_version w n) ws) e)) p) are.0,
  maps_same s rows others (v + 1) ws ms (λ i n e. agree i n (or_right (names_version w n) (list_any (λ w. names_version w n) ws) e)) are.1,
)

plans_same : (s : Layout) (rows others : Readings) (now : ℕ) (current : Version) (old : Option Version) (p : Option Plan)
    → ((i n : ℕ) → names_version current n ≡ true → others i n ≡ rows i n) → ((i n : ℕ) → names_plan old n ≡ true → others i n ≡ rows i n)
    → HoldsPlans s rows now current old p → HoldsPlans s others now current old p
plans_same s rows others now current None None agree also held = tt
plans_same s rows others now current None (Some p) agree also held = absurd held
plans_same s rows others now current (Some begun) None agree also held = absurd held
plans_same s rows others now current (Some begun) (Some p) agree also held = record {
  counted = held.counted;
  short = held.short;
  stood = stands_same s (live (rows p.version) (parts_of begun)) (live (others p.version) (parts_of begun)) p.rows (λ q. live-agrees (rows p.version) (others p.version) (parts_of begun) (also p.version) q) held.stood;
  keeps = others_keep_plan s (rows now) (others now) begun current p.touched (agree now) held.keeps;
}

pub others_are_free : OthersAreFree
others_are_free s rows others h b agree holds = record {
  older = maps_same s rows others b.floor h.older b.older (λ i n e. agree i n (or_left (list_any (λ v. names_version v n) h.older) (names_version h.current n || names_plan h.plan n) e)) holds.older;
  current = stands_same s (live (rows (version b)) (parts_of h.current)) (live (others (version b)) (parts_of h.current)) b.current same holds.current;
  exact = index_same s (live (rows (version b)) (parts_of h.current)) (live (others (version b)) (parts_of h.current)) h.index same holds.exact;
  rowsets = holds.rowsets;
  plan = plans_same s rows others (version b) h.current h.plan b.plan of_current
      (λ i n e. agree i n (or_right (list_any (λ v. names_version v n) h.older) (names_version h.current n || names_plan h.plan n) (or_right (names_version h.current n) (names_plan h.plan n) e))) holds.plan;
  older_files = holds.older_files;
  files = holds.files;
  older_short = holds.older_short;
  short = holds.short;
}
  where
    of_current : (i n : ℕ) → names_version h.current n ≡ true → others i n ≡ rows i n
    of_current i n e = agree i n (or_right (list_any (λ v. names_version v n) h.older) (names_version h.current n || names_plan h.plan n) (or_left (names_version h.current n) (names_plan h.plan n) e))

    same : (p : Place) → live (others (version b)) (parts_of h.current) p ≡ live (rows (version b)) (parts_of h.current) p
    same p = live-agrees (rows (version b)) (others (version b)) (parts_of h.current) (of_current (version b)) p
