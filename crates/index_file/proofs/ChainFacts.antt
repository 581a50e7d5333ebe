-- One entry more in front of the chains.
use Rattle.std.proofs.Common.{◌≡◌, ◌≢◌, refl, ap, sym, subst, ◌∙◌, ℕ, ◌+◌, ◌-◌, ◌<◌, ◌≤◌, arith, List, [], ◌∷◌, ◌++◌, append_assoc, length, drop, get_or, Some, None, Bool as Truth, true, false, cond, ◌==◌}
use Rattle.std.specs.List.{AllByRecursion, filter, flat_map, slice_get}
use Rattle.std.proofs.lemmas.List.{drop_all, drop_more, get_or-replicate, get_or-set_other, get_or-set_same, length-drop, length-replicate, length-set}
use Rattle.std.proofs.lemmas.Option.{slice_get-get_or, slice_get_within}
use Rattle.std.proofs.lemmas.Bool.Decides.{nat_tests}
use Rattle.std.proofs.Math.ListN.{replicate, set}
use Rattle.index_file.specs.Buckets.{Pair, bucket_of, entry_bytes, in_bucket, PairFits}
use Rattle.index_file.specs.Chains.{Chained, Leads}

leads_still : (es : List Pair) (next : List ℕ) (k v at : ℕ) (out : List Pair) → k < at → Leads es next at out → Leads es (set next k v) at out
leads_still es next k v at [] later leads = leads
leads_still es next k v at (e ∷ out) later leads =
    let apart : at ≢ k = λ same. omega (arith, same, later) in
    let same : get_or (set next k v) at 0 ≡ get_or next at 0 = get_or-set_other next k at v 0 apart in
    let rest = leads_still es next k v (get_or next at 0) out (omega (arith, later, leads.1)) leads.2 in
    (leads.0, subst (λ n. at < n) (sym same) leads.1, subst (λ n. Leads es (set next k v) n out) (sym same) rest)

-- what a bucket has from a place on, by whether the entry there is of it
abbrev pub Kept : List Pair → ℕ → ℕ → Pair → ℕ → Type 0
Kept es buckets k e b = in_bucket buckets (drop k es) b ≡ cond (bucket_of buckets e.0 == b) (e ∷ in_bucket buckets (drop (k + 1) es) b) (in_bucket buckets (drop (k + 1) es) b)

kept : (es : List Pair) (buckets k : ℕ) (e : Pair) (b : ℕ) → drop k es ≡ e ∷ drop (k + 1) es → Kept es buckets k e b
kept es buckets k e b there = ap (λ (xs : List Pair). in_bucket buckets xs b) there

record Bucket (es : List Pair) (buckets k b : ℕ) (first counts next : List ℕ) : Type 0 where
  later : k ≤ get_or first b 0
  leads : Leads es next (get_or first b 0) (in_bucket buckets (drop k es) b)
  counted : get_or counts b 0 ≡ length (in_bucket buckets (drop k es) b)

one : (es : List Pair) (buckets k : ℕ) (e : Pair) (first counts next : List ℕ) → Chained es buckets (k + 1) first counts next → slice_get es k ≡ Some e → k < length es → drop k es ≡ e ∷ drop (k + 1) es → bucket_of buckets e.0 < buckets
    → (b : ℕ) → b < buckets → Bucket es buckets k b (set first (bucket_of buckets e.0) k) (set counts (bucket_of buckets e.0) (get_or counts (bucket_of buckets e.0) 0 + 1)) (set next k (get_or first (bucket_of buckets e.0) 0))
one es buckets k e first counts next c at within there has b less = go (bucket_of buckets e.0 == b) refl
  where
    own : ℕ
    own = bucket_of buckets e.0

    go : (t : Truth) → (own == b) ≡ t → Bucket es buckets k b (set first own k) (set counts own (get_or counts own 0 + 1)) (set next k (get_or first own 0))
    go true is =
        let same : own ≡ b = grind (arith, nat_tests, is) in
        let begins : get_or (set first own k) b 0 ≡ k = ap (λ (n : ℕ). get_or (set first own k) n 0) (sym same) ∙ get_or-set_same first own k 0 (omega (arith, has, c.firsts)) in
        let is_now : in_bucket buckets (drop k es) b ≡ e ∷ in_bucket buckets (drop (k + 1) es) b = kept es buckets k e b there ∙ ap (λ (t : Truth). cond t (e ∷ in_bucket buckets (drop (k + 1) es) b) (in_bucket buckets (drop (k + 1) es) b)) is in
        let follows : get_or (set next k (get_or first own 0)) k 0 ≡ get_or first own 0 = get_or-set_same next k (get_or first own 0) 0 (omega (arith, within, c.nexts)) in
        let behind : k + 1 ≤ get_or first own 0 = c.later own has in
        let rest : Leads es (set next k (get_or first own 0)) (get_or first own 0) (in_bucket buckets (drop (k + 1) es) own) = leads_still es next k (get_or first own 0) (get_or first own 0) _ (omega (arith, behind)) (c.leads own has) in
        let rest_there : Leads es (set next k (get_or first own 0)) (get_or (set next k (get_or first own 0)) k 0) (in_bucket buckets (drop (k + 1) es) b) =
        subst (λ n. Leads es (set next k (get_or first own 0)) n (in_bucket buckets (drop (k + 1) es) b)) (sym follows) (subst (λ n. Leads es (set next k (get_or first own 0)) (get_or first own 0) (in_bucket buckets (drop (k + 1) es) n)) same rest) in
        let up : k < get_or (set next k (get_or first own 0)) k 0 = subst (λ n. k < n) (sym follows) (omega (arith, behind)) in
        record {
          later = omega (arith, begins);
          leads = subst (λ n. Leads es (set next k (get_or first own 0)) n (in_bucket buckets (drop k es) b)) (sym begins)
              (subst (λ out. Leads es (set next k (get_or first own 0)) k out) (sym is_now) (at, up, rest_there));
          counted =
              ap (λ (n : ℕ). get_or (set counts own (get_or counts own 0 + 1)) n 0) (sym same) ∙ get_or-set_same counts own (get_or counts own 0 + 1) 0 (omega (arith, has, c.numbers))
              ∙ ap (λ (n : ℕ). n + 1) (c.counted own has ∙ ap (λ (n : ℕ). length (in_bucket buckets (drop (k + 1) es) n)) same)
              ∙ omega (arith, ap length is_now);
        }
    go false other =
        let apart : b ≢ own = λ same. grind (arith, nat_tests, other, same) in
        let begins : get_or (set first own k) b 0 ≡ get_or first b 0 = get_or-set_other first own b k 0 apart in
        let is_now : in_bucket buckets (drop k es) b ≡ in_bucket buckets (drop (k + 1) es) b = kept es buckets k e b there ∙ ap (λ (t : Truth). cond t (e ∷ in_bucket buckets (drop (k + 1) es) b) (in_bucket buckets (drop (k + 1) es) b)) other in
        let behind : k + 1 ≤ get_or first b 0 = c.later b less in
        record {
          later = omega (arith, begins, behind);
          leads = subst (λ n. Leads es (set next k (get_or first own 0)) n (in_bucket buckets (drop k es) b)) (sym begins)
              (subst (λ out. Leads es (set next k (get_or first own 0)) (get_or first b 0) out) (sym is_now) (leads_still es next k (get_or first own 0) (get_or first b 0) _ (omega (arith, behind)) (c.leads b less)));
          counted = get_or-set_other counts own b (get_or counts own 0 + 1) 0 apart ∙ c.counted b less ∙ ap length (sym is_now);
        }

pub chained_on : (es : List Pair) (buckets k : ℕ) (e : Pair) (first counts next : List ℕ) → Chained es buckets (k + 1) first counts next → slice_get es k ≡ Some e → k < length es → drop k es ≡ e ∷ drop (k + 1) es → bucket_of buckets e.0 < buckets
    → Chained es buckets k (set first (bucket_of buckets e.0) k) (set counts (bucket_of buckets e.0) (get_or counts (bucket_of buckets e.0) 0 + 1)) (set next k (get_or first (bucket_of buckets e.0) 0))
chained_on es buckets k e first counts next c at within there has = record {
  firsts = length-set first (bucket_of buckets e.0) k ∙ c.firsts;
  numbers = length-set counts (bucket_of buckets e.0) (get_or counts (bucket_of buckets e.0) 0 + 1) ∙ c.numbers;
  nexts = length-set next k (get_or first (bucket_of buckets e.0) 0) ∙ c.nexts;
  later = λ b less. (one es buckets k e first counts next c at within there has b less).later;
  leads = λ b less. (one es buckets k e first counts next c at within there has b less).leads;
  counted = λ b less. (one es buckets k e first counts next c at within there has b less).counted;
}

-- so many buckets whose chains are all at the end
pub none_chained : (es : List Pair) (buckets n : ℕ) (first counts next : List ℕ) → n ≡ length es → first ≡ replicate buckets n → counts ≡ replicate buckets 0 → length next ≡ length es → Chained es buckets (n - 0) first counts next
none_chained es buckets n first counts next end f c nexts = subst (λ (k : ℕ). Chained es buckets k first counts next) (less_none n) (record {
  firsts = ap length f ∙ length-replicate buckets n;
  numbers = ap length c ∙ length-replicate buckets 0;
  nexts = nexts;
  later = λ b less. let is = begins b less in omega (arith, is);
  leads = λ b less. subst (λ out. Leads es next (get_or first b 0) (in_bucket buckets out b)) (sym none) (begins b less ∙ end);
  counted = λ b less. ap (λ (xs : List ℕ). get_or xs b 0) c ∙ get_or-replicate buckets b 0 0 less ∙ ap (λ (out : List Pair). length (in_bucket buckets out b)) (sym none);
})
  where
    less_none : (k : ℕ) → k ≡ k - 0
    less_none k = omega arith

    none : drop n es ≡ []
    none = ap (λ (k : ℕ). drop k es) end ∙ drop_all (length es) es (omega arith)

    begins : (b : ℕ) → b < buckets → get_or first b 0 ≡ n
    begins b less = ap (λ (xs : List ℕ). get_or xs b 0) f ∙ get_or-replicate buckets b n 0 less

-- ---- along a chain

pub record Led (es : List Pair) (next : List ℕ) (at n : ℕ) (bucket : List Pair) : Type 0 where
  pub entry : Pair
  pub is : slice_get es at ≡ Some entry
  pub within : at < length es
  pub split : drop n bucket ≡ entry ∷ drop (n + 1) bucket
  pub rest : Leads es next (get_or next at 0) (drop (n + 1) bucket)

pub led : (es : List Pair) (next : List ℕ) (at n : ℕ) (bucket : List Pair) → n < length bucket → Leads es next at (drop n bucket) → Led es next at n bucket
led es next at n bucket less leads =
    let e = get_or bucket n ([], None) in
    let split : drop n bucket ≡ e ∷ drop (n + 1) bucket = drop_more bucket n ([], None) less in
    let there : Leads es next at (e ∷ drop (n + 1) bucket) = subst (λ out. Leads es next at out) split leads in
    record { entry = e; is = there.0; within = slice_get_within es at e there.0; split = split; rest = there.2 }

few : (p : Pair → Truth) (es : List Pair) → length (filter p es) ≤ length es
few p [] = omega arith
few p (e ∷ es) = go (p e) (few p es)
  where
    go : (t : Truth) → length (filter p es) ≤ length es → length (cond t (e ∷ filter p es) (filter p es)) ≤ length (e ∷ es)
    go true less = omega arith
    go false less = omega arith

pub few_in : (es : List Pair) (buckets k b : ℕ) → length (in_bucket buckets (drop k es) b) ≤ length es
few_in es buckets k b = omega (arith, few (λ e. bucket_of buckets e.0 == b) (drop k es), length-drop k es)

-- one step of the pass over the entries, from the last to the first
pub chained_step : (es : List Pair) (buckets n b value old : ℕ) (e : Pair) (first counts next : List ℕ) → Chained es buckets (length es - n) first counts next → n < length es
    → e ≡ get_or es (length es - 1 - n) e → b ≡ bucket_of buckets e.0 → b < buckets → value ≡ get_or counts b 0 → old ≡ get_or first b 0
    → Chained es buckets (length es - (n + 1)) (set first b (length es - 1 - n)) (set counts b (value + 1)) (set next (length es - 1 - n) old)
chained_step es buckets n b value old e first counts next c less at is has value_is old_is =
    let k = length es - 1 - n in
    let within : k < length es = omega arith in
    let before : length es - n ≡ k + 1 = omega arith in
    let after : k ≡ length es - (n + 1) = omega arith in
    let there : slice_get es k ≡ Some e = slice_get-get_or es k e within ∙ ap (λ (x : Pair). Some x) (sym at) in
    let split : drop k es ≡ e ∷ drop (k + 1) es = drop_more es k e within ∙ ap (λ (x : Pair). x ∷ drop (k + 1) es) (sym at) in
    let on = chained_on es buckets k e first counts next (subst (λ (m : ℕ). Chained es buckets m first counts next) before c) there within split (subst (λ (x : ℕ). x < buckets) is has) in
    let of_b : Chained es buckets k (set first b k) (set counts b (get_or counts b 0 + 1)) (set next k (get_or first b 0)) =
    subst (λ (x : ℕ). Chained es buckets k (set first x k) (set counts x (get_or counts x 0 + 1)) (set next k (get_or first x 0))) (sym is) on in
    subst (λ (m : ℕ). Chained es buckets m (set first b k) (set counts b (value + 1)) (set next k old)) after
    (subst (λ (v : ℕ). Chained es buckets k (set first b k) (set counts b (v + 1)) (set next k old)) (sym value_is)
    (subst (λ (v : ℕ). Chained es buckets k (set first b k) (set counts b (get_or counts b 0 + 1)) (set next k v)) (sym old_is) of_b))

pub same_entry : (es : List Pair) (at : ℕ) (e x : Pair) → slice_get es at ≡ Some e → at < length es → x ≡ get_or es at x → x ≡ e
same_entry es at e x there within is = is ∙ same (get_or es at x) (sym (slice_get-get_or es at x within) ∙ there)
  where
    same : (y : Pair) → Some y ≡ Some e → y ≡ e
    same y h = cc

-- one more entry was written
pub written_on : (out new whole : List ℕ) (n : ℕ) (bucket : List Pair) (e x : Pair) → new ≡ out ++ entry_bytes x → x ≡ e → drop n bucket ≡ e ∷ drop (n + 1) bucket → out ++ flat_map entry_bytes (drop n bucket) ≡ whole → new ++ flat_map entry_bytes (drop (n + 1) bucket) ≡ whole
written_on out new whole n bucket e x is same split so_far =
    ap (λ (xs : List ℕ). xs ++ flat_map entry_bytes (drop (n + 1) bucket)) (is ∙ ap (λ (y : Pair). out ++ entry_bytes y) same)
    ∙ append_assoc out (entry_bytes e) (flat_map entry_bytes (drop (n + 1) bucket))
    ∙ ap (λ (xs : List Pair). out ++ flat_map entry_bytes xs) (sym split)
    ∙ so_far

-- ---- each entry fits its form

pub none_fit : (es : List Pair) (n : ℕ) → n ≡ length es → AllByRecursion PairFits (drop (n - 0) es)
none_fit es n end = subst (λ (xs : List Pair). AllByRecursion PairFits xs) (sym (drop_all (n - 0) es (omega (arith, end)))) tt

pub fit_step : (es : List Pair) (n : ℕ) (e : Pair) → n < length es → e ≡ get_or es (length es - 1 - n) e → PairFits e → AllByRecursion PairFits (drop (length es - n) es)
    → AllByRecursion PairFits (drop (length es - (n + 1)) es)
fit_step es n e less at fits all =
    let k = length es - 1 - n in
    let within : k < length es = omega arith in
    let before : length es - n ≡ k + 1 = omega arith in
    let after : k ≡ length es - (n + 1) = omega arith in
    let split : drop k es ≡ e ∷ drop (k + 1) es = drop_more es k e within ∙ ap (λ (x : Pair). x ∷ drop (k + 1) es) (sym at) in
    subst (λ (m : ℕ). AllByRecursion PairFits (drop m es)) after
    (subst (λ (xs : List Pair). AllByRecursion PairFits xs) (sym split) (fits, subst (λ (m : ℕ). AllByRecursion PairFits (drop m es)) before all))

pub all_fit : (es : List Pair) (n : ℕ) → n ≡ 0 → AllByRecursion PairFits (drop n es) → AllByRecursion PairFits es
all_fit es n none all = subst (λ (m : ℕ). AllByRecursion PairFits (drop m es)) none all
