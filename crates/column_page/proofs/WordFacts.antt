-- The different cells, and their places.
use Rattle.std.proofs.Common.{◌≡◌, ℕ, zero, suc, ◌+◌, ◌*◌, ◌<◌, List, [], ◌∷◌, ◌++◌, length, get_or, refl, sym, ap, ◌∙◌, arith, subst, true, false, cond, inl, inr, take, drop, take-append-drop}
use Rattle.std.proofs.Common.{◌≤◌}
use Rattle.std.proofs.Math.Numerals.{add-one}
use Rattle.std.specs.List.{concat}
use Rattle.std.proofs.lemmas.List.{length-append, length_push}
use Rattle.std.proofs.lemmas.List.Elements.{All-head, All-nil, All-push, All-tail}
use Rattle.std.specs.Prelude.{All, Bool, if◌then◌else◌}
use Rattle.std.specs.Borrow.{Bor}
use Rattle.std.specs.List.{list_any, position_or_len}
use Rattle.std.proofs.lemmas.List.{append-nil, append_assoc, map_push}
use Rattle.indexmap.specs.IndexSet.{insert_key}
use Rattle.column_page.specs.Texts.{lent, Knows}
use Rattle.std.specs.Str.{bytes_eq}
use Rattle.std.proofs.lemmas.Bool.{cases_Bool, false≢true, false_from_ne_true}
use Rattle.std.proofs.lemmas.Slice.Eq.{bytes_eq-Decides}
use Rattle.column_page.specs.CellBytes.{u16_bytes}
use Rattle.column_page.specs.Page.{Cell, dictionary, distinct_after, is_among, place, places, with_word}
use Rattle.column_page.proofs.Joined.{concat_push}
use Rattle.column_page.proofs.Lengths.{length-u16}

same_cell : (c : Cell) → bytes_eq c c ≡ true
same_cell c = (bytes_eq-Decides c c).1 refl

among_more : (q c : Cell) (ws : List Cell) → is_among q ws ≡ true → is_among q (ws ++ c ∷ []) ≡ true
among_more q c [] h = absurd (false≢true h)
among_more q c (w ∷ ws) h = elim (cases_Bool (bytes_eq q w)) [
  | inl e ↦ rw e refl
  | inr n ↦ let h' : is_among q ws ≡ true = rw n at h in rw n (among_more q c ws h')
]

pub among_last : (c : Cell) (ws : List Cell) → is_among c (ws ++ c ∷ []) ≡ true
among_last c [] = rw (same_cell c) refl
among_last c (w ∷ ws) = elim (cases_Bool (bytes_eq c w)) [
  | inl e ↦ rw e refl
  | inr n ↦ rw n (among_last c ws)
]

among_other : (q c : Cell) (ws : List Cell) → bytes_eq q c ≡ false → is_among q (ws ++ c ∷ []) ≡ is_among q ws
among_other q c [] h = rw h refl
among_other q c (w ∷ ws) h = elim (cases_Bool (bytes_eq q w)) [
  | inl e ↦ rw e refl
  | inr n ↦ rw n (among_other q c ws h)
]

place_more : (q c : Cell) (ws : List Cell) → is_among q ws ≡ true → place q (ws ++ c ∷ []) ≡ place q ws
place_more q c [] h = absurd (false≢true h)
place_more q c (w ∷ ws) h = elim (cases_Bool (bytes_eq q w)) [
  | inl e ↦ rw e refl
  | inr n ↦ let h' : is_among q ws ≡ true = rw n at h in rw n (ap (λ (k : ℕ). k + 1) (place_more q c ws h'))
]

place_last : (c : Cell) (ws : List Cell) → is_among c ws ≡ false → place c (ws ++ c ∷ []) ≡ length ws
place_last c [] h = rw (same_cell c) refl
place_last c (w ∷ ws) h = elim (cases_Bool (bytes_eq c w)) [
  | inl e ↦ let h' : true ≡ false = rw e at h in absurd (false≢true (sym h'))
  | inr n ↦ let h' : is_among c ws ≡ false = rw n at h in rw n (let k = place_last c ws h' in omega (arith, k))
]

pub distinct_push : (seen cells : List Cell) (c : Cell) → distinct_after seen (cells ++ c ∷ []) ≡ with_word c (distinct_after seen cells)
distinct_push seen [] c = refl
distinct_push seen (d ∷ cells) c = distinct_push (with_word d seen) cells c

among_with : (q c : Cell) (ws : List Cell) → is_among q ws ≡ true → is_among q (with_word c ws) ≡ true
among_with q c ws h = elim (cases_Bool (is_among c ws)) [
  | inl a ↦ rw a h
  | inr n ↦ rw n (among_more q c ws h)
]

among_kept : (q : Cell) (seen cells : List Cell) → is_among q seen ≡ true → is_among q (distinct_after seen cells) ≡ true
among_kept q seen [] h = h
among_kept q seen (c ∷ cells) h = among_kept q (with_word c seen) cells (among_with q c seen h)

pub among_new : (c : Cell) (ws : List Cell) → is_among c (with_word c ws) ≡ true
among_new c ws = elim (cases_Bool (is_among c ws)) [
  | inl a ↦ rw a a
  | inr n ↦ rw n (among_last c ws)
]

-- each cell is among the different ones
pub each_among : (seen cells : List Cell) (i : ℕ) (d : Cell) → i < length cells → is_among (get_or cells i d) (distinct_after seen cells) ≡ true
each_among seen [] i d lt = absurd (omega arith)
each_among seen (c ∷ cells) zero d lt = among_kept c (with_word c seen) cells (among_new c seen)
each_among seen (c ∷ cells) (suc i) d lt = each_among (with_word c seen) cells i d (omega arith)

-- ---- words and places

pub place-lt : (c : Cell) (ws : List Cell) → is_among c ws ≡ true → place c ws < length ws
place-lt c [] h = absurd (false≢true h)
place-lt c (w ∷ ws) h = elim (cases_Bool (bytes_eq c w)) [
  | inl e ↦ rw e (omega arith)
  | inr n ↦ let h' : is_among c ws ≡ true = rw n at h in rw n (let k = place-lt c ws h' in omega (arith, k))
]

-- at its place stands the word
pub at_place : (c d : Cell) (ws : List Cell) → is_among c ws ≡ true → get_or ws (place c ws) d ≡ c
at_place c d [] h = absurd (false≢true h)
at_place c d (w ∷ ws) h = elim (cases_Bool (bytes_eq c w)) [
  | inl e ↦ rw e (sym ((bytes_eq-Decides c w).0 e))
  | inr n ↦ let h' : is_among c ws ≡ true = rw n at h in rw (n, add-one (place c ws)) (at_place c d ws h')
]

with_word_few : (c : Cell) (ws : List Cell) → length (with_word c ws) ≤ length ws + 1
with_word_few c ws = elim (cases_Bool (is_among c ws)) [
  | inl a ↦ rw a (omega arith)
  | inr n ↦ rw n (let k = length_push ws c in omega (arith, k))
]

distinct_few : (seen cells : List Cell) → length (distinct_after seen cells) ≤ length seen + length cells
distinct_few seen [] = omega arith
distinct_few seen (c ∷ cells) = let a = with_word_few c seen in let b = distinct_few (with_word c seen) cells in omega arith

pub words_few : (cells : List Cell) → length (distinct_after [] cells) ≤ length cells
words_few cells = let k = distinct_few [] cells in omega arith

with_word_all : (P : Cell → Type 0) (c : Cell) (ws : List Cell) → P c → All P ws → All P (with_word c ws)
with_word_all P c ws p all = elim (cases_Bool (is_among c ws)) [
  | inl a ↦ rw a all
  | inr n ↦ rw n (All-push P ws c all p)
]

distinct_all : (P : Cell → Type 0) (seen cells : List Cell) → All P seen → All P cells → All P (distinct_after seen cells)
distinct_all P seen [] s all = s
distinct_all P seen (c ∷ cells) s all = distinct_all P (with_word c seen) cells (with_word_all P c seen (All-head P c cells all) s) (All-tail P c cells all)

-- what holds of each cell holds of each word
pub words_all : (P : Cell → Type 0) (cells : List Cell) → All P cells → All P (distinct_after [] cells)
words_all P cells all = distinct_all P [] cells (All-nil P) all

-- ---- a set of words in their order

module _ (eq : Bor Cell → Bor Cell → Bool) (same : (a b : Bor Cell) → eq a b ≡ bytes_eq a.now b.now) where
  pub any_among : (c : Bor Cell) (ks : List (Bor Cell)) → list_any (eq c) ks ≡ is_among c.now (lent ks)
  any_among c [] = refl
  any_among c (k ∷ ks) = elim (cases_Bool (bytes_eq c.now k.now)) [
    | inl e ↦ rw (same c k, e) refl
    | inr n ↦ rw (same c k, n) (any_among c ks)
  ]

  -- the keys with a cell more are the words with it
  pub keys_with : (c : Bor Cell) (ks : List (Bor Cell)) → lent (insert_key eq ks c) ≡ with_word c.now (lent ks)
  keys_with c ks = elim (cases_Bool (is_among c.now (lent ks))) [
    | inl a ↦ rw (any_among c ks, a) refl
    | inr n ↦ rw (any_among c ks, n) (map_push (λ (k : Bor Cell). k.now) ks c)
  ]

  index_is : (c : Bor Cell) (ks : List (Bor Cell)) → position_or_len (eq c) ks ≡ place c.now (lent ks)
  index_is c [] = refl
  index_is c (k ∷ ks) = elim (cases_Bool (bytes_eq c.now k.now)) [
    | inl e ↦ rw (same c k, e) refl
    | inr n ↦ rw (same c k, n) (let i = index_is c ks in omega (arith, i))
  ]

absent_place : (c : Cell) (ws : List Cell) → is_among c ws ≡ false → place c ws ≡ length ws
absent_place c [] h = refl
absent_place c (w ∷ ws) h = elim (cases_Bool (bytes_eq c w)) [
  | inl e ↦ let h' : true ≡ false = rw e at h in absurd (false≢true (sym h'))
  | inr n ↦ let h' : is_among c ws ≡ false = rw n at h in rw n (let k = absent_place c ws h' in omega (arith, k))
]

-- a cell's place among the words is that behind which it is put, if it is a new one
pub place_with : (c : Cell) (ws : List Cell) → place c (with_word c ws) ≡ place c ws
place_with c ws = elim (cases_Bool (is_among c ws)) [
  | inl a ↦ rw a refl
  | inr n ↦ rw n (place_last c ws n ∙ sym (absent_place c ws n))
]

kept_place : (q c : Cell) (ws : List Cell) → is_among q ws ≡ true → place q (with_word c ws) ≡ place q ws
kept_place q c ws h = elim (cases_Bool (is_among c ws)) [
  | inl a ↦ rw a refl
  | inr n ↦ rw n (place_more q c ws h)
]

-- a word more leaves the places of cells that are among the words
kept_places : (c : Cell) (ws cells : List Cell) → ((i : ℕ) (d : Cell) → i < length cells → is_among (get_or cells i d) ws ≡ true) → places (with_word c ws) cells ≡ places ws cells
kept_places c ws [] among = refl
kept_places c ws (q ∷ cells) among =
    ap (λ (n : ℕ). u16_bytes n ++ places (with_word c ws) cells) (kept_place q c ws (among 0 q (omega arith)))
    ∙ ap (λ (t : List ℕ). u16_bytes (place q ws) ++ t) (kept_places c ws cells (λ i d lt. among (suc i) d (omega arith)))

places_push : (ws cells : List Cell) (c : Cell) → places ws (cells ++ c ∷ []) ≡ places ws cells ++ u16_bytes (place c ws)
places_push ws [] c = append-nil (u16_bytes (place c ws))
places_push ws (q ∷ cells) c = ap (λ (t : List ℕ). u16_bytes (place q ws) ++ t) (places_push ws cells c) ∙ sym (append_assoc (u16_bytes (place q ws)) (places ws cells) (u16_bytes (place c ws)))

-- the places of the cells and of one more
pub places_more : (cells : List Cell) (c : Cell) → let ws = distinct_after [] cells in places (with_word c ws) (cells ++ c ∷ []) ≡ places ws cells ++ u16_bytes (place c ws)
places_more cells c =
    let ws = distinct_after [] cells in
    places_push (with_word c ws) cells c
    ∙ ap (λ (t : List ℕ). t ++ u16_bytes (place c (with_word c ws))) (kept_places c ws cells (each_among [] cells))
    ∙ ap (λ (n : ℕ). places ws cells ++ u16_bytes n) (place_with c ws)

-- ---- how long the dictionary form is

distinct_from : (seen xs ys : List Cell) → distinct_after seen (xs ++ ys) ≡ distinct_after (distinct_after seen xs) ys
distinct_from seen [] ys = refl
distinct_from seen (x ∷ xs) ys = distinct_from (with_word x seen) xs ys

pub concat_with : (c : Cell) (ws : List Cell) → length (concat ws) ≤ length (concat (with_word c ws))
concat_with c ws = elim (cases_Bool (is_among c ws)) [
  | inl a ↦ rw a (omega arith)
  | inr n ↦ rw n (omega (arith, ap length (concat_push ws c), length-append (concat ws) c))
]

concat_grows : (seen cells : List Cell) → length (concat seen) ≤ length (concat (distinct_after seen cells))
concat_grows seen [] = omega arith
concat_grows seen (c ∷ cells) = let a = concat_with c seen in let b = concat_grows (with_word c seen) cells in omega arith

length-places : (words cells : List Cell) → length (places words cells) ≡ 2 * length cells
length-places words [] = refl
length-places words (c ∷ cells) = omega (arith, length-append (u16_bytes (place c words)) (places words cells), length-u16 (place c words), length-places words cells)

length-dictionary : (cells : List Cell) → length (dictionary cells) ≡ 3 + 2 * length cells + length (concat (distinct_after [] cells))
length-dictionary cells =
    let words = distinct_after [] cells in
    let head = 2 ∷ u16_bytes (length words) in
    omega (arith, length-append (head ++ concat words) (places words cells), length-append head (concat words), length-u16 (length words), length-places words cells)

-- the words of the first cells already make the form as long
pub dictionary_long : (cells : List Cell) (i most : ℕ) → most ≤ 3 + 2 * length cells + length (concat (distinct_after [] (take i cells))) → most ≤ length (dictionary cells)
dictionary_long cells i most h =
    let words = distinct_after [] cells in
    let seen = distinct_after [] (take i cells) in
    let whole : distinct_after seen (drop i cells) ≡ words = sym (distinct_from [] (take i cells) (drop i cells)) ∙ ap (distinct_after []) (take-append-drop i cells) in
    let grown = concat_grows seen (drop i cells) in
    omega (arith, length-dictionary cells, ap (λ (ws : List Cell). length (concat ws)) whole)

-- ---- what is known of one cell more

within_more : (c : Cell) (ws : List Cell) (len more : ℕ) → len ≤ length (concat ws) → more ≤ (if is_among c ws then len else len + length c) → more ≤ length (concat (with_word c ws))
within_more c ws len more le h = elim (cases_Bool (is_among c ws)) [
  | inl a ↦ let h' : more ≤ len = rw a at h in rw a (omega arith)
  | inr n ↦ let h' : more ≤ len + length c = rw n at h in rw n (omega (arith, ap length (concat_push ws c), length-append (concat ws) c))
]

pub known_more : (eq : Bor Cell → Bor Cell → Bool) → ((a b : Bor Cell) → eq a b ≡ bytes_eq a.now b.now) → (c : Bor Cell) (keys keys' : List (Bor Cell)) (placed placed' : List ℕ) (len len' at : ℕ)
    → keys' ≡ insert_key eq keys c → at ≡ position_or_len (eq c) keys → placed' ≡ placed ++ u16_bytes at → len' ≤ (if list_any (eq c) keys then len else len + length c.now)
    → (cells : List Cell) → Knows keys placed len cells → Knows keys' placed' len' (cells ++ c.now ∷ [])
known_more eq same c keys keys' placed placed' len len' at ek ep pl le cells k =
    let ws = distinct_after [] cells in
    let next : distinct_after [] (cells ++ c.now ∷ []) ≡ with_word c.now ws = distinct_push [] cells c.now in
    let there : at ≡ place c.now ws = ep ∙ index_is eq same c keys ∙ ap (place c.now) k.words in
    let among : list_any (eq c) keys ≡ is_among c.now ws = any_among eq same c keys ∙ ap (is_among c.now) k.words in
    let more : len' ≤ (if is_among c.now ws then len else len + length c.now) = subst (λ (b : Bool). len' ≤ (if b then len else len + length c.now)) among le in
    record {
      words = ap lent ek ∙ keys_with eq same c keys ∙ ap (with_word c.now) k.words ∙ sym next;
      placed = pl ∙ ap (λ (t : List ℕ). t ++ u16_bytes at) k.placed ∙ ap (λ (n : ℕ). places ws cells ++ u16_bytes n) there ∙ sym (places_more cells c.now) ∙ ap (λ (w : List Cell). places w (cells ++ c.now ∷ [])) (sym next);
      within = subst (λ (w : List Cell). len' ≤ length (concat w)) (sym next) (within_more c.now ws len len' k.within more);
    }
