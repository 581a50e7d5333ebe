-- Reading a block.
use Rattle.std.proofs.Common.{◌≡◌, ◌≢◌, ◌⊎◌, ⊎_elim, ℕ, ◌+◌, ◌-◌, ◌^◌, ◌≤◌, ◌<◌, List, [], ◌∷◌, ◌++◌, length, get_or, take, drop, sym, ◌∙◌, ap, subst, refl, arith, append_assoc, length-append, length-drop, take-append-drop}
use Rattle.std.proofs.lemmas.List.{take_at, drop_at, drop_more, drop-drop, length-take-le, get_or-drop, append-nil}
use Rattle.std.proofs.lemmas.Nat.{from_be_bytes-to_be_bytes_8}
use Rattle.std.specs.Int.{w64, to_be_bytes, from_be_bytes}
use Rattle.gated_log.specs.Log.{frame, IsBody, HasNone, IsLog, IsNoLog, IsBlock, IsScanned, EndsAt, blocks}
use Rattle.gated_log.proofs.Bytes.{blocks-push, are_bodies-push, is_log}

pub length-header : (n : ℕ) → length (to_be_bytes w64 n) ≡ 8
length-header n = refl

no_log_closed : (left : List ℕ) → get_or left 0 0 ≡ 165 → 1 ≤ length left → HasNone left → ⊥
no_log_closed [] is some none = absurd (omega (arith, some))
no_log_closed (g ∷ rest) is some none = none is

-- a log that begins with an open gate, by the lengths
pub record Opens (left : List ℕ) : Type 0 where
  pub size : ℕ
  pub long : 1 ≤ size
  pub fits : size < 2 ^ 64
  pub inside : size + 10 ≤ length left
  pub header : take 8 (drop 1 left) ≡ to_be_bytes w64 size

pub opens : (bodies : List (List ℕ)) (left : List ℕ) → get_or left 0 0 ≡ 165 → 1 ≤ length left → IsLog bodies left → Opens left
opens [] left is some log = absurd (no_log_closed left is some log)
opens (body ∷ bodies) left is some log =
    let rest = log.0 in
    let more : 1 ≤ length rest = long rest log.3 in
    record {
      size = length body;
      long = log.2.no_shorter;
      fits = log.2.fits;
      inside = omega (arith, more, ap length log.1, length-append (165 ∷ frame body) rest, length-append (to_be_bytes w64 (length body)) body, length-header (length body));
      header = ap (λ (l : List ℕ). take 8 (drop 1 l)) log.1 ∙ ap (λ (l : List ℕ). take 8 l) (append_assoc (to_be_bytes w64 (length body)) body rest) ∙ take_at (to_be_bytes w64 (length body)) (body ++ rest) 8 (length-header (length body));
    }
  where
    long : (l : List ℕ) → l ≢ [] → 1 ≤ length l
    long [] none = absurd (none refl)
    long (x ∷ l) none = omega arith

-- too short, or a length that doesn't fit
pub too_short : (bodies : List (List ℕ)) (left : List ℕ) → get_or left 0 0 ≡ 165 → 1 ≤ length left → length left < 9 → IsLog bodies left → ⊥
too_short bodies left is some short log = let o = opens bodies left is some log in absurd (omega (arith, o.inside))

pub misfits : (bodies : List (List ℕ)) (left header : List ℕ) (size : ℕ) → get_or left 0 0 ≡ 165 → 1 ≤ length left → header ≡ take 8 (drop 1 left) → to_be_bytes w64 size ≡ header → size < 2 ^ 64
    → (size ≡ 0) ⊎ (length left ≤ size + 9) → IsLog bodies left → ⊥
misfits bodies left header size is some reads counts small wrong log =
    let o = opens bodies left is some log in
    let same : size ≡ o.size = sym (from_be_bytes-to_be_bytes_8 size small) ∙ ap (from_be_bytes w64) (counts ∙ reads ∙ o.header) ∙ from_be_bytes-to_be_bytes_8 o.size o.fits in
    ⊎_elim (λ none. absurd (omega (arith, o.long, same, none))) (λ large. absurd (omega (arith, o.inside, same, large))) wrong

pub is_block : (bytes header : List ℕ) (at size : ℕ) → get_or (drop at bytes) 0 0 ≡ 165 → header ≡ take 8 (drop (at + 1) bytes) → to_be_bytes w64 size ≡ header
    → 1 ≤ size → size < 2 ^ 64 → at + 9 + size < length bytes → IsBlock at (at + 9 + size) bytes
is_block bytes header at size is reads counts long fits inside =
    let body = take size (drop (at + 9) bytes) in
    let counted : length body ≡ size = length-take-le size (drop (at + 9) bytes) (omega (arith, length-drop (at + 9) bytes, inside)) in
    let head : to_be_bytes w64 (length body) ≡ take 8 (drop (at + 1) bytes) = ap (to_be_bytes w64) counted ∙ counts ∙ reads in
    record {
      body = body;
      is_body = record { no_shorter = omega (arith, counted, long); fits = omega (arith, counted, fits) };
      gate_is = omega (arith, counted);
      inside = inside;
      split =
          drop_more bytes at 0 (omega (arith, inside))
          ∙ ap (λ (g : ℕ). g ∷ drop (at + 1) bytes) (first bytes at ∙ is)
          ∙ ap (λ (l : List ℕ). 165 ∷ l) (
          sym (take-append-drop 8 (drop (at + 1) bytes))
          ∙ ap (λ (l : List ℕ). l ++ drop 8 (drop (at + 1) bytes)) (sym head)
          ∙ ap (λ (l : List ℕ). to_be_bytes w64 (length body) ++ l) (drop-drop 8 (at + 1) bytes ∙ ap (λ (n : ℕ). drop n bytes) nine
          ∙ sym (take-append-drop size (drop (at + 9) bytes)) ∙ ap (λ (l : List ℕ). body ++ l) (drop-drop size (at + 9) bytes))
          ∙ sym (append_assoc (to_be_bytes w64 (length body)) body (drop (at + 9 + size) bytes)));
    }
  where
    nine : at + 1 + 8 ≡ at + 9
    nine = omega arith

    first : (bytes : List ℕ) (at : ℕ) → get_or bytes at 0 ≡ get_or (drop at bytes) 0 0
    first bytes at = grind (arith, get_or-drop)

blocks_at-push : (bodies : List (List ℕ)) (body rest : List ℕ) → blocks (bodies ++ body ∷ []) ++ rest ≡ blocks bodies ++ ((165 ∷ frame body) ++ rest)
blocks_at-push bodies body rest = blocks-push bodies body rest

pub scans_none : (bytes : List ℕ) → 1 ≤ length bytes → IsScanned 0 bytes
scans_none bytes some = record { bodies = []; split = refl; size = refl; sizes = tt; inside = some; onward = λ all log. (all, refl, log) }

pub scans_start : (bytes : List ℕ) → 1 ≤ length bytes → (so_far : IsScanned 0 bytes) × (so_far.bodies ≡ [])
scans_start bytes some = (record { bodies = []; split = refl; size = refl; sizes = tt; inside = some; onward = λ all log. (all, refl, log) }, refl)

pub same_block : (b body rest' rest : List ℕ) → (165 ∷ frame b) ++ rest' ≡ (165 ∷ frame body) ++ rest → IsBody b → IsBody body → (b ≡ body) × (rest' ≡ rest)
same_block b body rest' rest is is_b is_body =
    let tails : frame b ++ rest' ≡ frame body ++ rest = ap (λ (l : List ℕ). drop 1 l) is in
    let heads : to_be_bytes w64 (length b) ≡ to_be_bytes w64 (length body) =
    sym (take_at (to_be_bytes w64 (length b)) (b ++ rest') 8 refl) ∙ ap (λ (l : List ℕ). take 8 l) (sym (append_assoc (to_be_bytes w64 (length b)) b rest') ∙ tails ∙ append_assoc (to_be_bytes w64 (length body)) body rest) ∙ take_at (to_be_bytes w64 (length body)) (body ++ rest) 8 refl in
    let sizes : length b ≡ length body = sym (from_be_bytes-to_be_bytes_8 (length b) is_b.fits) ∙ ap (from_be_bytes w64) heads ∙ from_be_bytes-to_be_bytes_8 (length body) is_body.fits in
    let backs : b ++ rest' ≡ body ++ rest =
    sym (drop_at (to_be_bytes w64 (length b)) (b ++ rest') 8 refl) ∙ ap (λ (l : List ℕ). drop 8 l) (sym (append_assoc (to_be_bytes w64 (length b)) b rest') ∙ tails ∙ append_assoc (to_be_bytes w64 (length body)) body rest) ∙ drop_at (to_be_bytes w64 (length body)) (body ++ rest) 8 refl in (
      sym (take_at b rest' (length body) sizes) ∙ ap (λ (l : List ℕ). take (length body) l) backs ∙ take_at body rest (length body) refl,
      sym (drop_at b rest' (length body) sizes) ∙ ap (λ (l : List ℕ). drop (length body) l) backs ∙ drop_at body rest (length body) refl,
    )

-- one body more
pub scans_with : (bytes : List ℕ) (at gate : ℕ) (so_far : IsScanned at bytes) (block : IsBlock at gate bytes) → (now : IsScanned gate bytes) × (now.bodies ≡ so_far.bodies ++ block.body ∷ [])
scans_with bytes at gate so_far block = (
  record {
    bodies = so_far.bodies ++ block.body ∷ [];
    split = so_far.split ∙ ap (λ (l : List ℕ). blocks so_far.bodies ++ l) block.split ∙ sym (blocks_at-push so_far.bodies block.body (drop gate bytes));
    size = omega (arith, so_far.size, block.gate_is, counts);
    sizes = are_bodies-push so_far.bodies block.body so_far.sizes block.is_body;
    inside = block.inside;
    onward = λ all log. let was = so_far.onward all log in go all was.0 was.1 was.2;
  },
  refl,
)
  where
    counts : length (blocks (so_far.bodies ++ block.body ∷ [])) ≡ length (blocks so_far.bodies) + 9 + length block.body
    counts = omega (arith, ap length (blocks_at-push so_far.bodies block.body []), length-append (blocks (so_far.bodies ++ block.body ∷ [])) [], length-append (blocks so_far.bodies) ((165 ∷ frame block.body) ++ []), length-append (165 ∷ frame block.body) [], length-append (to_be_bytes w64 (length block.body)) block.body, length-header (length block.body))

    go : (all rest : List (List ℕ)) → all ≡ so_far.bodies ++ rest → IsLog rest (drop at bytes) → (more : List (List ℕ)) × (all ≡ (so_far.bodies ++ block.body ∷ []) ++ more) × IsLog more (drop gate bytes)
    go all [] is log = absurd (subst HasNone block.split log refl)
    go all (b ∷ rest) is log =
        let same = same_block b block.body log.0 (drop gate bytes) (sym log.1 ∙ block.split) log.2 block.is_body in
        (rest, is ∙ ap (λ (x : List ℕ). so_far.bodies ++ x ∷ rest) same.0 ∙ sym (append_assoc so_far.bodies (block.body ∷ []) rest), subst (IsLog rest) same.1 log.4)

pub scans_more : (bytes : List ℕ) (at gate : ℕ) → IsScanned at bytes → IsBlock at gate bytes → IsScanned gate bytes
scans_more bytes at gate so_far block = (scans_with bytes at gate so_far block).0

-- the body of a block, by its places
pub block_body : (bytes : List ℕ) (at gate : ℕ) (block : IsBlock at gate bytes) → take (gate - at - 9) (drop (at + 9) bytes) ≡ block.body
block_body bytes at gate block =
    let size : gate - at - 9 ≡ length block.body = omega (arith, block.gate_is) in
    let header = to_be_bytes w64 (length block.body) in
    ap (λ (n : ℕ). take n (drop (at + 9) bytes)) size
    ∙ ap (λ (l : List ℕ). take (length block.body) l) (sym (drop-drop 9 at bytes) ∙ ap (λ (l : List ℕ). drop 9 l) block.split
    ∙ ap (λ (l : List ℕ). drop 8 l) (append_assoc header block.body (drop gate bytes)) ∙ drop_at header (block.body ++ drop gate bytes) 8 (length-header (length block.body)))
    ∙ take_at block.body (drop gate bytes) (length block.body) refl

-- a log of all the bytes would go on at the place
pub no_log_onward : (bytes : List ℕ) (at : ℕ) → IsScanned at bytes → IsNoLog (drop at bytes) → IsNoLog bytes
no_log_onward bytes at so_far none bodies log = let on = so_far.onward bodies log in none on.0 on.2

-- a closed gate at the place: the bodies so far are the log's
pub ends_here : (bytes : List ℕ) (at : ℕ) → IsScanned at bytes → HasNone (drop at bytes) → (bodies : List (List ℕ)) → IsLog bodies bytes → EndsAt bodies at bytes
ends_here bytes at so_far none bodies log = go (drop at bytes) refl none (so_far.onward bodies log)
  where
    go : (left : List ℕ) → drop at bytes ≡ left → HasNone left → (rest : List (List ℕ)) × (bodies ≡ so_far.bodies ++ rest) × IsLog rest (drop at bytes) → EndsAt bodies at bytes
    go [] is shut on = absurd (omega (arith, so_far.inside, ap length is, length-drop at bytes))
    go (gate ∷ left) is shut ([], same, log) = subst (λ (bs : List (List ℕ)). EndsAt bs at bytes) (sym (same ∙ append-nil so_far.bodies))
        (record { gate = gate; rest = left; split = so_far.split ∙ ap (λ (l : List ℕ). blocks so_far.bodies ++ l) is; closed = shut; size = so_far.size; sizes = so_far.sizes })
    go (gate ∷ left) is shut (b ∷ rest, same, log) = absurd (subst HasNone (sym is ∙ log.1) shut refl)

pub is_log_here : (bytes : List ℕ) (at : ℕ) (so_far : IsScanned at bytes) → HasNone (drop at bytes) → IsLog so_far.bodies bytes
is_log_here bytes at so_far none = go (drop at bytes) refl none
  where
    go : (left : List ℕ) → drop at bytes ≡ left → HasNone left → IsLog so_far.bodies bytes
    go [] is shut = absurd (omega (arith, so_far.inside, ap length is, length-drop at bytes))
    go (gate ∷ left) is shut = is_log so_far.bodies gate left bytes (so_far.split ∙ ap (λ (l : List ℕ). blocks so_far.bodies ++ l) is) shut so_far.sizes

pub none_in_empty : (bytes : List ℕ) → 0 ≡ length bytes → (bodies : List (List ℕ)) → IsLog bodies bytes → bodies ≡ []
none_in_empty bytes none [] log = refl
none_in_empty bytes none (b ∷ bodies) log = absurd (omega (arith, none, ap length log.1, length-append (165 ∷ frame b) log.0))

pub empty_log : (bytes : List ℕ) → 0 ≡ length bytes → IsLog [] bytes
empty_log [] none = tt
empty_log (x ∷ bytes) none = absurd (omega (arith, none))
