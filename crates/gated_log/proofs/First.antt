-- The first body of a log.
use Rattle.std.proofs.Common.{◌≡◌, ◌-◌, ◌+◌, ℕ, List, [], ◌∷◌, ◌++◌, length, take, drop, arith, refl, sym, ◌∙◌, ap, subst, length-drop}
use Rattle.std.proofs.lemmas.List.{append-nil}
use Rattle.gated_log.specs.Log.{frame, IsBody, IsLog, HasNone, IsBlock, HasScanned, EndsAt, BeginsWith}
use Rattle.gated_log.proofs.Blocks.{block_body, same_block, is_log_here, ends_here}

start : (bytes : List ℕ) → drop 0 bytes ≡ bytes
start [] = refl
start (x ∷ bytes) = refl

-- nothing, or a closed gate

pub none_here : (bytes : List ℕ) → HasNone (drop 0 bytes) → HasNone bytes
none_here bytes none = subst HasNone (start bytes) none

pub empty_none : (bytes : List ℕ) → 0 ≡ length bytes → HasNone bytes
empty_none [] none = tt
empty_none (x ∷ bytes) none = absurd (omega (arith, none))

pub none_first : (bytes : List ℕ) → HasNone bytes → (bodies : List (List ℕ)) → IsLog bodies bytes → bodies ≡ []
none_first bytes none [] log = refl
none_first bytes none (b ∷ bodies) log = absurd (subst HasNone log.1 none refl)

-- a block

pub begins_with : (bytes : List ℕ) (gate : ℕ) (found : List ℕ) → IsBlock 0 gate bytes → found ≡ take (gate - 0 - 9) (drop (0 + 9) bytes) → BeginsWith found bytes
begins_with bytes gate found block is =
    let body : block.body ≡ found = sym (block_body bytes 0 gate block) ∙ sym is in
    record {
      rest = drop gate bytes;
      split = sym (start bytes) ∙ block.split ∙ ap (λ (b : List ℕ). (165 ∷ frame b) ++ drop gate bytes) body;
      is_body = subst IsBody body block.is_body;
      more = λ none. omega (arith, ap length none, length-drop gate bytes, block.inside);
    }

pub first_is : (bytes : List ℕ) (found : List ℕ) → BeginsWith found bytes → (bodies : List (List ℕ)) → IsLog bodies bytes → (rest : List (List ℕ)) × (bodies ≡ found ∷ rest)
first_is bytes found begins [] log = absurd (subst HasNone begins.split log refl)
first_is bytes found begins (b ∷ bodies) log =
    let same = same_block b found log.0 begins.rest (sym log.1 ∙ begins.split) log.2 begins.is_body in
    (bodies, ap (λ (x : List ℕ). x ∷ bodies) same.0)

-- a log that was scanned

pub scanned_log : (bodies : List (List ℕ)) (end : ℕ) (bytes : List ℕ) → HasScanned bodies end bytes → IsLog bodies bytes
scanned_log bodies end bytes found = subst (λ (bs : List (List ℕ)). IsLog bs bytes) found.bodies_are (is_log_here bytes end found.scanned found.closed)

pub scanned_ends : (bodies : List (List ℕ)) (end : ℕ) (bytes : List ℕ) → HasScanned bodies end bytes → EndsAt bodies end bytes
scanned_ends bodies end bytes found = ends_here bytes end found.scanned found.closed bodies (scanned_log bodies end bytes found)

-- two readings of a log have the same bodies and the same closed gate
pub scanned_same : (bodies others : List (List ℕ)) (end : ℕ) (bytes : List ℕ) → HasScanned bodies end bytes → IsLog others bytes → EndsAt others end bytes
scanned_same bodies others end bytes found log = ends_here bytes end found.scanned found.closed others log

pub same_bodies : (bodies others : List (List ℕ)) (end : ℕ) (bytes : List ℕ) → HasScanned bodies end bytes → IsLog others bytes → bodies ≡ others
same_bodies bodies others end bytes found log =
    let on = found.scanned.onward others log in
    let none : on.0 ≡ [] = none_first (drop end bytes) found.closed on.0 on.2 in
    sym found.bodies_are ∙ sym (on.1 ∙ ap (λ (rest : List (List ℕ)). found.scanned.bodies ++ rest) none ∙ append-nil found.scanned.bodies)
