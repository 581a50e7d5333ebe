-- A log: bodies behind open gates, and a closed gate.
use Rattle.std.specs.Prelude.{◌≡◌, ◌≢◌, ◌⊎◌, ℕ, ◌+◌, ◌^◌, ◌<◌, ◌≤◌, List, [], ◌∷◌, ◌++◌, length, drop, IsTrue}
use Rattle.std.specs.Int.{w64, to_be_bytes}
use Rattle.dev_traits.specs.Image.{Image, area_of, Elsewhere}
use Rattle.dev_traits.specs.View.{View, Told, EachImage}

-- behind a gate: the length as a u64, the highest byte first, and the body
abbrev pub frame : List ℕ → List ℕ
frame body = to_be_bytes w64 (length body) ++ body

pub record IsBody (body : List ℕ) : Type 0 where
  pub no_shorter : 1 ≤ length body
  pub fits : length body < 2 ^ 64

abbrev pub AreBodies : List (List ℕ) → Type 0
AreBodies [] = Unit {0}
AreBodies (body ∷ bodies) = IsBody body × AreBodies bodies

-- the bytes are empty, or begin with a closed gate
abbrev pub HasNone : List ℕ → Type 0
HasNone [] = Unit {0}
HasNone (gate ∷ rest) = gate ≢ 165

-- The grammar: the bytes are a log of these bodies.
abbrev pub IsLog : List (List ℕ) → List ℕ → Type 0
IsLog [] bytes = HasNone bytes
IsLog (body ∷ bodies) bytes = (rest : List ℕ) × (bytes ≡ (165 ∷ frame body) ++ rest) × IsBody body × (rest ≢ [])
    × IsLog bodies rest

-- the bytes aren't a log
abbrev pub IsNoLog : List ℕ → Type 0
IsNoLog bytes = (bodies : List (List ℕ)) → IsLog bodies bytes → ⊥

abbrev pub blocks : List (List ℕ) → List ℕ
blocks [] = []
blocks (body ∷ bodies) = (165 ∷ frame body) ++ blocks bodies

-- the bytes are a log of these bodies with its closed gate at this place
pub record EndsAt (bodies : List (List ℕ)) (end : ℕ) (bytes : List ℕ) : Type 0 where
  pub gate : ℕ
  pub rest : List ℕ
  pub split : bytes ≡ blocks bodies ++ gate ∷ rest
  pub closed : gate ≢ 165
  pub size : length (blocks bodies) ≡ end
  pub sizes : AreBodies bodies

-- the area of an honest store holds these bodies up to a closed gate at this place, in every image
pub record IsSettled (a : ℕ) (bodies : List (List ℕ)) (end : ℕ) (view : View) : Type 0 where
  pub honest : IsTrue view.is_honest
  pub each : EachImage view (λ left. EndsAt bodies end (area_of left a))

-- where the store is honest, the area holds some bodies, settled up to a closed gate at this place
abbrev pub IsReady : ℕ → ℕ → View → Type 0
IsReady a end view = IsTrue view.is_honest → (bodies : List (List ℕ)) × IsSettled a bodies end view

-- where it tells, a crash leaves of the area what is read, as after a sync
abbrev pub IsSynced : ℕ → View → Type 0
IsSynced a view = Told view (λ image. EachImage view (λ left. area_of left a ≡ area_of image a))

-- the log of one area has the bodies from before, or one more; the rest of the image is as it was
pub record Appends (a : ℕ) (bodies : List (List ℕ)) (body : List ℕ) (old new : Image) : Type 0 where
  pub elsewhere : Elsewhere a old new
  pub log : IsLog bodies (area_of new a) ⊎ IsLog (bodies ++ body ∷ []) (area_of new a)

-- an open gate and this body, with a gate behind it
pub record BeginsWith (body bytes : List ℕ) : Type 0 where
  pub rest : List ℕ
  pub split : bytes ≡ (165 ∷ frame body) ++ rest
  pub is_body : IsBody body
  pub more : rest ≢ []

-- an open gate at one place, and behind its body a gate at another
pub record IsBlock (at gate : ℕ) (bytes : List ℕ) : Type 0 where
  pub body : List ℕ
  pub is_body : IsBody body
  pub gate_is : gate ≡ at + 9 + length body
  pub inside : gate < length bytes
  pub split : drop at bytes ≡ (165 ∷ frame body) ++ drop gate bytes

-- the blocks up to a place: each log of these bytes begins with their bodies
pub record IsScanned (at : ℕ) (bytes : List ℕ) : Type 0 where
  pub bodies : List (List ℕ)
  pub split : bytes ≡ blocks bodies ++ drop at bytes
  pub size : length (blocks bodies) ≡ at
  pub sizes : AreBodies bodies
  pub inside : at < length bytes
  pub onward : (all : List (List ℕ)) → IsLog all bytes → (rest : List (List ℕ)) × (all ≡ bodies ++ rest)
      × IsLog rest (drop at bytes)

-- the bytes are a log of just these bodies, with its closed gate at this place
pub record HasScanned (bodies : List (List ℕ)) (end : ℕ) (bytes : List ℕ) : Type 0 where
  pub scanned : IsScanned end bytes
  pub bodies_are : scanned.bodies ≡ bodies
  pub closed : HasNone (drop end bytes)
