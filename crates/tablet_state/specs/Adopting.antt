-- A deed on a store: files are adopted, and then a record joins its journal.
use Rattle.std.specs.Prelude.{◌≡◌, ◌⊎◌, ℕ, ◌+◌, ⊤, List, [], ◌∷◌, ◌++◌, Option, IfSome, Some}
use Rattle.dev_traits.specs.Image.{Image, Elsewhere, area_of, file}
use Rattle.dev_traits.specs.View.{View, Told}
use Rattle.dev_traits.specs.Reader.{IsNew}
use Rattle.gated_log.specs.Log.{EndsAt, IsLog}
use Rattle.tablet_state.specs.State.{SegmentView}
use Rattle.tablet_state.specs.Readies.{NewSegment}

-- files with these bytes, where they are told, under the numbers from the first on
abbrev pub HasFiles : ℕ → List (Option (List ℕ)) → Image → Type 0
HasFiles first [] image = ⊤
HasFiles first (told ∷ rest) image = IfSome told (λ bytes. file image first ≡ Some bytes) × HasFiles (first + 1) rest image

-- the areas are as they were
abbrev pub SameAreas : View → View → Type 0
SameAreas old new = Told old (λ before. Told new (λ after. after.areas ≡ before.areas))

-- where it tells, the log of an area has its closed gate at this place
abbrev pub TellsLog : ℕ → ℕ → View → Type 0
TellsLog a end view = Told view (λ image. (bodies : List (List ℕ)) × EndsAt bodies end (area_of image a))

-- The log has the bodies from before, or these and the record, and then the files are there. What else there was stays.
pub record Commits (a : ℕ) (bodies : List (List ℕ)) (body : List ℕ) (first : ℕ) (files : List (Option (List ℕ))) (old new : Image) : Type 0 where
  pub elsewhere : Elsewhere a old new
  pub log : IsLog bodies (area_of new a) ⊎ (IsLog (bodies ++ body ∷ []) (area_of new a) × HasFiles first files new)

-- a segment in hand of a new file: its reader is a new one, of the file's bytes
pub record IsAdopted (number : ℕ) (made : NewSegment) (g : SegmentView) : Type 0 where
  pub number_is : g.number ≡ number
  pub bytes : g.reader.bytes ≡ made.0
  pub new : IsNew g.reader
  pub footer : g.footer ≡ made.1

-- so is each of these, with the numbers from the first on
abbrev pub AreAdopted : ℕ → List NewSegment → List SegmentView → Type 0
AreAdopted first [] [] = ⊤
AreAdopted first [] (g ∷ gs) = ⊥
AreAdopted first (made ∷ rest) [] = ⊥
AreAdopted first (made ∷ rest) (g ∷ gs) = IsAdopted first made g × AreAdopted (first + 1) rest gs

-- some of the new files, the first ones, have joined the segments
pub record Joined (first : ℕ) (made : List NewSegment) (old new : List SegmentView) : Type 0 where
  pub done : List NewSegment
  pub left : List NewSegment
  pub split : made ≡ done ++ left
  pub more : List SegmentView
  pub joined : new ≡ old ++ more
  pub adopted : AreAdopted first done more

-- all of them
pub record AllJoined (first : ℕ) (made : List NewSegment) (old new : List SegmentView) : Type 0 where
  pub more : List SegmentView
  pub joined : new ≡ old ++ more
  pub adopted : AreAdopted first made more
