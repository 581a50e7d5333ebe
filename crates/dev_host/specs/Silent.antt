-- What contracts see of an outside that tells nothing of its bytes: its counts alone.
use Rattle.std.specs.Prelude.{◌≡◌, ℕ, ◌^◌, Bool, List, false, None, Some, length, Option}
use Rattle.dev_traits.specs.View.{View}
use Rattle.dev_traits.specs.Maker.{MakerView}
use Rattle.dev_traits.specs.Reader.{ReaderView}

abbrev pub silent_view : ℕ → View
silent_view faults = record {
  seen = None;
  is_honest = false;
  faults = faults;
  spare_calls = 2 ^ 64;
  spare_bytes = 2 ^ 64;
  moment = 0;
  may_leave = λ _. ⊥;
  might_since = λ _ _. ⊥;
}

abbrev pub silent_maker : Bool → ℕ → MakerView
silent_maker is_started faults = record { made = None; is_started = is_started; faults = faults }

abbrev pub silent_reader : ℕ → ℕ → ℕ → ReaderView
silent_reader size faults reads = record { bytes = None; size = size; faults = faults; reads = reads }
