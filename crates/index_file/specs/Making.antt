-- What a maker of files goes through while an index file is made.
use Rattle.std.specs.Prelude.{◌≡◌, ℕ, List, ◌++◌, is_some, IsTrue, Result}
use Rattle.std.specs.Option.{option_map}
use Rattle.dev_traits.specs.Causes.{HasMakeCause}
use Rattle.dev_traits.specs.Maker.{MakerView}
use Rattle.dev_traits.specs.declared.faults.MakeFault.{MakeFault}

-- a file was begun, and where the maker tells its bytes these stand behind those that it had
pub record Adds (bytes : List ℕ) (old new : MakerView) : Type 0 where
  pub started : IsTrue new.is_started
  pub made : new.made ≡ option_map (λ made. made ++ bytes) old.made

-- the maker tells as before, and a fault has its cause
pub record MakeStep {T : Type 0} (old new : MakerView) (result : Result T MakeFault) : Type 0 where
  pub tells : is_some new.made ≡ is_some old.made
  pub cause : HasMakeCause old.faults new.faults result
