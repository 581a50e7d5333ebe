-- The records that a reader has left.
use Rattle.std.specs.Prelude.{◌≡◌, ◌≤◌, ℕ, ◌+◌, List, [], ◌∷◌, length, IsSome, Option, Some, unwrap_or, Bool as Truth, true, false}
use Rattle.std.specs.Borrow.{Bor}
use Rattle.csv.specs.Machine.{ends_at_end}
use Rattle.csv.specs.Reading.{Ready, default_config, reader_config, reader_state, reader_trim, records_from, source_of}
use Rattle.csv.specs.declared.reader.Reader.{Reader}
use Rattle.csv.specs.declared.reader.Trim.TheVariants as trim

-- a file has at most so many bytes
abbrev pub most_file_bytes : ℕ
most_file_bytes = 67108864

-- the bytes that a reader has left, if it still reads
abbrev pub source : Reader (Bor (List ℕ)) → Option (List ℕ)
source rdr = source_of (λ s. Some s.now) rdr

abbrev pub bytes_left : Reader (Bor (List ℕ)) → List ℕ
bytes_left rdr = unwrap_or (source rdr) []

-- the records that a reader has left
abbrev pub rows_left : Reader (Bor (List ℕ)) → List (List (List ℕ))
rows_left rdr = records_from default_config (length (bytes_left rdr) + 1) (reader_state rdr) (bytes_left rdr)

-- a reader of plain records stands between two of them, before at most so many bytes
pub record IsReading (rdr : Reader (Bor (List ℕ))) : Type 0 where
  pub ready : Ready rdr
  pub plain : reader_trim rdr ≡ trim.None
  pub config : reader_config rdr ≡ default_config
  pub between : ends_at_end (reader_state rdr) ≡ false
  pub known : IsSome (source rdr)
  pub small : length (bytes_left rdr) ≤ most_file_bytes

-- a read took the first of the records, or there was none
abbrev pub IsNext : Truth → List (List ℕ) → List (List (List ℕ)) → List (List (List ℕ)) → Type 0
IsNext true fields before after = before ≡ fields ∷ after
IsNext false fields before after = before ≡ []
