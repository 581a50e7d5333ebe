-- How many bytes numbers take.
use Rattle.std.proofs.Common.{◌≡◌, ℕ, length}
use Rattle.std.specs.Prelude.{ℤ}
use Rattle.byteorder.specs.Numbers.{length-bytes_high_first}
use Rattle.fixed_code.specs.NumberCode.{number_code}
use Rattle.column_page.specs.CellBytes.{u16_bytes}
use Rattle.column_page.specs.Footers.{u32_bytes, u64_bytes, wide_bytes}

pub length-code : (w : ℕ) (z : ℤ) → length (number_code w z) ≡ w
length-code w z = length-bytes_high_first w _

pub length-u16 : (n : ℕ) → length (u16_bytes n) ≡ 2
length-u16 n = length-bytes_high_first 2 n

pub length-u32 : (n : ℕ) → length (u32_bytes n) ≡ 4
unfolding u32_bytes
length-u32 n = length-bytes_high_first 4 n

pub length-u64 : (n : ℕ) → length (u64_bytes n) ≡ 8
unfolding u64_bytes
length-u64 n = length-bytes_high_first 8 n

pub length-wide : (z : ℤ) → length (wide_bytes z) ≡ 16
unfolding wide_bytes
length-wide z = length-code 16 z
