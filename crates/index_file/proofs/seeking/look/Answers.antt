use Rattle.std.proofs.Common.{rules, ◌≡◌, ◌+◌, ◌-◌, ◌∙◌, ap, sym, true, take, drop, get_or, length, List, ℕ, refl}
use Rattle.std.specs.Cmp.Lexicographic.{slice_cmp}
use Rattle.std.specs.Ordering.{eq_by_cmp, nat_cmp}
use Rattle.index_file.proofs.Fronts.{place_front}
use Rattle.index_file.proofs.SeekFacts.{parts_of}
use Rattle.index_file.proofs.seeking.look.Goals as goal

pub returns-in-Some-clause-sees : goal.returns-in-Some-clause-sees
returns-in-Some-clause-sees c e more fits split =
    let bytes = c.args.bytes.now in
    let key = c.args.key.now in
    let len = get_or bytes 0 0 in
    let parts = parts_of bytes e more len refl split in
    let same : eq_by_cmp (slice_cmp nat_cmp) key (take ((1 + len) - 1) (drop 1 bytes)) ≡ true = search rules in
    let front = c.in-Some.ensures in (
      ap (λ (k : List ℕ). eq_by_cmp (slice_cmp nat_cmp) key k) (sym parts.key) ∙ same,
      (place_front c.in-Some.place e.1 (drop c.in-Some.field-0-1 (take (length bytes - (1 + len)) (drop (1 + len) bytes))) more front.0 fits.2 (sym front.1 ∙ parts.place)).0,
    )
