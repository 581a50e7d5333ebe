-- A publication's record fits the standing that it is made for, and what it means.
use Rattle.std.proofs.Common.{◌≡◌, refl, ap, sym, subst, ◌∙◌, ℕ, ◌+◌, ◌-◌, ◌≤◌, ◌<◌, max, arith, List, [], ◌∷◌, length, Bool, true, false, ◌&&◌, not, nat_lt, nat_le, ◌==◌, if◌then◌else◌, None, is_some}
use Rattle.std.specs.Option.{option_map}
use Rattle.std.proofs.lemmas.Bool.{and_parts, and_from, lt-ltb, le-leb, eqb-true}
use Rattle.journal_form.specs.declared.records.NewFile.{NewFile}
use Rattle.journal_form.specs.declared.records.Record.TheVariants.{Publish}
use Rattle.journal_form.specs.Versions.{Versions, above, all_below, bound, consecutive, current_number, files_fit, numbers_of}
use Rattle.journal_form.specs.Meaning.{Standing, most_file, step_at}
use Rattle.journal_form.proofs.Applied.{changed_closes, publish_closes}
use Rattle.kept_versions.specs.Changes.{NumbersAdvance, PublicationSteps, standing_after}

-- ---- new files

numbered_below : (n most : ℕ) (files : List NewFile) → consecutive n files ≡ true → n + length files ≤ most → all_below most (numbers_of files) ≡ true
numbered_below n most [] h le = refl
numbered_below n most (f ∷ files) h le =
    let p = and_parts (f.file == n) (consecutive (n + 1) files) h in
    let same = eqb-true f.file n p.0 in
    and_from (nat_lt f.file most) (all_below most (numbers_of files)) (lt-ltb f.file most (omega arith)) (numbered_below (n + 1) most files p.1 (omega arith))

numbered_fit : (next first most : ℕ) (files : List NewFile) → consecutive first files ≡ true → next ≤ first → first + length files ≤ most → files_fit next most files ≡ true
numbered_fit next first most [] h le below = refl
numbered_fit next first most (f ∷ files) h le below =
    let same = eqb-true f.file first (and_parts (f.file == first) (consecutive (first + 1) files) h).0 in
    let numbered = subst (λ (n : ℕ). consecutive n (f ∷ files) ≡ true) (sym same) h in
    let all = numbered_below first most (f ∷ files) h below in
    and_from (nat_le next f.file) (consecutive f.file (f ∷ files) && all_below most (numbers_of (f ∷ files))) (le-leb next f.file (omega arith))
    (and_from (consecutive f.file (f ∷ files)) (all_below most (numbers_of (f ∷ files))) numbered all)

pub numbers_advance : NumbersAdvance
numbers_advance next [] h = omega arith
numbers_advance next (f ∷ files) h =
    let p = and_parts (f.file == next) (consecutive (next + 1) files) h in
    let same = eqb-true f.file next p.0 in
    let first : max next (f.file + 1) ≡ next + 1 = omega arith in
    let more = numbers_advance (next + 1) files p.1 in
    ap (λ (n : ℕ). above n (numbers_of files)) first ∙ more ∙ omega arith

-- ---- the record

when : {X : Type 0} (b : Bool) (o p : X) → b ≡ true → (if b then o else p) ≡ o
when true o p h = refl
when false o p h = cc

least_most : (b : Bool) → bound - 1 ≤ (if b then bound - 1 else bound)
least_most true = omega arith
least_most false = omega arith

pub publication_steps : PublicationSteps
publication_steps s first files rows due fits =
    let version = current_number s.versions + 1 in
    let told = Publish version files rows in
    let most = most_file s in
    let room = least_most ((s.form == 1) && not (is_some s.levels)) in
    let below : first + length files < bound = due.below in
    let within : first + length files ≤ most = omega arith in
    let new_files = numbered_fit s.versions.next_file first most files due.numbered due.free within in
    let closes = publish_closes most s.versions version files rows (record {
      number = refl;
      small = lt-ltb version bound due.version;
      few = due.few;
      new_files = new_files;
      changes = fits;
    }) in
    let after : Versions → Standing = λ vs. record (standing_after s files rows) { versions = vs } in
    when (nat_lt (s.edit + 1) bound) (step_at (s.edit + 1) s told) None (lt-ltb (s.edit + 1) bound due.edit)
    ∙ ap (option_map after) (changed_closes most (s.edit + 1) told s.versions closes)
