-- Files that are attached, and readers that go back.
use Rattle.std.proofs.Common.{◌≡◌, ◌≢◌, inl, inr, refl, ap, sym, subst, ◌∙◌, ℕ, zero, suc, ◌+◌, ◌≤◌, List, [], ◌∷◌, ◌++◌, length, take, slice_get, Option, Some, None, IsSome, Result, Ok, Err, IfOk, IfErr, arith}
use Rattle.pk_values.specs.Schemas.{Layout}
use Rattle.pk_values.specs.declared.cells.Value.{Value}
use Rattle.column_page.specs.declared.footers.Footer.{Footer}
use Rattle.dev_traits.specs.Causes.{Counts, HasReadCause}
use Rattle.dev_traits.specs.Image.{Image, file}
use Rattle.dev_traits.specs.Reader.{ReaderView}
use Rattle.dev_traits.specs.View.{View, Told}
use Rattle.dev_traits.specs.declared.faults.Part.TheVariants as part
use Rattle.dev_traits.specs.declared.faults.Shown.TheVariants.{Form, Absent}
use Rattle.dev_traits.specs.declared.faults.ReadFault.{ReadFault}
use Rattle.dev_traits.specs.declared.faults.ReadFault.TheVariants as read
use Rattle.dev_traits.proofs.Counting.{counts_then}
use Rattle.rowsets.specs.Live.{Files}
use Rattle.segment_read.specs.Footers.{FooterShown}
use Rattle.segment_read.specs.Reads.{IsDamage, KnowsFooter, OfFile, OnDamage}
use Rattle.segment_read.specs.Rows.{IsFileOf, IsNoFile, IsSegmentOf}
use Rattle.segment_read.specs.declared.segments.Segment.{Segment}
use Rattle.store_files.proofs.BlockFacts.{on_damage}
use Rattle.store_files.specs.Named.{faults_in, AreAttached, AreStored, FileShown, IsAttached, IsDamageOfOne, IsFileDamage, IsNotStored, IsStored}
use Rattle.store_files.specs.declared.attaching.NamedFile.{NamedFile}

some_one : {X : Type 0} (x y : X) → Some x ≡ Some y → x ≡ y
some_one x y e = cc

got : (o : Option (List ℕ)) → IsSome o → (bytes : List ℕ) × (o ≡ Some bytes)
got (Some bytes) h = (bytes, refl)
got None h = cc

pub if_ok_so : {T E : Type 0} (result : Result T E) (P Q : T → Type 0) → ((x : T) → P x → Q x) → IfOk result P → IfOk result Q
if_ok_so (Ok x) P Q f p = f x p
if_ok_so (Err e) P Q f p = tt

pub if_err_so : {T E : Type 0} (result : Result T E) (P Q : E → Type 0) → ((e : E) → P e → Q e) → IfErr result P → IfErr result Q
if_err_so (Ok x) P Q f p = tt
if_err_so (Err e) P Q f p = f e p

-- a call that went well counts no fault
pub well_ok : {T : Type 0} (before now : ℕ) (x : T) → HasReadCause before now (Ok x) → now ≡ before
well_ok before now x cause = cause.well (λ is. no x read.StoreFault is)
  where
    no : {T E : Type 0} (y : T) (e : E) → Ok y ≡ Err e → ⊥
    no y e is = cc

-- ---- readers that go back

pub given_back : {R : Type 0} (view : R → ReaderView) (left next : List (Segment R)) (x : Segment R) (old mid m : ℕ) → left ≡ x ∷ next
    → Counts (view x.reader).faults old mid → Counts (faults_in view next) mid m → Counts (faults_in view left) old m
given_back view left next x old mid m is first second =
    subst (λ xs. Counts (faults_in view xs) old m) (sym is) (counts_then (view x.reader).faults (faults_in view next) old mid m first second)

pub all_given_back : {R : Type 0} (view : R → ReaderView) (left : List (Segment R)) (now : ℕ) → left ≡ [] → Counts (faults_in view left) now now
all_given_back view left now none = subst (λ xs. Counts (faults_in view xs) now now) (sym none) (omega arith)

pub none_failed : {R : Type 0} (view : R → ReaderView) (s : Layout) (store : View) (files : List NamedFile) (segments : List (Segment R)) → AreAttached view s store files segments → faults_in view segments ≡ 0
none_failed view s store [] [] are = refl
none_failed view s store [] (x ∷ xs) are = absurd are
none_failed view s store (f ∷ fs) [] are = absurd are
none_failed view s store (f ∷ fs) (x ∷ xs) are = let one = are.0.unfailed in let more = none_failed view s store fs xs are.1 in omega arith

-- ---- files

-- a file that isn't there is no file of rows
pub absent_damage : (s : Layout) (view : View) (f : NamedFile) → Told view (λ image. file image f.number ≡ None) → IsFileDamage s view f (record { file = f.number; part = part.Footer; shown = Absent })
absent_damage s view f none = record {
  file_is = refl;
  part_is = refl;
  shows = λ image told. subst (λ (o : Option (List ℕ)). FileShown s f.rows o Absent) (sym (none image told)) refl;
}

pub absent_is_none : (s : Layout) (view : View) (f : NamedFile) → Told view (λ image. file image f.number ≡ None) → IsNotStored s view f
absent_is_none s view f none image told rows is = let there = is.there in let not = none image told in cc

-- what is told of a footer is told of the file
pub footer_damage : (s : Layout) (view : View) (reader : ReaderView) (f : NamedFile) (e : ReadFault) → Told view (λ image. reader.bytes ≡ file image f.number)
    → OnDamage e (IsDamage f.number part.Footer (λ shown. OfFile reader (λ bytes. FooterShown s bytes shown))) → Told view (λ image. IsSome (file image f.number))
    → OnDamage e (IsFileDamage s view f)
footer_damage s view reader f e same h there =
    on_damage e (IsDamage f.number part.Footer (λ shown. OfFile reader (λ bytes. FooterShown s bytes shown))) (IsFileDamage s view f) (λ d is. record {
      file_is = is.file_is;
      part_is = is.part_is;
      shows = λ image told. let w = got (file image f.number) (there image told) in
          subst (λ (o : Option (List ℕ)). FileShown s f.rows o d.shown) (sym w.1) (inl (is.shows w.0 (same image told ∙ w.1)));
    }) h

pub footer_is_none : (s : Layout) (view : View) (reader : ReaderView) (f : NamedFile) (e : ReadFault) → Told view (λ image. reader.bytes ≡ file image f.number)
    → OnDamage e (λ damaged. OfFile reader (IsNoFile s)) → OnDamage e (λ damaged. IsNotStored s view f)
footer_is_none s view reader f e same h =
    on_damage e (λ damaged. OfFile reader (IsNoFile s)) (λ damaged. IsNotStored s view f)
    (λ d none image told rows is. none is.bytes (same image told ∙ is.there) rows is.is) h

-- a footer that tells of other rows
pub rows_damage : (s : Layout) (view : View) (reader : ReaderView) (f : NamedFile) (footer : Footer) → Told view (λ image. reader.bytes ≡ file image f.number)
    → KnowsFooter s reader footer → footer.rows ≢ f.rows → Told view (λ image. IsSome (file image f.number))
    → IsFileDamage s view f (record { file = f.number; part = part.Footer; shown = Form })
rows_damage s view reader f footer same known other there = record {
  file_is = refl;
  part_is = refl;
  shows = λ image told. let w = got (file image f.number) (there image told) in
      subst (λ (o : Option (List ℕ)). FileShown s f.rows o Form) (sym w.1) (inr (record { form = refl; footer = footer; has = known w.0 (same image told ∙ w.1); other = other }));
}

pub rows_are_none : (s : Layout) (view : View) (reader : ReaderView) (f : NamedFile) (footer : Footer) → Told view (λ image. reader.bytes ≡ file image f.number)
    → OfFile reader (λ bytes. (rows : List (List Value)) → IsFileOf s bytes rows → IsSegmentOf s footer bytes rows) → footer.rows ≢ f.rows
    → IsNotStored s view f
rows_are_none s view reader f footer same of_segment other image told rows is =
    let segment = of_segment is.bytes (same image told ∙ is.there) rows is.is in
    other (ap (λ (g : Footer). g.rows) segment.footer_is ∙ is.counted)

pub segment_there : (s : Layout) (view : View) (reader : ReaderView) (f : NamedFile) (footer : Footer) → Told view (λ image. reader.bytes ≡ file image f.number)
    → OfFile reader (λ bytes. (rows : List (List Value)) → IsFileOf s bytes rows → IsSegmentOf s footer bytes rows)
    → Told view (λ image. (rows : List (List Value)) → (stored : IsStored s f rows image) → IsSegmentOf s footer stored.bytes rows)
segment_there s view reader f footer same of_segment image told rows is = of_segment is.bytes (same image told ∙ is.there) rows is.is

-- ---- many files

pub attached_still : {R : Type 0} (read : R → ReaderView) (s : Layout) (old new : View) (f : NamedFile) (segment : Segment R) → new.seen ≡ old.seen → IsAttached read s new f segment → IsAttached read s old f segment
attached_still read s old new f segment same is = record {
  number = is.number;
  footer = is.footer;
  counted = is.counted;
  bytes = λ image told. is.bytes image (same ∙ told);
  there = λ image told. is.there image (same ∙ told);
  stands = λ image told. is.stands image (same ∙ told);
  unfailed = is.unfailed;
  reads = is.reads;
}

push : {R : Type 0} (read : R → ReaderView) (s : Layout) (view : View) (files : List NamedFile) (segments : List (Segment R)) (f : NamedFile) (segment : Segment R)
    → AreAttached read s view files segments → IsAttached read s view f segment → AreAttached read s view (files ++ f ∷ []) (segments ++ segment ∷ [])
push read s view [] [] f segment are is = (is, tt)
push read s view [] (x ∷ xs) f segment are is = absurd are
push read s view (g ∷ gs) [] f segment are is = absurd are
push read s view (g ∷ gs) (x ∷ xs) f segment are is = (are.0, push read s view gs xs f segment are.1 is)

-- one file more
pub attached_more : {R : Type 0} (read : R → ReaderView) (s : Layout) (view : View) (files more : List NamedFile) (before after : List (Segment R)) (f : NamedFile)
    → more ≡ files ++ f ∷ [] → AreAttached read s view files before → (segment : Segment R) × (after ≡ before ++ segment ∷ []) × IsAttached read s view f segment → AreAttached read s view more after
attached_more read s view files more before after f longer are w =
    subst (λ fs. AreAttached read s view fs after) (sym longer)
    (subst (λ xs. AreAttached read s view (files ++ f ∷ []) xs) (sym w.1) (push read s view files before f w.0 are w.2))

pub damage_still : (s : Layout) (old new : View) (files : List NamedFile) (i : ℕ) (f : NamedFile) (e : ReadFault) → new.seen ≡ old.seen → slice_get files i ≡ Some f
    → OnDamage e (IsFileDamage s new f) → OnDamage e (IsDamageOfOne s old files)
damage_still s old new files i f e same at h =
    on_damage e (IsFileDamage s new f) (IsDamageOfOne s old files) (λ d is. (i, f, at, record { file_is = is.file_is; part_is = is.part_is; shows = λ image told. is.shows image (same ∙ told) })) h

stored_at : (s : Layout) (stored : Files) (image : Image) (files : List NamedFile) (i : ℕ) (f : NamedFile) → slice_get files i ≡ Some f → AreStored s stored files image → IsStored s f (stored f.number) image
stored_at s stored image [] i f at are = cc
stored_at s stored image (g ∷ gs) zero f at are = subst (λ (x : NamedFile). IsStored s x (stored x.number) image) (some_one g f at) are.0
stored_at s stored image (g ∷ gs) (suc i) f at are = stored_at s stored image gs i f at are.1

pub none_still : (s : Layout) (old new : View) (files : List NamedFile) (i : ℕ) (f : NamedFile) (e : ReadFault) → new.seen ≡ old.seen → slice_get files i ≡ Some f
    → OnDamage e (λ damaged. IsNotStored s new f)
    → OnDamage e (λ damaged. Told old (λ image. (stored : Files) → AreStored s stored files image → ⊥))
none_still s old new files i f e same at h =
    on_damage e (λ damaged. IsNotStored s new f) (λ damaged. Told old (λ image. (stored : Files) → AreStored s stored files image → ⊥))
    (λ d none image told stored are. none image (same ∙ told) (stored f.number) (stored_at s stored image files i f at are)) h

pub damage_told : (s : Layout) (old new : View) (f : NamedFile) (e : ReadFault) → new.seen ≡ old.seen → OnDamage e (IsFileDamage s new f) → OnDamage e (IsFileDamage s old f)
damage_told s old new f e same h =
    on_damage e (IsFileDamage s new f) (IsFileDamage s old f) (λ d is. record { file_is = is.file_is; part_is = is.part_is; shows = λ image told. is.shows image (same ∙ told) }) h

pub none_told : (s : Layout) (old new : View) (f : NamedFile) (e : ReadFault) → new.seen ≡ old.seen → OnDamage e (λ damaged. IsNotStored s new f) → OnDamage e (λ damaged. IsNotStored s old f)
none_told s old new f e same h = on_damage e (λ damaged. IsNotStored s new f) (λ damaged. IsNotStored s old f) (λ d none image told. none image (same ∙ told)) h

pub take_got : {X : Type 0} (xs : List X) (i : ℕ) (x : X) → slice_get xs i ≡ Some x → take (i + 1) xs ≡ take i xs ++ x ∷ []
take_got [] i x is = cc
take_got (y ∷ xs) zero x is = ap (λ z. z ∷ []) (some_one y x is)
take_got (y ∷ xs) (suc i) x is = let e : suc i + 1 ≡ suc (i + 1) = omega arith in ap (λ n. take n (y ∷ xs)) e ∙ ap (λ zs. y ∷ zs) (take_got xs i x is)

pub take_all : {X : Type 0} (n : ℕ) (xs : List X) → length xs ≤ n → take n xs ≡ xs
take_all zero [] le = refl
take_all zero (x ∷ xs) le = absurd (omega arith)
take_all (suc n) [] le = refl
take_all (suc n) (x ∷ xs) le = ap (λ ys. x ∷ ys) (take_all n xs (omega arith))

abbrev fault_in : {C : Type 0} → Result C ReadFault → ReadFault
fault_in (Err e) = e
fault_in (Ok x) = read.Memory

-- readers that never failed are given back after a call that did
pub cause_between : {R T U : Type 0} (view : R → ReaderView) (before after : List (Segment R)) (old loop mid new : ℕ) (e : ReadFault) → loop ≡ old → HasReadCause {T = T} loop mid (Err e)
    → after ≡ before → faults_in view before ≡ 0 → Counts (faults_in view after) mid new → HasReadCause {T = U} old new (Err e)
cause_between {R} {T} {U} view before after old loop mid new e unfailed cause same none counts = record {
  well = λ other. still ∙ cause.well (λ is. other (ap Err (ap fault_in is))) ∙ unfailed;
  failed = λ is. subst (λ n. Counts 1 old n) (sym still) (subst (λ n. Counts 1 n mid) unfailed (cause.failed (ap Err (ap fault_in is))));
}
  where
    zero_faults : faults_in view after ≡ 0
    zero_faults = ap (faults_in view) same ∙ none

    still : new ≡ mid
    still = let z = zero_faults in let h = counts in omega arith
