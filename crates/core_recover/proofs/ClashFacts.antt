-- Records never tell one file with two numbers of rows: new files have numbers above all before.
use Rattle.std.proofs.Common.{◌≡◌, refl, ap, sym, subst, ◌∙◌, ℕ, ◌+◌, ◌<◌, ◌≤◌, List, [], ◌∷◌, length, Option, Some, None, Bool, true, false, ◌&&◌, ◌==◌, nat_le, nat_lt, if◌then◌else◌, cond, arith}
use Rattle.std.specs.List.{AllByRecursion}
use Rattle.std.proofs.lemmas.Bool.{and_parts, eq-eqb, eqb-true, le-leb, leb-true, ne_eqb}
use Rattle.pk_values.specs.Schemas.{Layout}
use Rattle.journal_form.specs.declared.records.NewFile.{NewFile}
use Rattle.journal_form.specs.declared.records.Record.{Record}
use Rattle.journal_form.specs.declared.records.Record.TheVariants.{Create, Publish, Compact, Floor, Levels, Checkpoint}
use Rattle.journal_form.specs.Versions.{Versions, all_below, bound, consecutive, current_number, files_fit, numbers_of}
use Rattle.journal_form.specs.Meaning.{Standing, created, goes_on, is_form, most_file, no_versions, step, step_at}
use Rattle.journal_form.specs.Standings.{begun, records_mean}
use Rattle.journal_form.proofs.Parts.{then_some}
use Rattle.journal_form.proofs.StepFacts.{gives_compact, gives_publish, steps}
use Rattle.tablet_state.specs.Holding.{IsTold, brings}
use Rattle.tablet_state.specs.Stands.{all_versions, files_in}
use Rattle.tablet_state.proofs.FileFacts.{files_grow}
use Rattle.tablet_state.proofs.HoldFacts.{told_more}
use Rattle.tablet_state.proofs.StandFacts.{named_files_below}
use Rattle.core_recover.specs.Naming.{Clash}
use Rattle.core_recover.specs.Reading.{named}
use Rattle.core_recover.specs.Replaying.{IsReplayed}
use Rattle.core_recover.specs.declared.replaying.Replayed.{Replayed}
use Rattle.core_recover.proofs.AttachFacts.{all_one}
use Rattle.core_recover.proofs.ReadingFacts.{named_is, told_of_records}
use Rattle.core_recover.proofs.ReplayFacts.{goes_on-none}

-- how many rows a file of each number has, as the versions name it
abbrev pub IsLooked : (ℕ → ℕ) → List NewFile → Type 0
IsLooked look files = AllByRecursion (λ (f : NewFile). look f.file ≡ f.rows) files

abbrev pub Agrees : Standing → Type 0
Agrees m = (look : ℕ → ℕ) × IsLooked look (files_in (all_versions m.versions))

-- ---- new files

abbrev rows_in : List NewFile → ℕ → ℕ
rows_in [] n = 0
rows_in (f ∷ fs) n = if f.file == n then f.rows else rows_in fs n

at_least : (k l : ℕ) (fs : List NewFile) → k ≤ l → consecutive l fs ≡ true → AllByRecursion (λ (f : NewFile). k ≤ f.file) fs
at_least k l [] le h = tt
at_least k l (f ∷ fs) le h =
    let p = and_parts (f.file == l) (consecutive (l + 1) fs) h in
    let e = eqb-true f.file l p.0 in
    (omega arith, at_least k (l + 1) fs (omega arith) p.1)

rows_found : (k : ℕ) (fs : List NewFile) → consecutive k fs ≡ true → AllByRecursion (λ (f : NewFile). rows_in fs f.file ≡ f.rows) fs
rows_found k [] h = tt
rows_found k (f ∷ fs) h =
    let p = and_parts (f.file == k) (consecutive (k + 1) fs) h in (
      ap (λ (b : Bool). if b then f.rows else rows_in fs f.file) (eq-eqb f.file f.file refl),
      later fs (eqb-true f.file k p.0) (at_least (k + 1) (k + 1) fs (omega arith) p.1) (rows_found (k + 1) fs p.1),
    )
  where
    later : (gs : List NewFile) → f.file ≡ k → AllByRecursion (λ (g : NewFile). k + 1 ≤ g.file) gs → AllByRecursion (λ (g : NewFile). rows_in fs g.file ≡ g.rows) gs → AllByRecursion (λ (g : NewFile). rows_in (f ∷ fs) g.file ≡ g.rows) gs
    later [] e a b = tt
    later (g ∷ gs) e a b =
        let le : k + 1 ≤ g.file = a.0 in
        (ap (λ (t : Bool). if t then f.rows else rows_in fs g.file) (ne_eqb f.file g.file (λ s. absurd (omega arith))) ∙ b.0, later gs e a.1 b.1)

abbrev looked_from : ℕ → List NewFile → (ℕ → ℕ) → ℕ → ℕ
looked_from next files look n = cond (nat_le next n) (rows_in files n) (look n)

fresh_looked : (next k : ℕ) (files : List NewFile) (look : ℕ → ℕ) → next ≤ k → consecutive k files ≡ true → IsLooked (looked_from next files look) files
fresh_looked next k files look le h = each files (at_least k k files (omega arith) h) (rows_found k files h)
  where
    each : (gs : List NewFile) → AllByRecursion (λ (g : NewFile). k ≤ g.file) gs → AllByRecursion (λ (g : NewFile). rows_in files g.file ≡ g.rows) gs → IsLooked (looked_from next files look) gs
    each [] a b = tt
    each (g ∷ gs) a b =
        let from : k ≤ g.file = a.0 in
        (ap (λ (t : Bool). cond t (rows_in files g.file) (look g.file)) (le-leb next g.file (omega arith)) ∙ b.0, each gs a.1 b.1)

new_looked : (next most : ℕ) (files : List NewFile) (look : ℕ → ℕ) → files_fit next most files ≡ true → IsLooked (looked_from next files look) files
new_looked next most [] look h = tt
new_looked next most (f ∷ fs) look h =
    let p = and_parts (nat_le next f.file) (consecutive f.file (f ∷ fs) && all_below most (numbers_of (f ∷ fs))) h in
    let q = and_parts (consecutive f.file (f ∷ fs)) (all_below most (numbers_of (f ∷ fs))) p.1 in
    fresh_looked next f.file (f ∷ fs) look (leb-true next f.file p.0) q.0

old_looked : (next : ℕ) (files fs : List NewFile) (look : ℕ → ℕ) → AllByRecursion (λ (f : NewFile). f.file < next) fs → IsLooked look fs → IsLooked (looked_from next files look) fs
old_looked next files [] look below h = tt
old_looked next files (f ∷ fs) look below h = (one (nat_le next f.file) refl below.0, old_looked next files fs look below.1 h.1)
  where
    one : (b : Bool) → nat_le next f.file ≡ b → f.file < next → looked_from next files look f.file ≡ f.rows
    one true e lt = let le = leb-true next f.file e in absurd (omega arith)
    one false e lt = ap (λ (t : Bool). cond t (rows_in files f.file) (look f.file)) e ∙ h.0

-- ---- record by record

fresh_at : (edit : ℕ) (m t : Standing) (r : Record) (look : ℕ → ℕ) → step_at edit m r ≡ Some t → IsLooked (looked_from m.versions.next_file (brings r) look) (brings r)
fresh_at edit m t (Publish version files rows) look h =
    let g = gives_publish edit version files rows m t h in
    let first = and_parts (version == current_number m.versions + 1) _ g.fits in
    let second = and_parts (nat_lt version bound) _ first.1 in
    let third = and_parts (nat_lt (length m.versions.older + 1) 1000) _ second.1 in
    let fourth = and_parts (files_fit m.versions.next_file (most_file m) files) _ third.1 in
    new_looked m.versions.next_file (most_file m) files look fourth.0
fresh_at edit m t (Compact version replaced files rows levels) look h =
    let g = gives_compact edit version replaced files rows levels m t h in
    let first = and_parts (version == current_number m.versions) _ g.fits in
    let second = and_parts (nat_lt version bound) _ first.1 in
    let third = and_parts (nat_le replaced (length m.versions.current.rowsets)) _ second.1 in
    let fourth = and_parts (files_fit m.versions.next_file (most_file m) files) _ third.1 in
    new_looked m.versions.next_file (most_file m) files look fourth.0
fresh_at edit m t (Floor floor) look h = tt
fresh_at edit m t (Levels levels) look h = tt
fresh_at edit m t (Create form schema) look h = tt
fresh_at edit m t (Checkpoint epoch form schema next_file floor rowsets kept levels) look h = tt

step_agrees : (m t : Standing) (r : Record) → IsTold m → Agrees m → step m r ≡ Some t → Agrees t
step_agrees m t r told agrees h =
    let look = looked_from m.versions.next_file (brings r) agrees.0 in (
      look,
      files_grow (λ (f : NewFile). look f.file ≡ f.rows) m t (old_looked m.versions.next_file (brings r) (files_in (all_versions m.versions)) agrees.0 (named_files_below m told) agrees.1) r h
          (fresh_at (m.edit + 1) m t r agrees.0 (steps m t r h).1),
    )

some_one : {X : Type 0} (x y : X) → Some x ≡ Some y → x ≡ y
some_one x y e = cc

goes_agree : (rs : List Record) (s t : Standing) → IsTold s → Agrees s → goes_on rs (Some s) ≡ Some t → Agrees t
goes_agree [] s t told agrees h = subst Agrees (some_one s t h) agrees
goes_agree (r ∷ rs) s t told agrees h = go (step s r) refl h (λ x e k. goes_agree rs x t (told_more s x r told e) (step_agrees s x r told agrees e) k)
  where
    go : (o : Option Standing) → step s r ≡ o → goes_on rs o ≡ Some t
        → ((x : Standing) → step s r ≡ Some x → goes_on rs (Some x) ≡ Some t → Agrees t) → Agrees t
    go None e k f = let none = goes_on-none rs in absurd (cc (k, none))
    go (Some x) e k f = f x e k

begun_agrees : (r : Record) (s : Standing) → begun r ≡ Some s → Agrees s
begun_agrees (Create form schema) s h =
    let p = then_some (is_form form) (record { form = form; epoch = 0; edit = 0; versions = no_versions schema; kept = []; levels = None }) s h in
    subst Agrees p.1 ((λ n. 0), tt)
begun_agrees (Publish version files rows) s h = absurd (cc h)
begun_agrees (Compact version replaced files rows levels) s h = absurd (cc h)
begun_agrees (Floor floor) s h = absurd (cc h)
begun_agrees (Levels levels) s h = absurd (cc h)
begun_agrees (Checkpoint epoch form schema next_file floor rowsets kept levels) s h = absurd (cc h)

pub records_agree : (rs : List Record) (m : Standing) → records_mean rs ≡ Some m → Agrees m
records_agree [] m h = absurd (cc h)
records_agree (r ∷ rs) m h = go (begun r) refl h
  where
    go : (o : Option Standing) → begun r ≡ o → goes_on rs o ≡ Some m → Agrees m
    go None e k = let none = goes_on-none rs in absurd (cc (k, none))
    go (Some s) e k = goes_agree rs s m (told_of_records (r ∷ []) s e) (begun_agrees r s e) k

pub unclashed : (r : Replayed) (m : Standing) → IsReplayed r m → Agrees m → Clash (named r) → ⊥
unclashed r m is agrees c =
    let all : IsLooked agrees.0 (named r) = subst (IsLooked agrees.0) (named_is r) (subst (λ (vs : Versions). IsLooked agrees.0 (files_in (all_versions vs))) is.versions agrees.1) in
    let one = all_one (λ (f : NewFile). agrees.0 f.file ≡ f.rows) (named r) c.one.0 (record { file = c.number; rows = c.first }) all c.one.1 in
    let other = all_one (λ (f : NewFile). agrees.0 f.file ≡ f.rows) (named r) c.other.0 (record { file = c.number; rows = c.second }) all c.other.1 in
    c.apart (sym one ∙ other)
