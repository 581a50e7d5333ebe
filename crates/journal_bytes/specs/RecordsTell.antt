-- A body is of one record.
use Rattle.std.proofs.Common.{◌≡◌, ℕ, ◌<◌, ◌≤◌, ◌^◌, List, [], ◌∷◌, ◌++◌, length, refl, sym, ap, ◌∙◌, arith, Option, None, IsTrue}
use Rattle.std.specs.Prelude.{nat_le}
use Rattle.std.proofs.lemmas.Bool.{and_parts, leb-true}
use Rattle.std.proofs.lemmas.List.{append_cancel_left}
use Rattle.pk_values.specs.Schemas.{Layout, is_kind, schema_fault}
use Rattle.pk_values.specs.declared.cells.Kind.{Kind}
use Rattle.pk_values.specs.declared.cells.Kind.TheVariants.{Boolean, TinyInt, SmallInt, Int, BigInt, LargeInt, Date, Varchar}
use Rattle.pk_values.specs.declared.cells.Value.{Value}
use Rattle.column_page.specs.CellBytes.{cell_bytes}
use Rattle.column_page.proofs.OneCell.{cell_one}
use Rattle.value_bytes.specs.Fields.{Field, Tells, both, by, counted, flag, followed, optional, text, times, u8, u16, u32, u64}
use Rattle.value_bytes.specs.Telling.{both-tells, by-tells, counted-tells, flag-tells, followed-tells, number-tells, optional-tells, such-tells, text-tells, times-tells}
use Rattle.journal_form.specs.declared.records.NewFile.{NewFile}
use Rattle.journal_form.specs.declared.records.DeadRows.{DeadRows}
use Rattle.journal_form.specs.declared.records.LevelList.{LevelList}
use Rattle.journal_form.specs.declared.records.Record.{Record}
use Rattle.journal_form.specs.declared.records.Record.TheVariants.{Create, Publish, Compact, Floor, Levels, Checkpoint}
use Rattle.journal_form.specs.Versions.{Rowset}
use Rattle.journal_bytes.specs.Schemas.{column, kind, nullable_cell, nullable_column, schema}
use Rattle.journal_bytes.specs.Records.{RecordFits, dead_rows, level_file, listed_file, new_file, changed_rows, checkpoint, compact, create, kept_bodies, level_list, levels, listed_files, new_files, publish, record_bytes}

-- ---- schemas

most_small : (most : ℕ) → IsTrue (is_kind (Varchar most)) → most < 256 ^ 2
most_small most h = let le : most ≤ 65533 = leb-true most 65533 (and_parts (nat_le 1 most) (nat_le most 65533) h).1 in omega arith

pub kind-tells : Tells kind
kind-tells Boolean Boolean r s f g h = (refl, cc)
kind-tells TinyInt TinyInt r s f g h = (refl, cc)
kind-tells SmallInt SmallInt r s f g h = (refl, cc)
kind-tells Int Int r s f g h = (refl, cc)
kind-tells BigInt BigInt r s f g h = (refl, cc)
kind-tells LargeInt LargeInt r s f g h = (refl, cc)
kind-tells Date Date r s f g h = (refl, cc)
kind-tells (Varchar m) (Varchar n) r s f g h = let p = number-tells 2 m n r s (most_small m f) (most_small n g) cc in (ap Varchar p.0, p.1)
kind-tells a b r s f g h = cc

pub cell-tells : (k : Kind) → Tells (nullable_cell k)
cell-tells k v w r s f g h =
    let c = nullable_column k in
    let same : v ≡ w = cell_one c f.0 v w f.1 g.1 r s h in
    (same, append_cancel_left (cell_bytes c w) r s (ap (λ (x : Value). cell_bytes c x ++ r) (sym same) ∙ h))

pub column-tells : Tells column
column-tells = by-tells (λ c. ((c.name, (c.kind, c.nullable)), c.default)) (λ p. record { name = p.0.0; kind = p.0.1.0; nullable = p.0.1.1; default = p.1 })
    (followed (both (text u8) (both kind flag)) (λ p. optional (nullable_cell p.1.0))) (λ c. refl)
    (followed-tells (both (text u8) (both kind flag)) (λ p. optional (nullable_cell p.1.0)) (both-tells (text u8) (both kind flag) (text-tells u8 (number-tells 1)) (both-tells kind flag kind-tells flag-tells)) (λ p. optional-tells (nullable_cell p.1.0) (cell-tells p.1.0)))

pub schema-tells : Tells schema
schema-tells = such-tells (by (λ s. ((length s.columns, s.keys), s.columns)) (followed (both u8 u8) (λ n. times column n.0))) (λ s. schema_fault s.columns s.keys ≡ None)
    (by-tells (λ s. ((length s.columns, s.keys), s.columns)) (λ p. record { columns = p.1; keys = p.0.1 }) (followed (both u8 u8) (λ n. times column n.0)) (λ s. refl)
    (followed-tells (both u8 u8) (λ n. times column n.0) (both-tells u8 u8 (number-tells 1) (number-tells 1)) (λ n. times-tells column n.0 column-tells)))

-- ---- parts of records

pub new_file-tells : Tells new_file
new_file-tells = by-tells (λ f. (f.file, f.rows)) (λ p. record { file = p.0; rows = p.1 }) (both u64 u32) (λ f. refl) (both-tells u64 u32 (number-tells 8) (number-tells 4))

pub new_files-tells : Tells new_files
new_files-tells = counted-tells u64 new_file (number-tells 8) new_file-tells

pub dead_rows-tells : Tells dead_rows
dead_rows-tells =
    by-tells (λ c. (c.file, c.rows)) (λ p. record { file = p.0; rows = p.1 }) (both u64 (counted u32 u16)) (λ c. refl) (both-tells u64 (counted u32 u16) (number-tells 8) (counted-tells u32 u16 (number-tells 4) (number-tells 2)))

pub changed_rows-tells : Tells changed_rows
changed_rows-tells = counted-tells u64 dead_rows (number-tells 8) dead_rows-tells

pub level_file-tells : Tells level_file
level_file-tells = by-tells (λ f. (f.file, f.base)) (λ p. record { file = p.0; base = p.1 }) (both u64 u64) (λ f. refl) (both-tells u64 u64 (number-tells 8) (number-tells 8))

pub level_list-tells : Tells level_list
level_list-tells = by-tells (λ l. (l.after, l.files)) (λ p. record { after = p.0; files = p.1 }) (both u64 (counted u32 level_file)) (λ l. refl)
    (both-tells u64 (counted u32 level_file) (number-tells 8) (counted-tells u32 level_file (number-tells 4) level_file-tells))

pub levels-tells : Tells levels
levels-tells = optional-tells level_list level_list-tells

pub listed_file-tells : Tells listed_file
listed_file-tells = by-tells (λ f. (f.file, (f.rows, f.dead))) (λ p. record { file = p.0; rows = p.1.0; dead = p.1.1 }) (both u64 (both u32 (counted u32 u16))) (λ f. refl)
    (both-tells u64 (both u32 (counted u32 u16)) (number-tells 8) (both-tells u32 (counted u32 u16) (number-tells 4) (counted-tells u32 u16 (number-tells 4) (number-tells 2))))

pub listed_files-tells : Tells listed_files
listed_files-tells = counted-tells u64 listed_file (number-tells 8) listed_file-tells

-- ---- records

create-tells : Tells (both u64 create)
create-tells = both-tells u64 create (number-tells 8) (both-tells u8 schema (number-tells 1) schema-tells)

publish-tells : Tells (both u64 publish)
publish-tells = both-tells u64 publish (number-tells 8) (both-tells u64 (both new_files changed_rows) (number-tells 8) (both-tells new_files changed_rows new_files-tells changed_rows-tells))

compact-tells : Tells (both u64 compact)
compact-tells = both-tells u64 compact (number-tells 8)
    (both-tells u64 (both u64 (both new_files (both changed_rows levels))) (number-tells 8)
    (both-tells u64 (both new_files (both changed_rows levels)) (number-tells 8)
    (both-tells new_files (both changed_rows levels) new_files-tells (both-tells changed_rows levels changed_rows-tells levels-tells))))

checkpoint-tells : Tells (both u64 checkpoint)
checkpoint-tells =
    let f1 : Field (List (List ℕ) × Option LevelList) = both kept_bodies levels in
    let f2 : Field (List Rowset × (List (List ℕ) × Option LevelList)) = both (counted u64 listed_files) f1 in
    both-tells u64 checkpoint (number-tells 8)
    (both-tells u64 (both u8 (both schema (both u64 (both u64 f2)))) (number-tells 8)
    (both-tells u8 (both schema (both u64 (both u64 f2))) (number-tells 1)
    (both-tells schema (both u64 (both u64 f2)) schema-tells
    (both-tells u64 (both u64 f2) (number-tells 8)
    (both-tells u64 f2 (number-tells 8)
    (both-tells (counted u64 listed_files) f1 (counted-tells u64 listed_files (number-tells 8) listed_files-tells)
    (both-tells kept_bodies levels (counted-tells u64 (text u64) (number-tells 8) (text-tells u64 (number-tells 8))) levels-tells)))))))

pub record-tells : (e f : ℕ) (q r : Record) (s t : List ℕ) → RecordFits e q → RecordFits f r → record_bytes e q ++ s ≡ record_bytes f r ++ t → (e ≡ f) × (q ≡ r) × (s ≡ t)
record-tells e f (Create form c) (Create form' c') s t fq fr h =
    let p = create-tells (e, (form, c)) (f, (form', c')) s t fq fr cc in
    (ap (λ (x : ℕ × (ℕ × Layout)). x.0) p.0, ap (λ (x : ℕ × (ℕ × Layout)). Create x.1.0 x.1.1) p.0, p.1)
record-tells e f (Publish v fs cs) (Publish v' fs' cs') s t fq fr h =
    let p = publish-tells (e, (v, (fs, cs))) (f, (v', (fs', cs'))) s t fq fr cc in
    (ap (λ (x : ℕ × (ℕ × (List NewFile × List DeadRows))). x.0) p.0, ap (λ (x : ℕ × (ℕ × (List NewFile × List DeadRows))). Publish x.1.0 x.1.1.0 x.1.1.1) p.0, p.1)
record-tells e f (Compact v n fs cs l) (Compact v' n' fs' cs' l') s t fq fr h =
    let p = compact-tells (e, (v, (n, (fs, (cs, l))))) (f, (v', (n', (fs', (cs', l'))))) s t fq fr cc in (
      ap (λ (x : ℕ × (ℕ × (ℕ × (List NewFile × (List DeadRows × Option LevelList))))). x.0) p.0,
      ap (λ (x : ℕ × (ℕ × (ℕ × (List NewFile × (List DeadRows × Option LevelList))))). Compact x.1.0 x.1.1.0 x.1.1.1.0 x.1.1.1.1.0 x.1.1.1.1.1) p.0,
      p.1,
    )
record-tells e f (Floor n) (Floor m) s t fq fr h =
    let p = both-tells u64 u64 (number-tells 8) (number-tells 8) (e, n) (f, m) s t fq fr cc in
    (ap (λ (x : ℕ × ℕ). x.0) p.0, ap (λ (x : ℕ × ℕ). Floor x.1) p.0, p.1)
record-tells e f (Levels l) (Levels m) s t fq fr h =
    let p = both-tells u64 levels (number-tells 8) levels-tells (e, l) (f, m) s t fq fr cc in
    (ap (λ (x : ℕ × Option LevelList). x.0) p.0, ap (λ (x : ℕ × Option LevelList). Levels x.1) p.0, p.1)
record-tells e f (Checkpoint a b c d g h i j) (Checkpoint a' b' c' d' g' h' i' j') s t fq fr k =
    let p = checkpoint-tells (e, (a, (b, (c, (d, (g, (h, (i, j)))))))) (f, (a', (b', (c', (d', (g', (h', (i', j')))))))) s t fq fr cc in (
      ap (λ (x : ℕ × (ℕ × (ℕ × (Layout × (ℕ × (ℕ × (List Rowset × (List (List ℕ) × Option LevelList)))))))). x.0) p.0,
      ap (λ (x : ℕ × (ℕ × (ℕ × (Layout × (ℕ × (ℕ × (List Rowset × (List (List ℕ) × Option LevelList)))))))). Checkpoint x.1.0 x.1.1.0 x.1.1.1.0 x.1.1.1.1.0 x.1.1.1.1.1.0 x.1.1.1.1.1.1.0 x.1.1.1.1.1.1.1.0 x.1.1.1.1.1.1.1.1) p.0,
      p.1,
    )
record-tells e f q r s t fq fr h = cc

nothing : (xs : List ℕ) → xs ++ [] ≡ xs
nothing [] = refl
nothing (x ∷ xs) = ap (λ (t : List ℕ). x ∷ t) (nothing xs)

pub one_spelling : (e f : ℕ) (q r : Record) → RecordFits e q → RecordFits f r → record_bytes e q ≡ record_bytes f r → (e ≡ f) × (q ≡ r)
one_spelling e f q r fq fr h = let p = record-tells e f q r [] [] fq fr (ap (λ (t : List ℕ). t ++ []) h) in (p.0, p.1)
