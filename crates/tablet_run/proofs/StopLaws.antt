-- Where inputs tell, what they hold and the words determine the first cause that neither a fault nor want of memory gives.
use Rattle.std.proofs.Common.{◌≡◌, refl, ap, sym, subst, ◌∙◌, ◌⊎◌, inl, inr, ℕ, ◌+◌, ◌-◌, ◌<◌, ◌≤◌, arith, List, [], ◌∷◌, ◌++◌, length, Option, Some, None, IsSomeAnd, Result, Ok, Err, Bool as Truth, true, false, cond}
use Rattle.std.specs.Prelude.{map, nat_lt, unwrap_or}
use Rattle.std.specs.FinMap as fin
use Rattle.std.specs.List.{AllByRecursion}
use Rattle.std.proofs.lemmas.List.{append-nil}
use Rattle.dev_traits.specs.Streams.{Files}
use Rattle.pk_values.specs.Schemas.{Layout}
use Rattle.schema_json.specs.Tables.{table_of}
use Rattle.schema_json.specs.declared.tables.TableFault.{TableFault}
use Rattle.script_text.specs.Scripts.{script_of}
use Rattle.script_text.specs.declared.scripts.Job.{Job}
use Rattle.script_text.specs.declared.scripts.Script.{Script}
use Rattle.script_text.specs.declared.scripts.ScriptFault.{ScriptFault}
use Rattle.command_line.specs.Words.{Named, files_of}
use Rattle.reports.specs.declared.jobs.FiledJob.{FiledJob}
use Rattle.reports.specs.Filed.{AreFiled, AreHeld, HasItsFile, bytes_in, file_name, most_files}
use Rattle.tablet_run.specs.Asks.{Asks, FileIsNext, HasFiled, HasJobs, NamesTexts, first_unbuilt, limit_after, most_after, most_text}
use Rattle.tablet_run.specs.Laws.{CausesExclude, IsDecided, JobsExclude}
use Rattle.tablet_run.specs.Runs.{Stops}
use Rattle.tablet_run.specs.Streams.{Exceeds, Holds, Lacks}
use Rattle.tablet_run.specs.declared.causes.Cause.{Cause}
use Rattle.tablet_run.specs.declared.causes.Cause.TheVariants as cause

-- ---- the first cause

abbrev or_else : Option Cause → Option Cause → Option Cause
or_else None d = d
or_else (Some c) d = Some c

abbrev size_cause : List ℕ → ℕ → ℕ → Option (List ℕ) → Option Cause
size_cause name most limit None = Some (cause.Missing name)
size_cause name most limit (Some bytes) = cond (nat_lt most (length bytes)) (Some (cause.TooLarge name (limit + 1))) None

abbrev input_cause : Files → List ℕ → ℕ → ℕ → Option Cause
input_cause fs name most limit = size_cause name most limit (fin.get fs name)

abbrev bytes_of : Files → List ℕ → List ℕ
bytes_of fs name = unwrap_or (fin.get fs name) []

abbrev named_cause : Files → Option (List ℕ) → ℕ → Option Cause
named_cause fs None read = None
named_cause fs (Some name) read = input_cause fs name (most_after read) (limit_after read)

abbrev named_size : Files → Option (List ℕ) → ℕ
named_size fs None = 0
named_size fs (Some name) = length (bytes_of fs name)

abbrev files_cause : Files → ℕ → List Job → Option Cause
files_cause fs read [] = None
files_cause fs read (j ∷ js) = or_else (named_cause fs (file_name j.act) read) (files_cause fs (read + named_size fs (file_name j.act)) js)

abbrev unbuilt_cause : Option ℕ → Option Cause
unbuilt_cause None = None
unbuilt_cause (Some n) = Some (cause.Unbuilt n)

abbrev script_cause : Files → Result Script ScriptFault → Option Cause
script_cause fs (Err f) = Some (cause.Script f)
script_cause fs (Ok script) = or_else (unbuilt_cause (first_unbuilt 1 script.jobs)) (files_cause fs 0 script.jobs)

abbrev table_cause : Files → List ℕ → Result Layout TableFault → Option Cause
table_cause fs script (Err f) = Some (cause.Table f)
table_cause fs script (Ok s) = script_cause fs (script_of script)

abbrev after_table : Files → Named → Option Cause
after_table fs n = or_else (input_cause fs n.script most_text most_text) (table_cause fs (bytes_of fs n.script) (table_of (bytes_of fs n.table)))

abbrev words_cause : Files → Option Named → Option Cause
words_cause fs None = Some cause.Words
words_cause fs (Some n) = or_else (input_cause fs n.table most_text most_text) (after_table fs n)

abbrev first_cause : Files → List (List ℕ) → Option Cause
first_cause fs words = words_cause fs (files_of words)

-- ---- one input

not-more : (a b : ℕ) → b ≤ a → nat_lt a b ≡ false
not-more a b h = grind (arith, h)

is-more : (a b : ℕ) → a < b → nat_lt a b ≡ true
is-more a b h = grind (arith, h)

module _ (fs : Files) (name : List ℕ) (most limit : ℕ) where
  held-none : (bytes : List ℕ) → length bytes ≤ most → fin.get fs name ≡ Some bytes → input_cause fs name most limit ≡ None
  held-none bytes h e = ap (size_cause name most limit) e ∙ ap (λ t. cond t (Some (cause.TooLarge name (limit + 1))) None) (not-more most (length bytes) h)

  lacks-missing : Lacks (Some fs) name → input_cause fs name most limit ≡ Some (cause.Missing name)
  lacks-missing e = ap (size_cause name most limit) e

  exceeds-large : Exceeds (Some fs) name most → input_cause fs name most limit ≡ Some (cause.TooLarge name (limit + 1))
  exceeds-large h = by (fin.get fs name) h
    where
      by : (o : Option (List ℕ)) → IsSomeAnd o (λ bytes. most < length bytes) → size_cause name most limit o ≡ Some (cause.TooLarge name (limit + 1))
      by None h = absurd h
      by (Some bytes) h = ap (λ t. cond t (Some (cause.TooLarge name (limit + 1))) None) (is-more most (length bytes) h)

held-bytes : (fs : Files) (name bytes : List ℕ) → fin.get fs name ≡ Some bytes → bytes_of fs name ≡ bytes
held-bytes fs name bytes e = ap (λ o. unwrap_or o []) e

-- ---- files

fits-limit : (read n total : ℕ) → n ≤ 67108864 → read + (n + total) ≤ most_files → n ≤ most_after read
fits-limit read n total h k = grind (arith, h, k)

-- the files of earlier jobs stop nothing
module _ (fs : Files) where
  file-done : (name : Option (List ℕ)) (bytes : List ℕ) (read rest : ℕ) → AreHeld (Some fs) name bytes → read + (length bytes + rest) ≤ most_files
      → (named_cause fs name read ≡ None) × (named_size fs name ≡ length bytes)
  file-done None bytes read rest h k = (refl, sym (ap length h))
  file-done (Some name) bytes read rest h k =
      (held-none fs name (most_after read) (limit_after read) bytes (fits-limit read (length bytes) rest h.0 k) h.1, ap length (held-bytes fs name bytes h.1))

  files-done : (read : ℕ) (earlier later : List Job) (filed : List FiledJob) → map (λ (f : FiledJob). f.job) filed ≡ earlier → AllByRecursion (HasItsFile (Some fs)) filed
      → read + bytes_in filed ≤ most_files → files_cause fs read (earlier ++ later) ≡ files_cause fs (read + bytes_in filed) later
  files-done read [] later [] e h k = let same : read ≡ read + 0 = omega arith in ap (λ n. files_cause fs n later) same
  files-done read [] later (f ∷ filed) e h k = cc e
  files-done read (j ∷ js) later [] e h k = cc e
  files-done read (j ∷ js) later (f ∷ filed) e h k =
      let job : f.job ≡ j = cc e in
      let rest : map (λ (f : FiledJob). f.job) filed ≡ js = cc e in
      let held : AreHeld (Some fs) (file_name j.act) f.file = subst (λ (x : Job). AreHeld (Some fs) (file_name x.act) f.file) job h.0 in
      let done = file-done (file_name j.act) f.file read (bytes_in filed) held k in
      let size = done.1 in
      let sum : read + length f.file + bytes_in filed ≡ read + (length f.file + bytes_in filed) = omega arith in
      ap (λ o. or_else o (files_cause fs (read + named_size fs (file_name j.act)) (js ++ later))) done.0
      ∙ ap (λ n. files_cause fs (read + n) (js ++ later)) size
      ∙ files-done (read + length f.file) js later filed rest h.1 (omega (arith, k))
      ∙ ap (λ n. files_cause fs n later) sum

-- ---- how far a run came

module _ (fs : Files) (words : List (List ℕ)) where
  at-names : (n : Named) → files_of words ≡ Some n → first_cause fs words ≡ or_else (input_cause fs n.table most_text most_text) (after_table fs n)
  at-names n e = ap (words_cause fs) e

  at-script : (n : Named) (table : List ℕ) → files_of words ≡ Some n → Holds (Some fs) n.table most_text table → first_cause fs words ≡ after_table fs n
  at-script n table e h = at-names n e ∙ ap (λ o. or_else o (after_table fs n)) (held-none fs n.table most_text most_text table h.0 h.1)

  at-texts : (table script : List ℕ) → NamesTexts (Some fs) words table script → first_cause fs words ≡ table_cause fs script (table_of table)
  at-texts table script h =
      let n = h.named in
      let t = h.table_held in
      let c = h.script_held in
      at-script n table h.names t
      ∙ ap (λ o. or_else o (table_cause fs (bytes_of fs n.script) (table_of (bytes_of fs n.table)))) (held-none fs n.script most_text most_text script c.0 c.1)
      ∙ ap (λ x. table_cause fs x (table_of (bytes_of fs n.table))) (held-bytes fs n.script script c.1)
      ∙ ap (λ x. table_cause fs script (table_of x)) (held-bytes fs n.table table t.1)

  at-jobs : (s : Layout) (jobs : List Job) → HasJobs (Some fs) words s jobs → first_cause fs words ≡ or_else (unbuilt_cause (first_unbuilt 1 jobs)) (files_cause fs 0 jobs)
  at-jobs s jobs h = at-texts h.table h.script h.texts ∙ ap (table_cause fs h.script) h.table_is ∙ ap (script_cause fs) h.script_is

  at-files : (s : Layout) (jobs : List Job) → HasJobs (Some fs) words s jobs → first_unbuilt 1 jobs ≡ None → first_cause fs words ≡ files_cause fs 0 jobs
  at-files s jobs h e = at-jobs s jobs h ∙ ap (λ o. or_else (unbuilt_cause o) (files_cause fs 0 jobs)) e

  at-file : (s : Layout) (jobs : List Job) (name : List ℕ) (read : ℕ) (c : Cause) → HasJobs (Some fs) words s jobs → first_unbuilt 1 jobs ≡ None → FileIsNext (Some fs) jobs name read
      → input_cause fs name (most_after read) (limit_after read) ≡ Some c → first_cause fs words ≡ Some c
  at-file s jobs name read c h e n is =
      let few = n.are.few in
      let none : 0 + bytes_in n.filed ≡ read = let same = n.before_is in omega (arith, same) in
      at-files s jobs h e ∙ ap (files_cause fs 0) n.jobs_are
      ∙ files-done fs 0 n.earlier (n.job ∷ n.later) n.filed n.are.jobs_are n.are.held (omega (arith, few))
      ∙ ap (λ k. files_cause fs k (n.job ∷ n.later)) none
      ∙ ap (λ o. or_else (named_cause fs o read) (files_cause fs (read + named_size fs o) n.later)) n.names
      ∙ ap (λ o. or_else o (files_cause fs (read + named_size fs (Some name)) n.later)) is

  -- an input that was asked for and gives a cause is where the run stops
  at-asked : (name : List ℕ) (most limit : ℕ) (c : Cause) → Asks (Some fs) words name most limit → input_cause fs name most limit ≡ Some c → first_cause fs words ≡ Some c
  at-asked name most limit c asks is = elim asks [
    | inl table ↦
        let n = table.0.0 in
        at-names n table.0.1 ∙ ap (λ o. or_else o (after_table fs n)) ((λ i. input_cause fs (sym table.0.2 i) (sym table.1 i) (sym table.2 i)) ∙ is)
    | inr rest ↦ elim rest [
      | inl script ↦
          let n = script.0.0 in
          at-script n script.0.1 script.0.2 script.0.3
          ∙ ap (λ o. or_else o (table_cause fs (bytes_of fs n.script) (table_of (bytes_of fs n.table)))) ((λ i. input_cause fs (sym script.0.4 i) (sym script.1 i) (sym script.2 i)) ∙ is)
      | inr file ↦
          let at = file.1 in
          at-file at.0 at.1 name file.0 c at.2 at.3 at.4 ((λ i. input_cause fs name (sym file.2 i) (sym file.3 i)) ∙ is)
    ]
  ]

  first : (c : Cause) → IsDecided c → Stops (Some fs) words c → first_cause fs words ≡ Some c
  first cause.Words d h = ap (words_cause fs) h
  first (cause.Missing name) d h = at-asked name h.0 h.1 (cause.Missing name) h.2 (lacks-missing fs name h.0 h.1 h.3)
  first (cause.InputFault name) d h = absurd d
  first (cause.TooLarge name bytes) d h =
      at-asked name h.0 h.1 (cause.TooLarge name bytes) h.2 (exceeds-large fs name h.0 h.1 h.3 ∙ ap (λ n. Some (cause.TooLarge name n)) (sym h.4))
  first (cause.Table f) d h = at-texts h.0 h.1 h.2 ∙ ap (table_cause fs h.1) h.3
  first (cause.Script f) d h = at-texts h.1 h.2 h.3 ∙ ap (table_cause fs h.2) h.4 ∙ ap (script_cause fs) h.5
  first (cause.Unbuilt n) d h = at-jobs h.0 h.1 h.2 ∙ ap (λ o. or_else (unbuilt_cause o) (files_cause fs 0 h.1)) h.3
  first cause.Memory d h = absurd d
  first cause.None d h = absurd h
  first cause.Sink d h = absurd h
  first cause.Refused d h = absurd h
  first (cause.OtherSchema t) d h = absurd h
  first cause.Store d h = absurd h
  first (cause.Damaged x) d h = absurd h

  no-cause : (s : Layout) (jobs : List FiledJob) → HasFiled (Some fs) words s jobs → first_cause fs words ≡ None
  no-cause s jobs h =
      let few = h.are.few in
      at-files s h.jobs h.has h.built
      ∙ ap (files_cause fs 0) (sym (append-nil h.jobs))
      ∙ files-done fs 0 h.jobs [] jobs h.are.jobs_are h.are.held (omega (arith, few))

same-some : (c d : Cause) → Some c ≡ Some d → c ≡ d
same-some c d e = cc e

none-some : (c : Cause) → None ≡ Some c → ⊥
none-some c e = cc e

pub causes-exclude : CausesExclude
causes-exclude fs words c d h k u w = same-some c d (sym (first fs words c u h) ∙ first fs words d w k)

pub jobs-exclude : JobsExclude
jobs-exclude fs words s jobs c h k u = none-some c (sym (no-cause fs words s jobs h) ∙ first fs words c u k)

-- ---- the table

abbrev table_named : Files → Option Named → Option (Result Layout TableFault)
table_named fs None = None
table_named fs (Some n) = Some (table_of (bytes_of fs n.table))

table-is : (fs : Files) (words : List (List ℕ)) (s : Layout) (jobs : List FiledJob) → HasFiled (Some fs) words s jobs → table_named fs (files_of words) ≡ Some (Ok s)
table-is fs words s jobs h =
    let texts = h.has.texts in
    ap (table_named fs) texts.names ∙ ap (λ bytes. Some (table_of bytes)) (held-bytes fs texts.named.table h.has.table texts.table_held.1) ∙ ap (λ r. Some r) h.has.table_is

abbrev read_as : Layout → Option (Result Layout TableFault)
read_as s = Some (Ok s)

same-table : (s t : Layout) → read_as s ≡ read_as t → s ≡ t
same-table s t e = cc e

-- words name one table
pub one-table : (fs : Files) (words : List (List ℕ)) (s t : Layout) (jobs others : List FiledJob) → HasFiled (Some fs) words s jobs → HasFiled (Some fs) words t others → s ≡ t
one-table fs words s t jobs others h k = same-table s t (sym (table-is fs words s jobs h) ∙ table-is fs words t others k)
