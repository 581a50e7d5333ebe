-- The script that bytes stand for.
use Rattle.std.specs.Prelude.{ℕ, ◌+◌, ◌-◌, List, [], ◌∷◌, ◌++◌, length, codes, filter, Option, Some, None, option_and_then, Result, Ok, Err, Bool as Truth, true, false, ◌==◌, ◌||◌, ◌&&◌, not, nat_le, nat_lt, if◌then◌else◌}
use Rattle.std.specs.List.{list_all, slice_split}
use Rattle.std.specs.Str.{is_utf8}
use Rattle.std.specs.Str.Lines.{lines}
use Rattle.pk_model.specs.declared.calls.Want.{Want}
use Rattle.pk_model.specs.declared.calls.Want.TheVariants.{Latest, At}
use Rattle.cell_text.specs.Cells.{digits_of, is_word}
use Rattle.cell_text.specs.Readings.{if_at_most}
use Rattle.load_csv.specs.Results.{◌and_then◌}
use Rattle.script_text.specs.declared.lines.ScriptLine.{ScriptLine}
use Rattle.script_text.specs.declared.lines.ScriptLine.TheVariants.{Skipped, PhaseEnd, Work}
use Rattle.script_text.specs.declared.scripts.Job.{Job}
use Rattle.script_text.specs.declared.scripts.JobAct.{JobAct}
use Rattle.script_text.specs.declared.scripts.JobAct.TheVariants.{Load, Partial, Scan, Compact, Expire, Stat}
use Rattle.script_text.specs.declared.scripts.Script.{Script}
use Rattle.script_text.specs.declared.scripts.ScriptCause.{ScriptCause}
use Rattle.script_text.specs.declared.scripts.ScriptCause.TheVariants.{NoLane, BadLane, NoJob, UnknownJob, BadCount, BadName, BadVersion, ManyJobs}
use Rattle.script_text.specs.declared.scripts.ScriptFault.{ScriptFault}

-- ---- words

-- a space or a tab
abbrev pub is_blank : ℕ → Truth
is_blank b = (b == 32) || (b == 9)

abbrev pub is_filled : List ℕ → Truth
is_filled [] = false
is_filled (b ∷ bs) = true

-- the words of a line: what stands between its blanks
abbrev pub words_of : List ℕ → List (List ℕ)
words_of line = filter is_filled (slice_split is_blank line)

abbrev pub begins_with : ℕ → List ℕ → Truth
begins_with first [] = false
begins_with first (b ∷ bs) = b == first

-- ---- what stands behind a job's word

abbrev pub no_word : List (List ℕ) → JobAct → Result JobAct ScriptCause
no_word [] act = Ok act
no_word (word ∷ more) act = Err BadCount

abbrev pub one_word : List (List ℕ) → Result (List ℕ) ScriptCause
one_word [] = Err BadCount
one_word (word ∷ []) = Ok word
one_word (word ∷ other ∷ more) = Err BadCount

-- no control byte: none below 20 and no 7f, in hexadecimal
abbrev pub is_printed : ℕ → Truth
is_printed b = nat_le 32 b && not (b == 127)

-- a file's name is a word of UTF-8 without control bytes
abbrev pub is_file_name : List ℕ → Truth
is_file_name word = is_utf8 word && list_all is_printed word

abbrev pub file_of : List ℕ → Result (List ℕ) ScriptCause
file_of word = if is_file_name word then Ok word else Err BadName

-- the number that 1 to 20 decimal digits spell, if it is below 2 ^ 64
abbrev pub number_spelled : List ℕ → Option ℕ
number_spelled word = if nat_le (length word) 20 then option_and_then (if_at_most 18446744073709551615) (digits_of word) else None

abbrev pub number_or_fault : Option ℕ → Result ℕ ScriptCause
number_or_fault None = Err BadVersion
number_or_fault (Some n) = Ok n

abbrev pub version_of : List ℕ → Result ℕ ScriptCause
version_of word = number_or_fault (number_spelled word)

abbrev pub at : ℕ → Result Want ScriptCause
at version = Ok (At version)

-- `latest` or a version
abbrev pub want_of : List ℕ → Result Want ScriptCause
want_of word = if is_word word (codes "latest") then Ok Latest else version_of word and_then at

-- ---- lines

-- a job's word and the words after it
abbrev pub act_of : List ℕ → List (List ℕ) → Result JobAct ScriptCause
act_of verb after =
    if is_word verb (codes "load") then one_word after and_then file_of and_then (λ file. Ok (Load file))
    else if is_word verb (codes "partial") then one_word after and_then file_of and_then (λ file. Ok (Partial file))
    else if is_word verb (codes "scan") then one_word after and_then want_of and_then (λ want. Ok (Scan want))
    else if is_word verb (codes "compact") then no_word after Compact
    else if is_word verb (codes "expire") then one_word after and_then version_of and_then (λ version. Ok (Expire version))
    else if is_word verb (codes "stat") then no_word after Stat
    else Err UnknownJob

-- the words after the lane
abbrev pub job_of : List (List ℕ) → Result JobAct ScriptCause
job_of [] = Err NoJob
job_of (verb ∷ after) = act_of verb after

-- one digit from 1 to 8
abbrev pub lane_number : List ℕ → Result ℕ ScriptCause
lane_number [] = Err BadLane
lane_number (d ∷ []) = if nat_le 49 d && nat_le d 56 then Ok (d - 48) else Err BadLane
lane_number (d ∷ e ∷ more) = Err BadLane

-- `@` and the lane's digit
abbrev pub lane_of : List ℕ → Result ℕ ScriptCause
lane_of [] = Err NoLane
lane_of (b ∷ number) = if b == 64 then lane_number number else Err NoLane

-- `wait` and no word after it
abbrev pub is_wait : List ℕ → List (List ℕ) → Truth
is_wait first [] = is_word first (codes "wait")
is_wait first (word ∷ more) = false

abbrev pub work_of : List ℕ → List (List ℕ) → Result ScriptLine ScriptCause
work_of first after = lane_of first and_then (λ lane. job_of after and_then (λ act. Ok (Work lane act)))

-- a line without words and one whose first word begins with `#` are skipped
abbrev pub line_of_words : List (List ℕ) → Result ScriptLine ScriptCause
line_of_words [] = Ok Skipped
line_of_words (first ∷ after) =
    if begins_with 35 first then Ok Skipped
    else if is_wait first after then Ok PhaseEnd
    else work_of first after

abbrev pub script_line_of : List ℕ → Result ScriptLine ScriptCause
script_line_of line = line_of_words (words_of line)

-- ---- the script

abbrev pub most_jobs : ℕ
most_jobs = 4096

abbrev pub wrong : ℕ → ScriptCause → Result (List Job) ScriptFault
wrong line cause = Err (record { line = line; cause = cause })

-- the jobs, behind them one more, which a line of this number has
abbrev pub with_job : ℕ → List Job → Job → Result (List Job) ScriptFault
with_job number jobs job = if nat_lt (length jobs) most_jobs then Ok (jobs ++ job ∷ []) else wrong number ManyJobs

-- the jobs, behind them that of the line of this number, which stands in this phase
abbrev pub with_line : ℕ → ℕ → List Job → Result ScriptLine ScriptCause → Result (List Job) ScriptFault
with_line number phase jobs (Err cause) = wrong number cause
with_line number phase jobs (Ok Skipped) = Ok jobs
with_line number phase jobs (Ok PhaseEnd) = Ok jobs
with_line number phase jobs (Ok (Work lane act)) = with_job number jobs (record { lane = lane; phase = phase; act = act })

abbrev pub phase_after : ℕ → Result ScriptLine ScriptCause → ℕ
phase_after phase (Err cause) = phase
phase_after phase (Ok Skipped) = phase
phase_after phase (Ok PhaseEnd) = phase + 1
phase_after phase (Ok (Work lane act)) = phase

-- the jobs of lines, the first of which has this number and stands in this phase, behind the jobs before them
abbrev pub jobs_of : ℕ → ℕ → List Job → List (List ℕ) → Result (List Job) ScriptFault
jobs_of number phase jobs [] = Ok jobs
jobs_of number phase jobs (line ∷ rest) = with_line number phase jobs (script_line_of line) and_then (λ more. jobs_of (number + 1) (phase_after phase (script_line_of line)) more rest)

abbrev pub script_with : List Job → Result Script ScriptFault
script_with jobs = Ok (record { jobs = jobs })

-- the script that bytes stand for, or the fault of their first line that has one. Lines end with a line feed or a carriage return and a line feed, and the last
-- may lack its end; lines and phases count from 1
abbrev pub script_of : List ℕ → Result Script ScriptFault
script_of bytes = jobs_of 1 1 [] (lines bytes) and_then script_with
