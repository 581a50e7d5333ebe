-- The texts of a report.
use Rattle.std.specs.Prelude.{ℕ, ◌+◌, List, [], ◌∷◌, ◌++◌, All, decimal, flat_map, if◌then◌else◌, codes, nat_lt, ◌/◌, ◌%◌}
use Rattle.pk_values.specs.declared.cells.Value.{Value}
use Rattle.cell_text.specs.Texts.{IsWritable, cell_text}
use Rattle.dev_traits.specs.declared.faults.Damaged.{Damaged}
use Rattle.dev_traits.specs.declared.faults.Part.{Part}
use Rattle.dev_traits.specs.declared.faults.Part.TheVariants as damaged
use Rattle.dev_traits.specs.declared.faults.Shown.{Shown}
use Rattle.dev_traits.specs.declared.faults.Shown.TheVariants as shown
use Rattle.dev_traits.specs.declared.faults.OutsideFault.{OutsideFault}
use Rattle.dev_traits.specs.declared.faults.OutsideFault.TheVariants as outside
use Rattle.load_csv.specs.declared.loads.LoadFault.{LoadFault}
use Rattle.load_csv.specs.declared.loads.LoadFault.TheVariants as fault
use Rattle.pk_model.specs.declared.calls.Reply.{Reply}
use Rattle.pk_model.specs.declared.calls.Reply.TheVariants as reply
use Rattle.script_text.specs.declared.outcomes.Outcome.{Outcome}
use Rattle.script_text.specs.declared.outcomes.Outcome.TheVariants as outcome
use Rattle.script_text.specs.declared.outcomes.Item.{Item}
use Rattle.script_text.specs.declared.outcomes.ItemPart.{ItemPart}
use Rattle.script_text.specs.declared.outcomes.ItemPart.TheVariants.{Whole, First, Last, GaveUp}

-- the cells after the first
abbrev pub later_cells : List Value → List ℕ
later_cells cells = flat_map (λ v. 44 ∷ cell_text v) cells

abbrev pub cells_text : List Value → List ℕ
cells_text [] = []
cells_text (v ∷ vs) = cell_text v ++ later_cells vs

-- the cells with commas between, and a line feed
abbrev pub row_text : List Value → List ℕ
row_text row = cells_text row ++ 10 ∷ []

abbrev pub rows_text : List (List Value) → List ℕ
rows_text rows = flat_map row_text rows

abbrev pub IsWritableRow : List Value → Type 0
IsWritableRow row = All IsWritable row

-- each day in the rows is one of the years 0 to 9999
abbrev pub AreWritable : List (List Value) → Type 0
AreWritable rows = All IsWritableRow rows

-- `b` and `e` at the first and the last turn of a job, `g` at its giving up
abbrev pub part_mark : ItemPart → List ℕ
part_mark Whole = []
part_mark First = 98 ∷ []
part_mark Last = 101 ∷ []
part_mark GaveUp = 103 ∷ []

abbrev pub item_text : Item → List ℕ
item_text it = 32 ∷ (decimal it.job ++ part_mark it.part)

abbrev pub order_text : List Item → List ℕ
order_text order = codes "order" ++ flat_map item_text order ++ 10 ∷ []

abbrev pub hex_digit : ℕ → ℕ
hex_digit n = if nat_lt n 10 then 48 + n else 87 + n

-- two hexadecimal digits a byte
abbrev pub hex_byte : ℕ → List ℕ
hex_byte b = hex_digit (b / 16) ∷ hex_digit (b % 16) ∷ []

abbrev pub hex_text : List ℕ → List ℕ
hex_text bytes = flat_map hex_byte bytes

abbrev pub place_text : Part → List ℕ
place_text damaged.Footer = codes "footer"
place_text (damaged.Block b) = codes "block " ++ decimal b
place_text (damaged.Bucket b) = codes "bucket " ++ decimal b
place_text (damaged.Area a) = codes "area " ++ decimal a

abbrev pub shown_text : Shown → List ℕ
shown_text (shown.Digests kept found) = codes "kept " ++ hex_text kept.bytes ++ codes " found " ++ hex_text found.bytes
shown_text shown.Form = codes "form"
shown_text shown.Absent = codes "absent"

abbrev pub damaged_part_text : ℕ → Part → List ℕ
damaged_part_text file part = codes "damaged file " ++ decimal file ++ codes " " ++ place_text part

abbrev pub damaged_text : Damaged → List ℕ
damaged_text d = damaged_part_text d.file d.part ++ codes " " ++ shown_text d.shown

abbrev pub reply_text : Reply → List ℕ
reply_text (reply.Published v) = codes "published " ++ decimal v
reply_text (reply.Opened v) = codes "opened " ++ decimal v
reply_text (reply.Begun v) = codes "begun " ++ decimal v
reply_text (reply.Compacted before after rows late) =
    codes "compacted " ++ decimal before ++ codes " " ++ decimal after ++ codes " rows " ++ decimal rows ++ codes " late " ++ decimal late
reply_text (reply.Floor v) = codes "floor " ++ decimal v
reply_text (reply.Stat floor version rows rowsets) =
    codes "stat floor " ++ decimal floor ++ codes " version " ++ decimal version ++ codes " rows " ++ decimal rows ++ codes " rowsets " ++ decimal rowsets
reply_text reply.GaveUp = codes "gave-up"
reply_text (reply.Expired v) = codes "expired " ++ decimal v
reply_text (reply.NotYet v) = codes "not-yet " ++ decimal v
reply_text (reply.Busy v) = codes "busy " ++ decimal v
reply_text reply.ManyVersions = codes "many-versions"
reply_text (reply.Closed p) = codes "closed " ++ decimal p
reply_text (reply.StoreFault n) = codes "store-fault"
reply_text (reply.Damaged d) = damaged_text d
reply_text reply.Memory = codes "memory"
reply_text reply.NoPlan = codes "no-plan"
reply_text (reply.Worn n) = codes "worn " ++ decimal n

-- what a load fault is called
abbrev pub load_word : LoadFault → List ℕ
load_word fault.NoHeader = codes "load-fault no-header"
load_word (fault.UnknownName c) = codes "load-fault unknown-name column "
load_word (fault.NameTwice c) = codes "load-fault name-twice column "
load_word (fault.Missing i) = codes "load-fault missing column "
load_word (fault.NoDefault i) = codes "load-fault no-default column "
load_word fault.ManyRows = codes "load-fault many-rows"
load_word (fault.Width r) = codes "load-fault width row "
load_word (fault.BadOp r) = codes "load-fault bad-op row "
load_word (fault.BadCell r c) = codes "load-fault bad-cell row "
load_word (fault.KeyTooLong r l) = codes "load-fault key-too-long row "
load_word fault.Memory = codes "memory"

-- where it is: rows are those of the file behind its header, columns those of the file, but the table's where one is missing or has no default
abbrev pub load_place : LoadFault → List ℕ
load_place fault.NoHeader = []
load_place (fault.UnknownName c) = decimal c
load_place (fault.NameTwice c) = decimal c
load_place (fault.Missing i) = decimal i
load_place (fault.NoDefault i) = decimal i
load_place fault.ManyRows = []
load_place (fault.Width r) = decimal r
load_place (fault.BadOp r) = decimal r
load_place (fault.BadCell r c) = decimal r ++ codes " column " ++ decimal c
load_place (fault.KeyTooLong r l) = decimal r ++ codes " length " ++ decimal l
load_place fault.Memory = []

abbrev pub load_text : LoadFault → List ℕ
load_text f = load_word f ++ load_place f

abbrev pub outside_text : OutsideFault → List ℕ
outside_text outside.Fault = codes "fault"
outside_text (outside.Damaged d) = damaged_text d
outside_text outside.Memory = codes "memory"

-- a line, and behind that of a scan its rows
abbrev pub outcome_text : Outcome → List ℕ
outcome_text (outcome.Turn r) = reply_text r ++ 10 ∷ []
outcome_text (outcome.Rows v count text) = codes "opened " ++ decimal v ++ codes " rows " ++ decimal count ++ 10 ∷ [] ++ text
outcome_text (outcome.Load f) = load_text f ++ 10 ∷ []
outcome_text (outcome.Outside f) = outside_text f ++ 10 ∷ []
outcome_text outcome.NotRun = codes "not-run\n"

-- a line for each job, numbered from n, and a scan's rows after it
abbrev pub jobs_text : ℕ → List Outcome → List ℕ
jobs_text n [] = []
jobs_text n (o ∷ os) = codes "job " ++ decimal n ++ 32 ∷ outcome_text o ++ jobs_text (n + 1) os

-- the order of the turns, and what became of each job
abbrev pub report : List Item → List Outcome → List ℕ
report order outcomes = order_text order ++ jobs_text 1 outcomes
