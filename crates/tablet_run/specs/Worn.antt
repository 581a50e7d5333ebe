-- Numbers that have come to their end, and what bears them out.
use Rattle.std.specs.Prelude.{◌≡◌, ◌⊎◌, ℕ, ◌^◌, ◌≤◌, Some, None, ⊤}
use Rattle.dev_traits.specs.Image.{Image}
use Rattle.dev_traits.specs.View.{View, EachImage}
use Rattle.pk_model.specs.declared.calls.Reply.TheVariants as reply
use Rattle.script_text.specs.declared.outcomes.Outcome.{Outcome}
use Rattle.script_text.specs.declared.outcomes.Outcome.TheVariants as outcome
use Rattle.journal_form.specs.Meaning.{Standing}
use Rattle.journal_form.specs.Versions as journal
use Rattle.version_journal.specs.Images.{IsSaid}
use Rattle.tablet_state.specs.Contents.{Contents, current_number}
use Rattle.tablet_state.specs.State.{Shown}

-- the number of the next file, of the last edit or of the current version is at least n: of what a tablet holds, and of what records mean
abbrev pub Reaches : ℕ → Contents → Type 0
Reaches n c = (n ≤ c.next_file) ⊎ (n ≤ c.edit) ⊎ (n ≤ current_number c)

abbrev pub RecordsReach : ℕ → Standing → Type 0
RecordsReach n s = (n ≤ s.versions.next_file) ⊎ (n ≤ s.edit) ⊎ (n ≤ journal.current_number s.versions)

-- the records in force of an image give such a number
abbrev pub GivesNumber : ℕ → Image → Type 0
GivesNumber n image = (s : Standing) × IsSaid image s × RecordsReach n s

-- where an outcome tells a number at its end, this holds of it
abbrev pub OnWorn : Outcome → (ℕ → Type 0) → Type 0
OnWorn (outcome.Turn (reply.Worn n)) Holds = Holds n
OnWorn o Holds = ⊤

-- an open tablet has a number of at least n, which has come to its end
pub record IsWornOut {S : Type 0} (st : Shown S) (n : ℕ) : Type 0 where
  pub opened : st.closed ≡ None
  pub ended : 2 ^ 62 ≤ n
  pub reaches : Reaches n st.contents

-- A number at its end that a run told is borne out by the store that it left: by the records of what it reads as, and of whatever a crash may
-- leave of it.
pub record BearsOut (left : View) (n : ℕ) : Type 0 where
  pub ended : 2 ^ 62 ≤ n
  pub reads : (image : Image) × (left.seen ≡ Some image) × GivesNumber n image
  pub each : EachImage left (GivesNumber n)
