-- What a state replies to a call that opens a version or that counts.
use Rattle.std.specs.Prelude.{◌≡◌, ◌⊎◌, ℕ, length, Option, Some, None, ⊤, nat_lt, if◌then◌else◌, Result, Ok, Err}
use Rattle.pk_model.specs.declared.calls.Want.{Want}
use Rattle.pk_model.specs.declared.calls.Want.TheVariants.{Latest, At}
use Rattle.pk_model.specs.declared.calls.Reply.{Reply}
use Rattle.pk_model.specs.declared.calls.Reply.TheVariants as reply
use Rattle.journal_form.specs.Versions.{files_of}
use Rattle.kept_versions.specs.Files.{alive}
use Rattle.tablet_state.specs.Contents.{Contents, current_number}

-- a version is opened where it is kept
abbrev pub opening_of : Option ℕ → Contents → Want → Reply
opening_of (Some place) c want = reply.Closed place
opening_of None c Latest = reply.Opened (current_number c)
opening_of None c (At v) =
    if nat_lt v c.floor then reply.Expired c.floor
    else if nat_lt (current_number c) v then reply.NotYet (current_number c)
    else reply.Opened v

abbrev pub IsOpened : Reply → Type 0
IsOpened (reply.Opened v) = ⊤
IsOpened r = ⊥

-- the reply is that one, or want of memory where the version is kept
abbrev pub IsOpeningOf : Option ℕ → Contents → Want → Reply → Type 0
IsOpeningOf closed c want r =
    (r ≡ opening_of closed c want) ⊎ ((r ≡ reply.Memory) × IsOpened (opening_of closed c want))

-- the counts
abbrev pub stat_of : Option ℕ → Contents → Reply
stat_of (Some place) c = reply.Closed place
stat_of None c = reply.Stat c.floor (current_number c) (alive (files_of c.current)) (length c.current)

-- the reply to a version that is kept, or why it isn't
abbrev pub opened_or : Result ℕ Reply → Reply
opened_or (Ok v) = reply.Opened v
opened_or (Err r) = r
