-- What publishing a partial load takes out of it, and what is held then.
use Rattle.std.specs.Prelude.{◌≡◌, ◌⊎◌, ℕ, ◌+◌, List, [], ◌∷◌, ◌++◌, map, length, true, false, Bool as Truth, ⊤, Option, Some, None, ◌<◌, ◌≤◌}
use Rattle.std.specs.List.{AllByRecursion}
use Rattle.dev_traits.specs.declared.faults.Damaged.{Damaged}
use Rattle.dev_traits.specs.declared.faults.ReadFault.{ReadFault}
use Rattle.dev_traits.specs.declared.faults.ReadFault.TheVariants as read
use Rattle.pk_model.specs.declared.calls.Reply.{Reply}
use Rattle.pk_model.specs.declared.calls.Reply.TheVariants as reply
use Rattle.index_level0.specs.declared.place.Place.{Place}
use Rattle.journal_form.specs.Versions.{Rowset as ListedRowset, published_rowsets}
use Rattle.rowsets.specs.Indexing.{CodeMove}
use Rattle.rowsets.specs.Steps.{HaveSame}
use Rattle.kept_versions.specs.Files.{can_die}
use Rattle.rowsets.specs.Marks.{stands_in}
use Rattle.tablet_state.specs.Contents.{Contents}
use Rattle.tablet_state.specs.Readies.{IsLed, NewSegment, new_files, next_contents}
use Rattle.tablet_state.specs.Moving.{total_reads}
use Rattle.tablet_state.specs.Snapshots.{SameButReads}
use Rattle.tablet_state.specs.State.{SegmentView, reads_of}
use Rattle.core_publish.specs.Publication.{entry_from}
use Rattle.core_publish.specs.Publishing.{StandsTwice, index_damage, stored_places}
use Rattle.core_partial.specs.Moving.{IsReadDamage, IsRemade, moved_keys}
use Rattle.core_partial.specs.Prepared.{AgainView, PreparedPartialView, made_move, nothing_again}

abbrev pub place_from : ℕ → Place → Place
place_from first p = record { segment = p.segment + first; row = p.row }

-- the rows that die: those at which the index has the keys now, and the superseded ones of the new files
abbrev pub dead_places : Contents → PreparedPartialView → AgainView → List Place
dead_places c p again = stored_places c.codes (map made_move p.keys) ++ map (place_from c.next_file) again.stale

-- where the keys stand then: at the rows made before the turn, but those that moved at the rows made again, whose files
-- are numbered behind the others
abbrev pub moves_after : ℕ → PreparedPartialView → AgainView → List CodeMove
moves_after first p again = map (entry_from first) (map made_move p.keys) ++ map (entry_from (first + length p.files)) again.moves

-- what was taken out of a prepared load for a change of what is held
pub record IsTakenOf (c : Contents) (p : PreparedPartialView) (again : AgainView) (made : List NewSegment)
    (dead : List Place) (moved : List CodeMove) : Type 0 where
  pub files_are : made ≡ p.files ++ again.files
  pub moved_are : moved ≡ moves_after c.next_file p again
  pub found : HaveSame dead (dead_places c p again)

-- What is held next, over every store: the load's files, and files of rows made again of exactly the keys that moved, of
-- their old rows now, make the next version; the rows at which the index had its keys die, and the superseded ones; and the index has the
-- keys' new places.
pub record IsHeldWith (c : Contents) (segments : List SegmentView) (p : PreparedPartialView) (next : Contents) : Type 0 where
  pub again : AgainView
  pub is : IsRemade c segments p again
  pub current : List ListedRowset
  pub body : List ℕ
  pub next_is : next ≡ next_contents (length (p.files ++ again.files)) current (moves_after c.next_file p again) c
  pub led : IsLed c (new_files c.next_file (p.files ++ again.files)) (dead_places c p again) body next

-- one row is to die twice, or one that is a live one neither of the current version nor of the new files
pub record IsWrongFor (c : Contents) (segments : List SegmentView) (p : PreparedPartialView) : Type 0 where
  pub again : AgainView
  pub is : IsRemade c segments p again
  pub wrong : StandsTwice (dead_places c p again)
      ⊎ ((q : Place) × (stands_in (dead_places c p again) q ≡ true)
      × (can_die (published_rowsets (new_files c.next_file (p.files ++ again.files)) c.current) q ≡ false))

-- what publishing may tell as damage
abbrev pub IsPublishDamage : Contents → List SegmentView → PreparedPartialView → Damaged → Type 0
IsPublishDamage c segments p d =
    IsReadDamage c segments (moved_keys c p.version p.keys) d ⊎ ((d ≡ index_damage) × IsWrongFor c segments p)

-- what is left of a prepared load that was used up
abbrev pub emptied : PreparedPartialView → PreparedPartialView
emptied p = record p { keys = []; rows = []; files = []; again = nothing_again; spent = true }

-- the reply to a fault, with the count of faults
abbrev pub reply_to : ReadFault → ℕ → Reply
reply_to read.StoreFault n = reply.StoreFault n
reply_to (read.Damaged d) n = reply.Damaged d
reply_to read.Memory n = reply.Memory

-- a fault that closes
abbrev pub closes_by : ReadFault → Truth
closes_by read.Memory = false
closes_by read.StoreFault = true
closes_by (read.Damaged d) = true

-- the replies to a load that wasn't refused
abbrev pub IsFinished : Reply → Type 0
IsFinished (reply.Published v) = ⊤
IsFinished (reply.StoreFault n) = ⊤
IsFinished (reply.Damaged d) = ⊤
IsFinished reply.Memory = ⊤
IsFinished r = ⊥

-- a place in one of so many files
abbrev pub IsBelow : ℕ → Option Place → Type 0
IsBelow n None = ⊤
IsBelow n (Some p) = p.segment < n

-- The readers of the segments that there were are read so often at most, all together; those of new files have read nothing.
pub record ReadsAtMost (count : ℕ) (old new : List SegmentView) : Type 0 where
  pub read : List SegmentView
  pub same : SameButReads old read
  pub most : total_reads read ≤ total_reads old + count
  pub more : List (ℕ × ℕ)
  pub new_are : reads_of new ≡ reads_of read ++ more
  pub unread : AllByRecursion (λ p. p.1 ≡ 0) more
