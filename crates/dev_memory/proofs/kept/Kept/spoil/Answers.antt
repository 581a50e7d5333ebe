use Rattle.std.proofs.Common.{◌≡◌, ◌++◌, List, length, take, drop, refl, sym, ◌∙◌, ap, subst, arith}
use Rattle.dev_memory.specs.Kept.{KeptView, has_short_bytes, held}
use Rattle.std.specs.List.{list_all}
use Rattle.std.specs.Ordering.{nat_cmp}
use Rattle.std.specs.FinMap.{get}
use Rattle.std.specs.FinMap.Entries.{find}
use Rattle.dev_memory.specs.Disk.{deeds, disk_now, entries_at, settled_by}
use Rattle.dev_memory.specs.Spoils.{ChangesOne, HasNoByte, Spoils}
use Rattle.dev_memory.specs.declared.call.File.{File}
use Rattle.dev_memory.proofs.Calls.{length-deeds}
use Rattle.dev_memory.proofs.Spoiling.{Changed, changed_or_same, no_byte, says, says_memory, says_same, spoils, whole_changed}
use Rattle.dev_memory.proofs.kept.Kept.spoil.Goals as goal

count : (c : goal.After-self-1) → c.len-calls.result ≡ length (deeds c.self.inside.pieces.items c.self.inside.calls.items)
count c = omega (arith, c.len-calls.ensures, c.self.inside.calls.ok, length-deeds c.self.inside.calls.items c.self.inside.pieces.items)

-- of the files as they were
before : (c : goal.After-self-1) → Changed (length (deeds c.self.inside.pieces.items c.self.inside.calls.items)) c.deref_mut.result.now c.change_file.new.files
before c = changed_or_same (length (deeds c.self.inside.pieces.items c.self.inside.calls.items)) c.args.number c.len-calls.result c.args.at c.args.byte c.deref_mut.result.now c.change_file.new.files
    _ c.change_file.result c.change_file.ensures.changed c.change_file.ensures.same c.change_file.ensures.memory

-- the vector's files then
whole : (c : goal.After-self-1) → take c.self.inside.files.len (c.change_file.new.files ++ drop (length c.change_file.new.files) c.self.inside.files.items) ≡ c.change_file.new.files
whole c = whole_changed c.self.inside.files.len c.self.inside.files.items c.change_file.new.files (sym c.self.inside.files.ok.0) ((before c).size ∙ ap length c.deref_mut.ensures.value)

pub invariant_of-self : goal.invariant_of-self
invariant_of-self c =
    let n = length (deeds c.self.inside.pieces.items c.self.inside.calls.items) in
    record {
      valid = record {
        three = c.self.invariant.valid.three;
        short = c.self.invariant.valid.short;
        short_files = ap (list_all has_short_bytes) (whole c) ∙ (before c).short (ap (list_all has_short_bytes) c.deref_mut.ensures.value ∙ c.self.invariant.valid.short_files);
        settled = ap (list_all (settled_by n)) (whole c) ∙ (before c).settled (ap (list_all (settled_by n)) c.deref_mut.ensures.value ∙ c.self.invariant.valid.settled);
      };
      reads = c.self.invariant.reads;
      fits = c.self.invariant.fits;
      rooms = c.self.invariant.rooms;
      for_calls = c.self.invariant.for_calls;
      for_files = c.self.invariant.for_files;
      for_pieces = c.self.invariant.for_pieces;
    }

pub returns-clause-valid : goal.returns-clause-valid
returns-clause-valid c = (invariant_of-self c).valid

pub returns-clause-spoilt : goal.returns-clause-spoilt
returns-clause-spoilt c =
    let start = c.self.inside.start.items in
    let pieces = c.self.inside.pieces.items in
    let calls = c.self.inside.calls.items in
    let old = held start pieces calls c.self.inside.files.items in
    let new = held start pieces calls (take c.self.inside.files.len (c.change_file.new.files ++ drop (length c.change_file.new.files) c.self.inside.files.items)) in
    says c.change_file.result _ _ _ _ c.change_file.ensures.changed
    (λ changed.
    let one : ChangesOne c.args.number c.len-calls.result c.args.at c.args.byte old.files new.files =
    subst (λ (l : List File). ChangesOne c.args.number c.len-calls.result c.args.at c.args.byte l new.files) c.deref_mut.ensures.value
    (subst (λ (l : List File). ChangesOne c.args.number c.len-calls.result c.args.at c.args.byte c.deref_mut.result.now l) (sym (whole c)) changed) in
    subst (λ (k : KeptView). Spoils c.args.number c.args.at c.args.byte (disk_now k.held) (disk_now new)) c.self.view_is
    (spoils c.args.number c.args.at c.args.byte c.len-calls.result old new refl refl (count c) one))
    (λ none.
    subst (λ (k : KeptView). HasNoByte c.args.at (get (disk_now k.held).files c.args.number)) c.self.view_is
    (no_byte c.args.number c.args.at c.len-calls.result old (count c)
    (subst (λ (l : List File). HasNoByte c.args.at (find nat_cmp c.args.number (entries_at c.len-calls.result l))) c.deref_mut.ensures.value none)))

pub returns-clause-same : goal.returns-clause-same
returns-clause-same c = says_same c.change_file.result _ _ c.change_file.ensures.same
    (λ is. ap (held c.self.inside.start.items c.self.inside.pieces.items c.self.inside.calls.items) (whole c ∙ is ∙ c.deref_mut.ensures.value) ∙ ap (λ (k : KeptView). k.held) c.self.view_is)

pub returns-clause-memory : goal.returns-clause-memory
returns-clause-memory c = says_memory c.change_file.result _ _ c.change_file.ensures.memory
    (λ is. ap (held c.self.inside.start.items c.self.inside.pieces.items c.self.inside.calls.items) (whole c ∙ is ∙ c.deref_mut.ensures.value) ∙ ap (λ (k : KeptView). k.held) c.self.view_is)
