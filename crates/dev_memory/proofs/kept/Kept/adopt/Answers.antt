use Rattle.std.proofs.Common.{◌≡◌, ◌+◌, [], ◌∷◌, ◌++◌, length, refl, ◌∙◌, ap, arith}
use Rattle.std.specs.List.{list_all}
use Rattle.std.proofs.lemmas.Bool.{and_from, le-leb}
use Rattle.std.proofs.lemmas.List.Folds.{list_all-append}
use Rattle.dev_memory.specs.Kept.{KeptView, has_short_bytes, held, grown, with_files}
use Rattle.dev_memory.specs.Disk.{deeds, ChangedFiles, settled_by, never}
use Rattle.dev_memory.specs.declared.call.File.{File}
use Rattle.dev_memory.proofs.Calls.{length-deeds}
use Rattle.dev_memory.proofs.Files.{settled-push}
use Rattle.dev_memory.proofs.Growing.{keep_files, files_after}
use Rattle.dev_memory.proofs.kept.Kept.adopt.Goals as goal

pub invariant_of-self : goal.invariant_of-self
invariant_of-self c =
    let f : File = record { number = c.args.number; bytes = c.args.bytes; from = c.len.result + 1; until = never } in
    let count : c.len.result ≡ length (deeds c.self.inside.pieces.items c.self.inside.calls.items) = omega (arith, c.len.ensures, c.self.inside.calls.ok, length-deeds c.self.inside.calls.items c.self.inside.pieces.items) in
    let settled = ap (list_all (settled_by (length (deeds c.self.inside.pieces.items c.self.inside.calls.items) + 1))) c.push_reserved-2.ensures.items
    ∙ settled-push (length (deeds c.self.inside.pieces.items c.self.inside.calls.items)) _ c.self.inside.files.items f refl c.self.invariant.valid.settled (omega (arith, count)) refl in
    let short = ap (list_all has_short_bytes) c.push_reserved-2.ensures.items
    ∙ list_all-append has_short_bytes c.self.inside.files.items (f ∷ []) ∙ and_from _ _ c.self.invariant.valid.short_files (and_from _ _ (le-leb _ _ c.requires.short) refl) in
    keep_files _ _ _ _ _ _ _ _ _ _ c.self.invariant _ _ _ _ _ c.push_reserved.ensures.items settled short
    (omega (arith, c.self.invariant.for_calls, c.push_reserved.ensures.len, c.push_reserved.ensures.capacity))
    (omega (arith, c.self.invariant.for_files, c.push_reserved-2.ensures.len, c.push_reserved-2.ensures.capacity))

pub returns-clause-valid : goal.returns-clause-valid
returns-clause-valid c = (invariant_of-self c).valid

pub returns-clause-adopted : goal.returns-clause-adopted
returns-clause-adopted c =
    let f : File = record { number = c.args.number; bytes = c.args.bytes; from = c.len.result + 1; until = never } in
    let seen : length (deeds c.self.inside.pieces.items c.self.inside.calls.items) ≡ length c.args.self.now.held.deeds = ap (λ (k : KeptView). length k.held.deeds) c.self.view_is in
    let count : c.len.result + 1 ≡ length c.args.self.now.held.deeds + 1 = omega (arith, seen, c.len.ensures, c.self.inside.calls.ok, length-deeds c.self.inside.calls.items c.self.inside.pieces.items) in (
      f,
      record { number_is = refl; bytes_is = refl; from_is = count; until_is = refl },
      files_after _ _ _ _ _ _ _ _ _ _ c.self.invariant _ _ c.push_reserved.ensures.items
          ∙ ap (with_files (grown (held c.self.inside.start.items c.self.inside.pieces.items c.self.inside.calls.items c.self.inside.files.items) ChangedFiles)) c.push_reserved-2.ensures.items
          ∙ ap (λ (k : KeptView). with_files (grown k.held ChangedFiles) (k.held.files ++ f ∷ [])) c.self.view_is,
    )
