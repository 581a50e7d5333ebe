use Rattle.std.proofs.Common.{◌≡◌, ℕ, List, ◌++◌, length, refl, sym, ◌∙◌, ap, arith}
use Rattle.std.specs.List.{list_all}
use Rattle.std.proofs.lemmas.Bool.{and_from, le-leb}
use Rattle.dev_memory.specs.Kept.{KeptView}
use Rattle.dev_memory.specs.Disk.{deeds, entries_at, is_short}
use Rattle.dev_memory.specs.declared.call.File.{File}
use Rattle.dev_memory.proofs.Calls.{length-deeds}
use Rattle.dev_memory.proofs.Leaving.{image_left, image_read, image_synced}
use Rattle.dev_memory.proofs.kept.Kept.image.Goals as goal

are_three : (c : goal.In_ok-files) → length c.args.self.now.held.start ≡ 3
are_three c = sym (ap (λ (k : KeptView). length k.held.start) c.self.view_is) ∙ c.self.invariant.valid.three

-- the files that stand now
entries_now : (c : goal.In_ok-files) → entries_at c.len.result c.deref.result.now ≡ entries_at (length c.args.self.now.held.deeds) c.args.self.now.held.files
entries_now c =
    let count : c.len.result ≡ length (deeds c.self.inside.pieces.items c.self.inside.calls.items) = omega (arith, c.len.ensures, c.self.inside.calls.ok, length-deeds c.self.inside.calls.items c.self.inside.pieces.items) in
    ap (λ (l : List File). entries_at c.len.result l) c.deref.ensures.value
    ∙ ap (λ (n : ℕ). entries_at n c.self.inside.files.items) count
    ∙ ap (λ (k : KeptView). entries_at (length k.held.deeds) k.held.files) c.self.view_is

pub returns-clause-left : goal.returns-clause-left
returns-clause-left c =
    image_left c.args.self.now.held (are_three c) c.args.pick c.in_ok-areas.areas.items c.in_ok-first.first c.in_ok-second.second c.in_ok-third.third c.in_ok-files.files.items c.in_ok-files.ensures.kept.0
    c.in_ok-areas.ensures c.in_ok-first.ensures.left c.in_ok-second.ensures.left c.in_ok-third.ensures.left
    c.in_ok-files.ensures.short (c.in_ok-files.ensures.kept.1 ∙ ap (λ (l : List (ℕ × List ℕ)). l ++ c.in_ok-files.ensures.kept.0) (entries_now c))

pub returns-clause-read : goal.returns-clause-read
returns-clause-read c none =
    image_read c.args.self.now.held (are_three c) c.args.pick c.in_ok-areas.areas.items c.in_ok-first.first c.in_ok-second.second c.in_ok-third.third c.in_ok-files.files.items c.in_ok-files.ensures.kept.0
    c.in_ok-areas.ensures c.in_ok-first.ensures.left c.in_ok-second.ensures.left c.in_ok-third.ensures.left
    none (c.in_ok-files.ensures.read none ∙ entries_now c)

pub returns-clause-synced : goal.returns-clause-synced
returns-clause-synced c one =
    image_synced c.args.self.now.held (are_three c) c.args.pick c.in_ok-areas.areas.items c.in_ok-first.first c.in_ok-second.second c.in_ok-third.third c.in_ok-files.files.items c.in_ok-files.ensures.kept.0
    c.in_ok-areas.ensures c.in_ok-first.ensures.left c.in_ok-second.ensures.left c.in_ok-third.ensures.left one

pub returns-clause-short : goal.returns-clause-short
returns-clause-short c = record {
  areas = ap (list_all is_short) c.in_ok-areas.ensures
      ∙ and_from _ _ (le-leb _ _ c.in_ok-first.ensures.short) (and_from _ _ (le-leb _ _ c.in_ok-second.ensures.short) (and_from _ _ (le-leb _ _ c.in_ok-third.ensures.short) refl));
  files = c.in_ok-files.ensures.short;
}
