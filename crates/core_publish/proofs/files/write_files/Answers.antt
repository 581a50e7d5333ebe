use Rattle.std.proofs.Common.{◌≡◌, ◌∙◌, ◌++◌, ◌∷◌, [], ap, sym, subst, rules, min, ℕ, map, length}
use Rattle.std.specs.Slice.Iter.{chunks_rest, chunks_size}
use Rattle.std.specs.Prelude.{List, Option}
use Rattle.std.proofs.lemmas.Option.{MatchOption-at_none}
use Rattle.column_page.specs.declared.footers.Footer.{Footer}
use Rattle.std.proofs.lemmas.List.{map-append}
use Rattle.segment_write.specs.declared.segments.Made.{Made}
use Rattle.core_publish.specs.Prepared.{EachTells}
use Rattle.core_publish.specs.Writing.{WritesOn}
use Rattle.core_publish.proofs.FileFacts.{chunk-long, chunk-rows, later-fit, later-rise, tells-more, writes-all, writes-more}
use Rattle.core_publish.proofs.files.write_files.Goals as goal

pub write_segment-requires : goal.write_segment-requires
write_segment-requires g c =
    let inv = c.loop-chunk.invariant in
    let steps = c.in-Some.ensures.steps in
    let rest = chunks_rest c.loop-chunk.chunk-iterator in
    let chunk = c.in-Some.chunk.now in
    let long : length chunk ≡ min 65536 (length rest) = chunk-long rest chunk (chunks_size c.loop-chunk.chunk-iterator) steps.1.1 inv.size in
    chunk-rows c.args.schema.now rest chunk (chunks_rest c.next.new.self) steps.1.0 long steps.1.2 inv.fit inv.rise

pub loop-chunk-preserved : goal.loop-chunk-preserved
loop-chunk-preserved g c =
    let inv = c.loop-chunk.invariant in
    let steps = c.in-Some.ensures.steps in
    let s = c.args.schema.now in
    let rest = chunks_rest c.loop-chunk.chunk-iterator in
    let chunk = c.in-Some.chunk.now in
    let later = chunks_rest c.next.new.self in
    let made = c.in_ok-made.made in
    let long : length chunk ≡ min 65536 (length rest) = chunk-long rest chunk (chunks_size c.loop-chunk.chunk-iterator) steps.1.1 inv.size in
    let see : Made g.row.M.Denot g.row.M-Sealed.Denot g.M.FileMaker → Option (List ℕ) × Footer = λ f. (g.M.FileMaker.sealed_bytes f.sealed, f.footer) in
    let pushed : map see c.push.new.self.items ≡ map see c.loop-chunk.files.items ++ see made ∷ [] =
    ap (map see) c.in_ok-push.ensures.items ∙ map-append see c.loop-chunk.files.items (made ∷ []) in
    let told = c.in_ok-made.ensures.told ∙ inv.tells in
    record {
      can_next = search rules;
      is_finite = search rules;
      size = steps.0 ∙ inv.size;
      fit = later-fit s rest chunk later steps.1.0 long inv.fit;
      rise = later-rise s rest chunk later steps.1.0 inv.rise;
      sealed =
          subst (λ fs. WritesOn s c.args.rows.now later fs) (sym pushed)
          (writes-more s c.args.rows.now rest chunk later (map see c.loop-chunk.files.items) (see made) steps.1.0 long steps.1.2 inv.sealed
          (chunk-rows s rest chunk later steps.1.0 long steps.1.2 inv.fit inv.rise) c.in_ok-made.ensures.sealed c.in_ok-made.ensures.footer);
      told = subst (EachTells _) (sym pushed) (tells-more _ (map see c.loop-chunk.files.items) (see made) inv.told told);
      tells = c.in_ok-made.ensures.tells ∙ inv.tells;
      unfailed = c.in_ok-made.ensures.cause.well (λ e. cc) ∙ inv.unfailed;
    }

pub returns-clause-sealed : goal.returns-clause-sealed
returns-clause-sealed g c =
    writes-all c.args.schema.now c.args.rows.now (chunks_rest c.loop-chunk.chunk-iterator) _
    (MatchOption-at_none _ _ c.in-None.is c.next.ensures.steps.1).0 c.loop-chunk.invariant.sealed
