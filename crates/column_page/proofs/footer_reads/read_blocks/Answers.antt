use Rattle.std.proofs.Common.{◌+◌, ℕ, List, sym, subst, ap, ◌∙◌, length, []}
use Rattle.std.specs.Prelude.{All}
use Rattle.std.proofs.lemmas.List.{length_push}
use Rattle.std.proofs.lemmas.List.Elements.{All-push}
use Rattle.std.proofs.lemmas.Result.{err_from_is_err_and}
use Rattle.column_page.specs.declared.footers.BlockMark.{BlockMark}
use Rattle.column_page.specs.Footers.{block_bytes}
use Rattle.column_page.specs.FooterReading.{BlockFits, HaveElements}
use Rattle.column_page.proofs.SequenceFacts.{element_more, next_element}
use Rattle.column_page.proofs.Pieces.{ends_within, to_end}
use Rattle.column_page.proofs.footer_reads.read_blocks.Goals as goal

pub loop-i-preserved : goal.loop-i-preserved
loop-i-preserved c =
    let inv = c.loop-i.invariant in
    let read = c.in_ok-read.ensures in
    let len = c.in_ok-read.read.len in
    let pushed = c.in_ok-push_block.ensures.pushed in
    let bytes = c.args.bytes.now in
    let piece = to_end bytes c.loop-i.at in
    record {
      fit = subst (λ (vs : List BlockMark). All (BlockFits c.args.columns) vs) (sym pushed) (All-push (BlockFits c.args.columns) c.loop-i.blocks.items c.in_ok-read.read.block inv.fit read.fit);
      number = ap length pushed ∙ length_push c.loop-i.blocks.items c.in_ok-read.read.block ∙ ap (λ (n : ℕ). n + 1) inv.number;
      within = ends_within bytes _ c.loop-i.at len inv.within piece read.within;
      so_far = λ blocks rest then. subst (λ (vs : List BlockMark). HaveElements block_bytes vs (c.loop-i.i + 1) (c.loop-i.at + len) bytes blocks rest) (sym pushed)
          (let have = inv.so_far blocks rest then in
          let next = next_element (BlockFits c.args.columns) block_bytes c.args.count c.loop-i.i c.loop-i.at c.loop-i.blocks.items bytes _ blocks rest c.in_ok-read.read.block then c.loop-i-test.true have piece in
          let step = read.only _ _ next.fit next.stands in
          element_more (BlockFits c.args.columns) block_bytes c.args.count c.loop-i.i c.loop-i.at len c.loop-i.blocks.items c.in_ok-read.read.block bytes _ blocks rest c.in_ok-read.read.block then c.loop-i-test.true have piece step.0 step.1);
    }

pub returns-in_err-read-clause-none : goal.returns-in_err-read-clause-none
returns-in_err-read-clause-none c =
    let p = err_from_is_err_and c.from_residual.result c.from_residual.ensures.1 in
    rw (p.1, p.2) (λ is blocks rest then.
    let piece = to_end c.args.bytes.now c.loop-i.at in
    let next = next_element (BlockFits c.args.columns) block_bytes c.args.count c.loop-i.i c.loop-i.at c.loop-i.blocks.items c.args.bytes.now _ blocks rest (record { place = 0; length = 0; rows = 0; marks = [] }) then c.loop-i-test.true (c.loop-i.invariant.so_far blocks rest then) piece in
    c.in_err-read.ensures.none is _ _ next.fit next.stands)
