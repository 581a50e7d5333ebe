use Rattle.std.proofs.Common.{◌∙◌, ◌+◌, ◌<◌, ap, sym, subst, IfSome}
use Rattle.column_page.specs.declared.footers.FooterFields.{FooterFields}
use Rattle.row_merge.specs.Cursors.{CursorView}
use Rattle.snapshot_scan.specs.Parts.{PartView, seen}
use Rattle.snapshot_scan.specs.Scans.{HasLive}
use Rattle.snapshot_scan.proofs.CursorFacts.{ahead_is, cursor_is, cursor_rows, has_live, live_there, on_block, past}
use Rattle.snapshot_scan.proofs.PartFacts.{piece_long}
use Rattle.snapshot_scan.proofs.parts.read_on.Goals as goal

pub live_block-requires-clause-there : goal.live_block-requires-clause-there
live_block-requires-clause-there g c = live_there c.args.part.now.0.footer c.args.part.now.1 c.args.b c.requires.part.is c.requires.live

pub returns-in-Ok-clause-read : goal.returns-in-Ok-clause-read
returns-in-Ok-clause-read g c =
    let view = g.R.SealedReader.view in
    let dead = ap (λ (p : PartView). p.dead) c.in-Ok.ensures.kept in
    let rows = ap (λ (f : FooterFields). f.rows) c.fields.ensures.fields in
    record {
      reading = c.in-Ok.ensures.reading;
      within = live_there c.args.part.now.0.footer c.args.part.now.1 c.args.b c.requires.part.is c.requires.live;
      onward = subst (λ (d : CursorView). IfSome d.ahead (λ n. c.args.b < n)) (sym c.at.ensures) (past c.args.b c.fields.result.now.rows c.next_live.result c.next_live.ensures.there);
      cursor = cursor_is c.args.schema.now (seen view c.args.part.now) c.at.result c.in-Ok.live.items c.next_live.result c.at.ensures c.in-Ok.ensures.fit
          (subst (λ n. IfSome c.next_live.result (HasLive n c.args.part.now.1)) rows
          (subst (λ ds. IfSome c.next_live.result (HasLive c.fields.result.now.rows ds)) dead
          (has_live c.next_live.result c.fields.result.now.rows c.live_block.new.part.1 c.next_live.ensures.live)));
      some = λ none. c.in-Ok.ensures.some c.requires.live (sym (ap (λ (d : CursorView). d.rows) c.at.ensures) ∙ none);
      rows = λ piece of_part. cursor_rows c.at.result c.in-Ok.live.items c.next_live.result piece c.at.ensures
          ∙ on_block c.args.b piece c.in-Ok.live.items c.next_live.result (c.in-Ok.ensures.live piece of_part)
          (ahead_is c.next_live.result c.live_block.new.part.1 c.fields.result.now.rows (c.args.b + 1) piece (dead ∙ of_part.dead)
          (rows ∙ piece_long c.args.schema.now (seen view c.args.part.now) piece of_part) c.next_live.ensures.there c.next_live.ensures.before c.next_live.ensures.none);
      damaged = tt;
      intact = tt;
      whole = c.in-Ok.ensures.whole;
    }

pub returns-in-Err-clause-read : goal.returns-in-Err-clause-read
returns-in-Err-clause-read g c = record {
  reading = c.in-Err.ensures.reading;
  within = live_there c.args.part.now.0.footer c.args.part.now.1 c.args.b c.requires.part.is c.requires.live;
  onward = tt;
  cursor = tt;
  some = tt;
  rows = tt;
  damaged = c.in-Err.ensures.damaged;
  intact = c.in-Err.ensures.intact;
  whole = tt;
}
