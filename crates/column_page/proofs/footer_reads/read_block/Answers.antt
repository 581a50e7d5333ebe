use Rattle.std.proofs.Common.{◌≡◌, ◌+◌, ℕ, sym, ap, ◌∙◌, arith, length, drop}
use Rattle.std.proofs.lemmas.List.{drop-drop}
use Rattle.std.proofs.lemmas.Result.{err_from_is_err_and}
use Rattle.std.specs.List.{between}
use Rattle.column_page.specs.Footers.{mark_bytes}
use Rattle.column_page.specs.FooterReading.{MarkFits, SequenceThen}
use Rattle.column_page.proofs.FooterFacts.{after_length, after_place, block_is, block_open, length_told, place_told, rows_told}
use Rattle.column_page.proofs.SequenceFacts.{u32_long, u64_long}
use Rattle.column_page.proofs.Pieces.{to_end}
use Rattle.column_page.proofs.footer_reads.read_block.Goals as goal

pub returns-clause-only : goal.returns-clause-only
returns-clause-only c b rest fit e =
    let bytes = c.args.bytes.now in
    let n = length bytes in
    let place = c.in_ok-place.ensures.some in
    let len = c.in_ok-length.ensures.some in
    let rows = c.in_ok-rows.ensures.some in
    let p8 = to_end bytes 8 in
    let p12 = to_end bytes 12 in
    let p16 = to_end bytes 16 in
    let one = place_told c.args.columns c.in_ok-place.place bytes (between 8 n bytes) b rest fit e place.0 place.2 p8 in
    let two = length_told c.args.columns c.in_ok-length.length bytes (between 8 n bytes) (between 12 n bytes) b rest fit one.1 len.0 len.2 p8 p12 in
    let three = rows_told c.args.columns c.in_ok-rows.rows bytes (between 12 n bytes) (between 16 n bytes) b rest fit two.1 rows.0 rows.2 p12 p16 in
    let then : SequenceThen MarkFits mark_bytes c.args.columns (between 16 n bytes) b.marks rest = record { fit = fit.marks; number = fit.number; joined = sym three.1 } in
    let marks = c.in_ok-read.ensures.only b.marks rest then in
    let k = c.in_ok-read.read.len in
    let swap : k + 16 ≡ 16 + k = omega arith in
    (block_is _ _ _ _ b one.0 two.0 three.0 (c.from_vec-marks.ensures ∙ marks.0), ap (λ (m : ℕ). drop m bytes) swap ∙ sym (drop-drop k 16 bytes) ∙ ap (drop k) (sym p16) ∙ marks.1)

pub returns-in_err-place-clause-none : goal.returns-in_err-place-clause-none
returns-in_err-place-clause-none c =
    let p = err_from_is_err_and c.from_residual.result c.from_residual.ensures.1 in
    rw (p.1, p.2) (λ is b rest fit e.
    u64_long b.place c.args.bytes.now (after_place b rest) c.in_err-place.ensures.none (block_open b rest c.args.bytes.now e))

pub returns-in_err-length-clause-none : goal.returns-in_err-length-clause-none
returns-in_err-length-clause-none c =
    let p = err_from_is_err_and c.from_residual-in_err-length.result c.from_residual-in_err-length.ensures.1 in
    rw (p.1, p.2) (λ is b rest fit e.
    let bytes = c.args.bytes.now in
    let n = length bytes in
    let place = c.in_ok-place.ensures.some in
    let p8 = to_end bytes 8 in
    let one = place_told c.args.columns c.in_ok-place.place bytes (between 8 n bytes) b rest fit e place.0 place.2 p8 in
    u32_long b.length (between 8 n bytes) (after_length b rest) c.in_err-length.ensures.none (sym one.1))

pub returns-in_err-rows-clause-none : goal.returns-in_err-rows-clause-none
returns-in_err-rows-clause-none c =
    let p = err_from_is_err_and c.from_residual-in_err-rows.result c.from_residual-in_err-rows.ensures.1 in
    rw (p.1, p.2) (λ is b rest fit e.
    let bytes = c.args.bytes.now in
    let n = length bytes in
    let place = c.in_ok-place.ensures.some in
    let len = c.in_ok-length.ensures.some in
    let p8 = to_end bytes 8 in
    let p12 = to_end bytes 12 in
    let one = place_told c.args.columns c.in_ok-place.place bytes (between 8 n bytes) b rest fit e place.0 place.2 p8 in
    let two = length_told c.args.columns c.in_ok-length.length bytes (between 8 n bytes) (between 12 n bytes) b rest fit one.1 len.0 len.2 p8 p12 in
    u32_long b.rows (between 12 n bytes) _ c.in_err-rows.ensures.none (sym two.1))

pub returns-in_err-read-clause-none : goal.returns-in_err-read-clause-none
returns-in_err-read-clause-none c =
    let p = err_from_is_err_and c.from_residual-in_err-read.result c.from_residual-in_err-read.ensures.1 in
    rw (p.1, p.2) (λ is b rest fit e.
    let bytes = c.args.bytes.now in
    let n = length bytes in
    let place = c.in_ok-place.ensures.some in
    let len = c.in_ok-length.ensures.some in
    let rows = c.in_ok-rows.ensures.some in
    let p8 = to_end bytes 8 in
    let p12 = to_end bytes 12 in
    let p16 = to_end bytes 16 in
    let one = place_told c.args.columns c.in_ok-place.place bytes (between 8 n bytes) b rest fit e place.0 place.2 p8 in
    let two = length_told c.args.columns c.in_ok-length.length bytes (between 8 n bytes) (between 12 n bytes) b rest fit one.1 len.0 len.2 p8 p12 in
    let three = rows_told c.args.columns c.in_ok-rows.rows bytes (between 12 n bytes) (between 16 n bytes) b rest fit two.1 rows.0 rows.2 p12 p16 in
    let then : SequenceThen MarkFits mark_bytes c.args.columns (between 16 n bytes) b.marks rest = record { fit = fit.marks; number = fit.number; joined = sym three.1 } in
    c.in_err-read.ensures.none is b.marks rest then)
