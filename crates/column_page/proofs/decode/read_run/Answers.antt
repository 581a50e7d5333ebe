use Rattle.std.proofs.Common.{◌≡◌, ◌+◌, ◌++◌, ℕ, sym, ap, ◌∙◌, arith, drop}
use Rattle.std.proofs.lemmas.List.{drop-drop}
use Rattle.std.proofs.lemmas.Result.{err_from_is_err_and}
use Rattle.column_page.proofs.ReadFacts.{read_fails, read_step, u16_step}
use Rattle.column_page.proofs.Pieces.{to_end}
use Rattle.column_page.proofs.decode.read_run.Goals as goal

pub returns-clause-only : goal.returns-clause-only
returns-clause-only c r rest short is e =
    let bytes = c.args.bytes.now in
    let some = c.in-Some.ensures.some in
    let count = u16_step c.in-Some.count r.0 bytes (r.1 ++ rest) some.0 short some.2 e in
    let piece = to_end bytes 2 in
    let len = c.in_ok-read.read.len in
    let step = read_step c.args.column.now c.requires _ r.1 rest c.in_ok-read.read.value len is (sym count.1 ∙ sym piece) c.in_ok-read.ensures.fits c.in_ok-read.ensures.first in
    let swap : len + 2 ≡ 2 + len = omega arith in
    (count.0, step.0, ap (λ (n : ℕ). drop n bytes) swap ∙ sym (drop-drop len 2 bytes) ∙ ap (drop len) (sym piece) ∙ step.1)

pub returns-in_err-read-clause-none : goal.returns-in_err-read-clause-none
returns-in_err-read-clause-none c =
    let p = err_from_is_err_and c.from_residual.result c.from_residual.ensures.1 in
    rw (p.1, p.2) (λ is r rest short cell e.
    let bytes = c.args.bytes.now in
    let some = c.in-Some.ensures.some in
    let count = u16_step c.in-Some.count r.0 bytes (r.1 ++ rest) some.0 short some.2 e in
    let piece = to_end bytes 2 in
    read_fails c.args.column.now _ r.1 rest cell (sym count.1 ∙ sym piece) (c.in_err-read.ensures.none is))
