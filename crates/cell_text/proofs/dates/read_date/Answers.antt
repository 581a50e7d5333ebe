use Rattle.std.proofs.Common.{◌≡◌, ◌∙◌, ◌+◌, ◌*◌, ℕ, ap, sym, arith}
use Rattle.cell_text.specs.Days.{civil_day, two_at}
use Rattle.cell_text.proofs.DayLemmas.{form_from, two_from}
use Rattle.cell_text.proofs.dates.read_date.Goals as goal

pub returns : goal.returns
returns c =
    let a = two_from c.args.bytes.now 0 c.in_ok-century.century c.in_ok-century.ensures in
    let b = two_from c.args.bytes.now 2 c.in_ok-year.year c.in_ok-year.ensures in
    let m = two_from c.args.bytes.now 5 c.in_ok-month.month c.in_ok-month.ensures in
    let d = two_from c.args.bytes.now 8 c.in_ok-day.day c.in_ok-day.ensures in
    let form = form_from c.args.bytes.now c.if-bytes-ne10.false a.0 b.0 c.if-bytes-ne45.false m.0 c.if-bytes-ne45-2.false d.0 in
    let y : c.from.result * 100 + c.from-2.result ≡ 100 * two_at c.args.bytes.now 0 + two_at c.args.bytes.now 2 =
    let f = c.from.ensures in let g = c.from-2.ensures in let p = a.1 in let q = b.1 in omega arith in
    c.civil_day.ensures ∙ ap (λ (n : ℕ). civil_day n c.in_ok-month.month c.in_ok-day.day) y
    ∙ ap (λ (n : ℕ). civil_day (100 * two_at c.args.bytes.now 0 + two_at c.args.bytes.now 2) n c.in_ok-day.day) m.1
    ∙ ap (λ (n : ℕ). civil_day (100 * two_at c.args.bytes.now 0 + two_at c.args.bytes.now 2) (two_at c.args.bytes.now 5) n) d.1
    ∙ sym form
