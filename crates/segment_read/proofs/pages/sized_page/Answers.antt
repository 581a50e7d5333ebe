use Rattle.std.proofs.Common.{arith}
use Rattle.segment_read.proofs.Sized.{sized_cut, sized_short}
use Rattle.segment_read.proofs.pages.sized_page.Goals as goal

pub returns-in_err-size-clause-none : goal.returns-in_err-size-clause-none
returns-in_err-size-clause-none c = rw c.from_residual.ensures (λ page rest short e. sized_short page rest c.args.bytes.now c.in_err-size.ensures.none e)

pub returns-then-rest-size-clause-none : goal.returns-then-rest-size-clause-none
returns-then-rest-size-clause-none c page rest short e =
    let size = c.in_ok-size.ensures.some in
    sized_cut c.in_ok-size.field-0 page rest c.args.bytes.now size.0 size.2 size.1 (omega arith) short e
