use Rattle.std.proofs.Common.{◌≡◌, sym, ◌∙◌, ◌+◌, ◌-◌, ◌<◌, length, arith, Some}
use Rattle.std.specs.List.{slice_get}
use Rattle.std.proofs.lemmas.Option.{slice_get_within}
use Rattle.pk_model.proofs.RunLaws.{ends-get}
use Rattle.pk_model.proofs.runs.Run.ends_at.Goals as goal

pub returns-in-Some : goal.returns-in-Some
returns-in-Some c =
    let ks = c.args.self.now.keys.items in
    let here : slice_get ks (length ks - 1) ≡ Some c.in-Some.last.now = rw (← c.deref.ensures.value) (sym c.in-Some.ensures.value) in
    let within : length ks - 1 < length ks = slice_get_within ks (length ks - 1) c.in-Some.last.now here in
    let last : (length ks - 1) + 1 ≡ length ks = omega arith in
    c.eq.ensures ∙ sym (ends-get c.args.key.now ks c.args.self.now.rows.items (length ks - 1) c.in-Some.last.now c.args.self.now.even last here)
