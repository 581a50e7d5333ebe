use Rattle.std.proofs.Common.{◌≡◌, ◌∙◌, ◌++◌, ap, List, Result, if◌then◌else◌, is_ok}
use Rattle.segment_write.specs.declared.segments.Made.{Made}
use Rattle.core_partial.proofs.prepared.PreparedPartial.take_with.Goals as goal

pub invariant_of-self : goal.invariant_of-self
invariant_of-self g c =
    let here : c.append.new.self.items ≡ c.self.inside.files.items =
    c.append.ensures.items ∙ ap (λ r. if is_ok r then c.self.inside.files.items ++ c.args.more.items else c.self.inside.files.items) c.in_err-append.was in
    (c.self.invariant.0, λ e. rw here (c.self.invariant.1 e))
