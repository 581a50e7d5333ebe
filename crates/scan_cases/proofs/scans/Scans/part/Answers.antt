use Rattle.std.proofs.Common.{subst}
use Rattle.pk_values.specs.Schemas.{Layout}
use Rattle.segment_read.specs.Footers.{HasFooter}
use Rattle.scan_cases.proofs.scans.Scans.part.Goals as goal

pub add-requires : goal.add-requires
add-requires c = λ file told. subst (λ (s : Layout). HasFooter s c.in-Ok-attach.segment.footer file) c.schema.ensures (c.in-Ok-attach.ensures.footer file told)
