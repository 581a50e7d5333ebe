use Rattle.std.proofs.Common.{◌∙◌, arith, sym, length}
use Rattle.index_file.proofs.MakingFacts.{file_of, footer_made, level_of, made_footer, whole_file}
use Rattle.index_file.proofs.making.write_index.Goals as goal

pub returns-clause-footer : goal.returns-clause-footer
returns-clause-footer g c = footer_made c.args.entries.now c.in_ok-buckets.buckets c.requires c.in_ok-buckets.ensures.marks

pub returns-clause-sealed : goal.returns-clause-sealed
returns-clause-sealed g c bytes told =
    whole_file (level_of c.args.entries.now) (made_footer (length c.args.entries.now) c.in_ok-buckets.buckets) c.deref.result.now _ _ _ _ _ bytes
    (footer_made c.args.entries.now c.in_ok-buckets.buckets c.requires c.in_ok-buckets.ensures.marks)
    (c.deref.ensures.value ∙ c.in_ok-tail.ensures) c.in_ok-sealed.ensures.sealed c.in_ok-add.ensures.added c.in_ok-buckets.ensures.added.made c.in_ok-start.ensures.empty told

pub returns-clause-file : goal.returns-clause-file
returns-clause-file g c bytes told =
    let es = c.args.entries.now in
    let footer = footer_made es c.in_ok-buckets.buckets c.requires c.in_ok-buckets.ensures.marks in
    let bound = c.in_ok-add.ensures.bound bytes (sym c.in_ok-sealed.ensures.sealed ∙ told) in
    file_of es (made_footer (length es) c.in_ok-buckets.buckets) bytes c.requires c.in_ok-buckets.ensures.fit c.in_ok-buckets.ensures.few (omega (arith, bound)) footer
    (whole_file (level_of es) (made_footer (length es) c.in_ok-buckets.buckets) c.deref.result.now _ _ _ _ _ bytes footer
    (c.deref.ensures.value ∙ c.in_ok-tail.ensures) c.in_ok-sealed.ensures.sealed c.in_ok-add.ensures.added c.in_ok-buckets.ensures.added.made c.in_ok-start.ensures.empty told)
