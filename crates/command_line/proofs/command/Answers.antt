use Rattle.std.proofs.Common.{rules, ap₂, codes, true, ◌≡◌, ◌∙◌}
use Rattle.clap.specs.Words.{app_of, new_app, with_rule}
use Rattle.clap.specs.Simple.{on_top}
use Rattle.command_line.proofs.command.Goals as goal

pub returns : goal.returns
returns c =
    let bare_is : app_of c.no_binary_name-bare.result ≡ on_top (λ s. record s { no_binary_name = true }) (new_app (codes "pktablet")) = search rules in
    c.in_ok-made.ensures.shape c.word-script.ensures.local
    ∙ ap₂ with_rule (c.in_ok-arg-2.ensures.shape c.word-table.ensures.local ∙ ap₂ with_rule (c.in_ok-arg.ensures.shape c.word-job.ensures.local ∙ ap₂ with_rule bare_is c.word-job.ensures.rule) c.word-table.ensures.rule) c.word-script.ensures.rule
