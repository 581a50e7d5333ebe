use Rattle.std.proofs.Common.{ap, ap₂, codes, Some, ◌∙◌, sym, List, ℕ}
use Rattle.std.proofs.lemmas.Bool.{false≢true}
use Rattle.clap.specs.Words.{is_simple, matches_of, takes}
use Rattle.command_line.specs.Words.{texts}
use Rattle.command_line.proofs.Parse.{is_three, read_of, simple, script_is, table_is, taken}
use Rattle.command_line.proofs.parsed.Goals as goal

pub returns-in-Ok-try_get_matches_from-clause-files : goal.returns-in-Ok-try_get_matches_from-clause-files
returns-in-Ok-try_get_matches_from-clause-files c =
    let three = is_three (texts c.args.words.now) c.requires in
    let app_is = c.in-Ok.ensures in
    let has = (c.in-Ok-try_get_matches_from.ensures.matches (ap is_simple app_is ∙ simple)).0 ∙ ap₂ matches_of app_is three.words in
    let table = read_of c.in-Ok-try_get_matches_from.matches (codes "table") c.get_str.result _ _ _ has (table_is three.t) c.get_str.ensures in
    let script = read_of c.in-Ok-try_get_matches_from.matches (codes "script") c.get_str-in-Ok-try_get_matches_from.result _ _ _ has (script_is three.t) c.get_str-in-Ok-try_get_matches_from.ensures in
    three.files ∙ ap₂ (λ (a b : List ℕ). Some (record { table = a; script = b })) (sym (ap (λ s. s.now) c.unwrap_or.ensures ∙ table)) (sym (ap (λ s. s.now) c.unwrap_or-in-Ok-try_get_matches_from.ensures ∙ script))

pub returns-clause-memory : goal.returns-clause-memory
returns-clause-memory c =
    let three = is_three (texts c.args.words.now) c.requires in
    let takes_them = ap₂ takes c.in-Ok.ensures three.words ∙ taken three.t in
    let k = c.kind.ensures ∙ c.in-Err-try_get_matches_from.ensures.passes takes_them in
    absurd (false≢true (sym c.if-eq.false ∙ (rw k at c.eq.ensures)))
