use Rattle.std.proofs.Common.{◌≡◌, ℕ, ◌+◌, ◌-◌, ◌^◌, ◌<◌, List, [], ◌∷◌, get_or, take, drop, length, true, sym, ap, subst, ◌∙◌, arith}
use Rattle.journal_form.specs.declared.records.NewFile.{NewFile}
use Rattle.journal_form.specs.Versions.{above, bound, files_fit, numbers_of}
use Rattle.journal_replay.proofs.LoopFacts.{head_is}
use Rattle.journal_replay.proofs.SpanFacts.{span_above, span_short}
use Rattle.journal_replay.proofs.new_files.span_of.Goals as goal

short : (next : ℕ) (files rest : List NewFile) (x : NewFile) → files ≡ x ∷ rest → files_fit next (bound - 1) files ≡ true → x.file + (length rest + 1) < 2 ^ 63
short next files rest x e h =
    let lt = span_short next x rest (subst (λ (f : List NewFile). files_fit next (bound - 1) f ≡ true) e h) in
    omega arith

next_is : (next : ℕ) (files rest : List NewFile) (x : NewFile) → files ≡ x ∷ rest → files_fit next (bound - 1) files ≡ true → x.file + (length rest + 1) ≡ above next (numbers_of files)
next_is next files rest x e h =
    let is = span_above next x rest (subst (λ (f : List NewFile). files_fit next (bound - 1) f ≡ true) e h) in
    let sum : x.file + (length rest + 1) ≡ x.file + length (x ∷ rest) = omega arith in
    sum ∙ is ∙ ap (λ (f : List NewFile). above next (numbers_of f)) (sym e)

pub invariant_of-result : goal.invariant_of-result
invariant_of-result c = record { short = short c.args.next c.args.files.now _ _ (head_is (record { file = 0; rows = 0 }) c.args.files.now c.in-len1-up.len_at_least) c.requires }

pub returns-in-len1-up-clause-above : goal.returns-in-len1-up-clause-above
returns-in-len1-up-clause-above c = next_is c.args.next c.args.files.now _ _ (head_is (record { file = 0; rows = 0 }) c.args.files.now c.in-len1-up.len_at_least) c.requires
