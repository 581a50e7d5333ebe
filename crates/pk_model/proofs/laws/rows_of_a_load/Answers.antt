use Rattle.pk_model.proofs.LineLaws.{last-line-acts, other-keys}
use Rattle.pk_model.proofs.LawfulLaws.{deleted-then-new, lawful-keeps-keys}
use Rattle.pk_model.proofs.laws.rows_of_a_load.Goals as goal

pub returns-clause-new_after_delete : goal.returns-clause-new_after_delete
returns-clause-new_after_delete c = deleted-then-new

pub returns-clause-keys_first : goal.returns-clause-keys_first
returns-clause-keys_first c = lawful-keeps-keys

pub returns-clause-last_line : goal.returns-clause-last_line
returns-clause-last_line c = last-line-acts

pub returns-clause-other_keys : goal.returns-clause-other_keys
returns-clause-other_keys c = other-keys
