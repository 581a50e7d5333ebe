use Rattle.pk_model.proofs.LoadLaws as laws
use Rattle.pk_model.proofs.laws.one_result_per_key.Goals as goal

pub returns : goal.returns
returns c = laws.one_result_per_key
