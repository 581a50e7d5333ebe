use Rattle.index_file.proofs.BucketFacts.{bucket_stands_there, bucket_tells, key_has_bucket}
use Rattle.index_file.proofs.FormFacts.{file_of_one_level}
use Rattle.index_file.proofs.IntactFacts.{buckets_number}
use Rattle.index_file.proofs.MadeFacts.{made_has_footer}
use Rattle.index_file.proofs.SequenceFacts.{bucket_of_one_list}
use Rattle.index_file.proofs.laws.files.Goals as goal

pub returns-clause-has : goal.returns-clause-has
returns-clause-has c = key_has_bucket

pub returns-clause-tells : goal.returns-clause-tells
returns-clause-tells c = bucket_tells

pub returns-clause-there : goal.returns-clause-there
returns-clause-there c = bucket_stands_there

pub returns-clause-one : goal.returns-clause-one
returns-clause-one c = file_of_one_level

pub returns-clause-one_list : goal.returns-clause-one_list
returns-clause-one_list c = bucket_of_one_list

pub returns-clause-made : goal.returns-clause-made
returns-clause-made c = made_has_footer

pub returns-clause-numbered : goal.returns-clause-numbered
returns-clause-numbered c = buckets_number
