use Rattle.value_bytes.specs.Fields.{number}
use Rattle.value_bytes.specs.Telling.{counted-tells, number-tells, optional-tells, text-tells}
use Rattle.value_bytes.proofs.laws.fields.Goals as goal

pub returns-clause-numbers : goal.returns-clause-numbers
returns-clause-numbers c = number-tells

pub returns-clause-texts : goal.returns-clause-texts
returns-clause-texts c = λ w. text-tells (number w) (number-tells w)

pub returns-clause-lists : goal.returns-clause-lists
returns-clause-lists c = λ w v. counted-tells (number w) (number v) (number-tells w) (number-tells v)

pub returns-clause-absent : goal.returns-clause-absent
returns-clause-absent c = λ w. optional-tells (number w) (number-tells w)
