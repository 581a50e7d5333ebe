use Rattle.partial_loads.proofs.MoveFacts.{shared_place, read_is_row, unmoved_keeps_row, unmoved_keeps_result, each_is_located, places_tell_absent, moved_are, moved_once, moved_are_counted, few_reads, unmoved_unread, held_is_meanwhile}
use Rattle.partial_loads.proofs.StandingFacts.{codes_tell_standings, standings_count}
use Rattle.partial_loads.proofs.KeptFacts.{kept_version_stays, had_rows_stays}
use Rattle.partial_loads.proofs.laws.moving.Goals as goal

pub returns-clause-shared : goal.returns-clause-shared
returns-clause-shared c = shared_place

pub returns-clause-read : goal.returns-clause-read
returns-clause-read c = read_is_row

pub returns-clause-row : goal.returns-clause-row
returns-clause-row c = unmoved_keeps_row

pub returns-clause-result : goal.returns-clause-result
returns-clause-result c = unmoved_keeps_result

pub returns-clause-each : goal.returns-clause-each
returns-clause-each c = each_is_located

pub returns-clause-absent : goal.returns-clause-absent
returns-clause-absent c = places_tell_absent

pub returns-clause-moved : goal.returns-clause-moved
returns-clause-moved c = moved_are

pub returns-clause-once : goal.returns-clause-once
returns-clause-once c = moved_once

pub returns-clause-counted : goal.returns-clause-counted
returns-clause-counted c = moved_are_counted

pub returns-clause-found : goal.returns-clause-found
returns-clause-found c = standings_count

pub returns-clause-codes : goal.returns-clause-codes
returns-clause-codes c = codes_tell_standings

pub returns-clause-few : goal.returns-clause-few
returns-clause-few c = few_reads

pub returns-clause-unread : goal.returns-clause-unread
returns-clause-unread c = unmoved_unread

pub returns-clause-kept : goal.returns-clause-kept
returns-clause-kept c = kept_version_stays

pub returns-clause-had : goal.returns-clause-had
returns-clause-had c = had_rows_stays

pub returns-clause-held : goal.returns-clause-held
returns-clause-held c = held_is_meanwhile
