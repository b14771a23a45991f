use Rattle.room_core.proofs.settling.EachDecides.{each_decides, each_settled, few_waiting, others_crash}
use Rattle.room_core.proofs.laws.each_is_settled_for.Goals as goal

pub returns-clause-each : goal.returns-clause-each
returns-clause-each c = λ room fields limits are left j low. each_settled room fields limits are left j low

pub returns-clause-few : goal.returns-clause-few
returns-clause-few c = λ room fields limits are left. few_waiting room fields limits are left

pub returns-clause-decides : goal.returns-clause-decides
returns-clause-decides c = λ room fields limits are left f certified few. each_decides room fields limits are left f certified few

pub returns-clause-others_crash : goal.returns-clause-others_crash
returns-clause-others_crash c = λ room fields limits are left f certified few. others_crash room fields limits are left f certified few
