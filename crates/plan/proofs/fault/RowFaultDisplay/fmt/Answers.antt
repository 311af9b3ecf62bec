use Rattle.plan.proofs.fault.RowFaultDisplay.fmt.Goals as goal

pub returns-in-Missing-clause-writes : goal.returns-in-Missing-clause-writes
returns-in-Missing-clause-writes g c = simp c.in-Missing.is c.write-in-Missing.ensures.writes

pub returns-in-Bad-clause-writes : goal.returns-in-Bad-clause-writes
returns-in-Bad-clause-writes g c = simp c.in-Bad.is c.write-in-Bad.ensures.writes
