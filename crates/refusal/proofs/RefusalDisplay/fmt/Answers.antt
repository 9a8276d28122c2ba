use Rattle.refusal.proofs.RefusalDisplay.fmt.Goals as goal

pub returns-clause-writes : goal.returns-clause-writes
returns-clause-writes g c = λ p o. simp c.number-number.ensures at (c.write.ensures.writes p o)
