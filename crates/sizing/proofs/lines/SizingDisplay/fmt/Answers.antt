use Rattle.sizing.proofs.lines.SizingDisplay.fmt.Goals as goal

pub returns-clause-writes : goal.returns-clause-writes
returns-clause-writes g c p o = rw (← c.yes_or_no-met.ensures) (c.write.ensures.writes p o)
