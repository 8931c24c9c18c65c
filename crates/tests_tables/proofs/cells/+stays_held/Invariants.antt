use Rattle.tests_tables.proofs.cells.+stays_held.Given as goal

abbrev pub decreases-stays_held : goal.decreases-stays_held
decreases-stays_held l = l.more
