-- `halve_all` ends: the degree is the measure, and it calls itself with half of it. Assumes nothing.
use Rattle.matching.proofs.SearchGraph.+halve_all.Given as goal

abbrev pub decreases-halve_all : goal.decreases-halve_all
decreases-halve_all l = l.degree
