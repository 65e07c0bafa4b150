-- `rbmg_edge_color` ends: the degree is the measure, and it calls itself with half of it. Assumes nothing.
use Rattle.edge_color.proofs.+rbmg_edge_color.Given as goal

abbrev pub decreases-rbmg_edge_color : goal.decreases-rbmg_edge_color
decreases-rbmg_edge_color l = l.graph.d
