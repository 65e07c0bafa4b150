-- `rbmg_edge_color_when_power_of_two` ends: the degree is the measure, and it calls itself with half of it. Assumes nothing.
use Rattle.edge_color.proofs.+rbmg_edge_color_when_power_of_two.Given as goal

abbrev pub decreases-rbmg_edge_color_when_power_of_two : goal.decreases-rbmg_edge_color_when_power_of_two
decreases-rbmg_edge_color_when_power_of_two l = l.graph.d
