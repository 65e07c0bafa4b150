-- Opens every definition of this crate and of those below it: an example that is computed says `unfolding computing`.
-- Assumes nothing.
use Rattle.appointments.specs.Computing as Appointments
use Rattle.multigraph.specs.Computing as Multigraph
use Rattle.regular_graph.specs.Evening.{add_appointments, new_parties, even_out_pair, even_out_next, even_out}

-- the name under which all of them are opened
unfoldable pub computing : Unit {0}
unfolding Appointments.computing Multigraph.computing add_appointments new_parties even_out_pair even_out_next even_out
computing = tt
