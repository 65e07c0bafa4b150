-- What the planning call's numbers stand for, and that D of its answer is small. Assumes nothing.
use Prim.Native.Nat.{ℕ, zero, suc, ◌≤◌, ◌<◌}
use mathlib.Core.Path.{◌≡◌, refl}
use native.Mathlib.Omega.{arith}
use Rattle.appointments.specs.Checks.{passed}
use Rattle.appointments.specs.Answers.{accepted, refused}
use Rattle.appointments.specs.Lent.{Lent}
use Rattle.checking.proofs.Answering.{d_small}
use Rattle.appointments.proofs.ChecksLaws.{good_goes_on}
use Rattle.appointments.proofs.LentLaws.{lent_passes}
use Rattle.planning.specs.Planning.{plan_answer}
use Rattle.planning.proofs.Demand3.{demand_3, refusal_small}
use Rattle.bimtsure_c.specs.Planned.{answer_by}

-- a number above 0 and a place stand for that refusal, whatever d is
pub refusal_by : (n i d : ℕ) → 0 < n → answer_by n i d ≡ refused n i
refusal_by zero i d h = absurd (omega arith)
refusal_by (suc n) i d h = refl

-- D of a plan is the largest load of a good list
pub planned_small : (l : Lent) (d : ℕ) → plan_answer l ≡ accepted d → d ≤ 8192
planned_small l d e =
    let demand = demand_3 l in
    let good = (lent_passes l (demand.only_passed d e)).good in
    omega (arith, (demand.plan d e).largest, d_small l.parties l.list (good_goes_on l.parties l.list passed good))

-- so both fit 32 bits
pub planned_fits : (l : Lent) (d : ℕ) → plan_answer l ≡ accepted d → d < 4294967296
planned_fits l d e = omega (arith, planned_small l d e)

pub plan_refusal_fits : (l : Lent) (n i : ℕ) → plan_answer l ≡ refused n i → i < 4294967296
plan_refusal_fits l n i e = omega (arith, (refusal_small l n i e).place)
