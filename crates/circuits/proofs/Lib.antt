-- the model's cases, for the code's proofs
pub mod ModelLaws
-- the definition's walk at degree 2, circuit by circuit
pub mod Leading
pub mod CircuitTrails
pub mod CircuitTours
pub mod CircuitEnds
-- the circuits in words
pub mod CircuitHeld
pub mod CircuitFill
pub mod CircuitGraph
pub mod CircuitSteps
pub mod CircuitLists
pub mod CircuitWalk
pub mod CircuitGrounds
pub mod CircuitBegun
pub mod CircuitSplit
