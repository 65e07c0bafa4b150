-- the model's cases, for the code's proofs
pub mod ModelLaws
pub mod Mates
-- the walk on words, against the definition's
pub mod Following
pub mod Stacks
pub mod Live
pub mod Taking
pub mod Backing
pub mod StepRoom
pub mod Stepping
