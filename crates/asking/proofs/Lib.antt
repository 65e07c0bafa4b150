pub mod PartySlots
pub mod Between
pub mod WaitingLaws
pub mod Noting
pub mod WaitingSteps
