pub mod PartySlots
pub mod Waiting
pub mod Noted
pub mod Spans
pub mod Computing
pub mod Examples
