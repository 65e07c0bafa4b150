pub mod Examples
pub mod GiveSlots
