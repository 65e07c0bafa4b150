pub mod ByParty
pub mod Answers
pub mod ManySteps
pub mod ByItself
pub mod Meaning
