pub mod Bytes
pub mod FiledLaws
pub mod RoundTrip
pub mod ByIndex
pub mod WritingSteps
pub mod ReadingSteps
