pub mod Parting
pub mod ReadingLaws
pub mod BrokenLaws
pub mod Digits
pub mod ParsingSteps
pub mod LinesSteps
pub mod Pieces
pub mod Coming
