pub mod PaddingWords
pub mod FillingWords
pub mod StageWords
pub mod FillStage
pub mod EveningWords
