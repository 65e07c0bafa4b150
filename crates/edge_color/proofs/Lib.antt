pub mod SplitHalves
pub mod SingleWords
pub mod PowerWords
pub mod AsideWords
pub mod CutSizes
pub mod ColorWords
