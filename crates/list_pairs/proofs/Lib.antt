pub mod PlainLaws
pub mod RowsLaws
pub mod RepsLaws
pub mod Listed
pub mod BuildingLaws
pub mod PairsMade
