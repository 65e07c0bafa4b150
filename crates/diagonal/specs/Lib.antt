pub mod Contract
pub mod DiagonalPlaces
