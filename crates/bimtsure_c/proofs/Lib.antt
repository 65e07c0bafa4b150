pub mod Fitting
pub mod PlanNumbers
