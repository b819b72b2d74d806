mod WholeLaws
pub mod MeasureLaws
mod LowerLaws
mod Counters
