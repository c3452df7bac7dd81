pub mod Accuracy
pub mod ClosedLoop
pub mod RowsThenColumns
