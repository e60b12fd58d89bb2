pub mod DecimalLaws
pub mod Decimal
pub mod Parts
pub mod LineLaws
pub mod Examples
