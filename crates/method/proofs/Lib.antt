pub mod MovesLaws
pub mod RingLaws
pub mod OrderTables
