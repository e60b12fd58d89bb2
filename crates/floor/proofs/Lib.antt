pub mod Layers
pub mod EdgesCounted
pub mod ExamplesLaws
pub mod FloorLaws
pub mod FloorRows
pub mod RoundTables
pub mod SidesLaws
