pub mod FloorAnswer
pub mod Verdict
pub mod RingTables
pub mod Sides
pub mod Plannable
pub mod CaseBookOrders
