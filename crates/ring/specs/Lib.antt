pub mod Circle
pub mod Order
pub mod Standing
