pub mod Stack
pub mod Looking
