pub mod Sets
pub mod First
pub mod Sum
