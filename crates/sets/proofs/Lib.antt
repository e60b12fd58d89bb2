pub mod WordLaws
pub mod CountLaws
pub mod FirstLaws
pub mod SetLaws
