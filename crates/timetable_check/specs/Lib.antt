pub mod Judging
pub mod Solutions
pub mod ByteString
