pub mod Timetable
pub mod Reading
pub mod RecordLength
pub mod Checking
