pub mod TurnLaws
pub mod UndoLaws
pub mod BackLaws
pub mod Examples
