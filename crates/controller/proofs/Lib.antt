pub mod AnswerSizes
pub mod Judgements
pub mod LiveCalls
