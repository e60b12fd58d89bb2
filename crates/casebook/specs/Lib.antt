pub mod CaseBook
