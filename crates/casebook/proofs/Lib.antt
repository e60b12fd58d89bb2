pub mod CaseBookLaws
