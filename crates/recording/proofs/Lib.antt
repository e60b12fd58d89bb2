pub mod FrontLaws
pub mod HeadLaws
