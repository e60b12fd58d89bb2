pub mod BallLaws
