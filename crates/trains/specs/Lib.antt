pub mod StepsOn
