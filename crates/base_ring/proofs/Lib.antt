pub mod MoveLaws
pub mod RingLaws
pub mod ExchangeLaws
pub mod SettleLaws
pub mod Examples
pub mod FromLaws
