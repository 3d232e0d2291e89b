pub mod Places
pub mod RoundLaws
