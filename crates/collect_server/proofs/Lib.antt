pub mod CallLaws
pub mod CollectorRounds
