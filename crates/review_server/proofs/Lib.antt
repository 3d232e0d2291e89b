pub mod Beginning
pub mod CallLaws
pub mod ShownRounds
