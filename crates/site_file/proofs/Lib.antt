pub mod AddedLaws
pub mod FileLines
pub mod GrownLaws
pub mod ItemsLaws
pub mod TakenLaws
pub mod ValueLaws
