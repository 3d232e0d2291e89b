pub mod OnlyLaws
pub mod HeadlineLaws
pub mod RoundsLaws
pub mod RoundSteps
pub mod ServeLaws
pub mod ListenLaws
pub mod CallLaws
