pub mod LaneSteps
pub mod RoundLaws
pub mod FreshLaws
pub mod Counts
pub mod AloneLaws
pub mod EndLaws
