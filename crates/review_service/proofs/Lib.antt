pub mod FirstShown
pub mod StillShown
