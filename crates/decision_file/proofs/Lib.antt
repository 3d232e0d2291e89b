mod FileMore
mod LineSays
pub mod ShownMore
