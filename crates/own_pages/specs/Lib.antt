pub mod OwnPages
