pub mod FoundPages
