pub mod Dealt
