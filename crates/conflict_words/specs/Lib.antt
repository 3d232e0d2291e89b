pub mod Meanings
pub mod Todos
