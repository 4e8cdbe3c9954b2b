pub mod Escaping
pub mod Green
pub mod Plain
pub mod Without
