mod Apart
mod Escapes
mod Keeping
