pub mod Places
pub mod Turns
pub mod Passes
pub mod Standing
pub mod Plays
