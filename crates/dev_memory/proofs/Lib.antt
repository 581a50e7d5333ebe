mod Calls
pub mod FileFacts
mod Files
mod Keeping
mod Steps
mod Growing
mod Crashes
mod Leaving
mod Searching
mod Spoiling
mod Views
mod Beginning
