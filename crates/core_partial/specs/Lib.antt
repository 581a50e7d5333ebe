pub mod Found
pub mod Prepared
pub mod Moving
pub mod Publishing
pub mod Results
pub mod Preparing
pub mod Again
pub mod Making
