pub mod TypeNames
pub mod Tables
