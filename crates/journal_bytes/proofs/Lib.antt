pub mod BodiesTell
pub mod NoBody
pub mod NoSchema
pub mod Joined
