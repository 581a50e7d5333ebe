pub mod Schemas
pub mod Records
pub mod Bodies
pub mod Laws
pub mod RecordsTell
pub mod ReadRecords
