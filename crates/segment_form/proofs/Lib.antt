pub mod Fitting
pub mod Sizes
pub mod Bodies
pub mod Marks
pub mod Blocks
pub mod Rising
pub mod RowsInBlocks
