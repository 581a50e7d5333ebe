pub mod DeadRows
