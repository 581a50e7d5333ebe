pub mod Parts
pub mod KeyOrder
pub mod KeyLemmas
pub mod DecodeLemmas
pub mod PrefixOrder
pub mod Drafting
pub mod Lengths
