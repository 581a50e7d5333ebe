pub mod DayLemmas
pub mod DayTexts
pub mod NumberLemmas
pub mod NumberTexts
pub mod ReadLemmas
pub mod TextLemmas
