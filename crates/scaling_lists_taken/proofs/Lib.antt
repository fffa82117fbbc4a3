-- Which list a reference means, and the entries that are taken over.
pub mod NumberLaws
pub mod TakenLaws
