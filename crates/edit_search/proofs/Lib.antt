-- What a call hands back case by case, and which values lie between what it found.
pub mod FoundLaws
pub mod BetweenLaws
