-- What the bound is made of, what the roundings come to, and the statements of specs/Closeness.antt, proved.
pub mod ExactLaws
pub mod NearLaws
pub mod ClosenessLaws
pub mod Examples
