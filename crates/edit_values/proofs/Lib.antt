-- What the two stages do to the order, and what the search over places finds.
pub mod OrderedLaws
pub mod ProbeLaws
pub mod ValuesLaws
