-- Laws of writing scaling lists; each file builds only on those above it.
pub mod ValueLaws
pub mod WriterLaws
pub mod ReadBackLaws
