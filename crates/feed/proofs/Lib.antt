-- Laws of the feed; each file builds only on those above it.
pub mod StepLaws
pub mod FeedLaws
pub mod LocalLaws
