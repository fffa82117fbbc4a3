-- Laws of a feed in buffers; each file builds only on those above it.
pub mod FollowLaws
pub mod StepsLaws
pub mod WalkLaws
