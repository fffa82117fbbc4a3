-- Laws of the listing; each file builds only on those above it.
pub mod StepLaws
pub mod RunLaws
