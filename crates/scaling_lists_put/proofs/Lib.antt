-- Laws of lists compared and put into bits; each file builds only on those above it.
pub mod CompareLaws
pub mod PutLaws
