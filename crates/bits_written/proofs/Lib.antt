-- Laws of bits that are written; each file builds only on those above it.
pub mod BytesLaws
pub mod CodesLaws
pub mod PutLaws
pub mod Examples
