-- Laws of scaling by a source.
pub mod ScaledLaws
