-- Laws of the loop over the edits, and of the edits after an opening.
pub mod GoingLaws
pub mod StepsLaws
