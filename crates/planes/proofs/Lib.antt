-- What a plane and a block give that row 13 does not refuse.
pub mod PictureLaws
