pub mod CutLines
pub mod Fronts
pub mod Replies
pub mod SeenParts
pub mod SeenTop
pub mod SentParts
