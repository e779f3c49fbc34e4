pub mod Padding
pub mod Pieces
pub mod PreferredFields
