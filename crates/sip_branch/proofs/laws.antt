pub mod HexLaws
pub mod Tokens
