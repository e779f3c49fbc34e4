pub mod Lists
pub mod Common
pub mod laws
mod Placing
mod Arrivals
mod LineScores
mod Meanings
mod Finals
mod ListedRows
mod Rankings
mod SpelledParts
mod SpelledLines
mod SpelledListings
mod Filtered
mod Growing
mod FallingRows
mod GrownTables
mod AcceptedTexts
mod ListedForks
mod Formed
mod TreeRows
mod MalformedLines
pub mod FirstLines
