pub mod LastAnswer
pub mod LineLaws
pub mod SpelledLines
pub mod DraftedLines
pub mod FirstMalformed
