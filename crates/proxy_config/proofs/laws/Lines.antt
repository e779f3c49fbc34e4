-- Lines and their parts are read exactly where they are spelled.
pub use Rattle.proxy_config.proofs.LineLaws.{IsAddressOf, line_found, octets_found, read_is_line}
pub use Rattle.proxy_config.proofs.SpelledLines.{address_lacks, line_read, octets_read}
pub use Rattle.proxy_config.proofs.DraftedLines.{keeps_more, may_is}
