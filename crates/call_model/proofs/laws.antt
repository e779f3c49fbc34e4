pub mod Fitting
pub mod Logs
pub mod RightDatagrams
pub mod Waiting
pub mod SoundTables
