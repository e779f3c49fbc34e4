pub mod RowExtras
